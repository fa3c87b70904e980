-- Sums over all entries are small: a list that rises has no more numbers than there are items and directories.
use Rattle.std.proofs.Common.{inl, inr, ◌≡◌, ℕ, zero, suc, ◌^◌, ◌<◌, ◌≤◌, Bool, true, cond, List, [], length, get_or, refl, ap, subst, sym, arith}
use Rattle.std.specs.Prelude.{filter, sum_by, Option, None, IsTrue, is_some, option_and_then}
use Rattle.std.specs.List.{AllByRecursion, range_with_len}
use Rattle.std.specs.Option.{option_map, option_map_or}
use Rattle.std.proofs.lemmas.List.{length-map}
use Rattle.std.proofs.lemmas.List.Sums.{sum_by-le}
use Rattle.hac_model.specs.Query.Formula.{Formula}
use Rattle.hac_model.specs.Tree.Links.{DirLinks, can_be_added, has, is_item, is_lent, items, links, no_links, passes, permanent_at, prohibited_at, rounds, column, transient_at}
use Rattle.hac_model.specs.Tree.Limits.{semantic_count}
use Rattle.hac_model.specs.Tree.{entry_at, is_directory_at, is_linkable, permanent_in, prohibited_in, query_in}
use Rattle.hac_model.specs.Tree.Valid.{AreMarks, IsLayout, IsValid, RiseFrom}
use Rattle.hac_model.specs.declared.states.Entry.{Entry}
use Rattle.hac_model.specs.declared.states.State.{State}
use Rattle.hac_model.proofs.ChangeLemmas.{all-filter, all-weaker}
use Rattle.hac_model.proofs.ListedLemmas.{found-listed}
use Rattle.hac_model.proofs.LiveLemmas.{all-few, live-few, tested-entry}
use Rattle.hac_model.proofs.MarkLemmas.{all-passes, rise-filter}
use Rattle.hac_model.proofs.TreeLemmas.{Lives, directory-lives}
use Rattle.file_tree.specs.Answers.{numbers_of}
use Rattle.hac_model.proofs.RangeLemmas.{range-rises}
use Rattle.std.proofs.lemmas.Bool.{or_cases}

-- what counts little for each entry counts little for all
pub sum-small : (s : State) (f : ℕ → ℕ) → IsLayout s → ((n : ℕ) → f n ≤ 196609) → sum_by f (numbers_of s.entries) < 2 ^ 63
sum-small s f h few =
    let most = sum_by-le f 196609 (numbers_of s.entries) (λ k d less. few (get_or (numbers_of s.entries) k d)) in
    omega (arith, most, length-map s.entries (λ (e : Entry). e.number), all-few s h)

-- A number of no entry has no links and no marks.

-- no round finds anything for it
none-found : (s : State) (dir n : ℕ) → entry_at s.entries dir ≡ None → (rounds n s dir).found ≡ []
none-found s dir zero none = refl
none-found s dir (suc n) none =
    ap (λ (b : Bool). (cond b found no_links).found) (ap (λ (o : Option Entry). is_some (query_of o)) none)
  where
    query_of : Option Entry → Option (Formula ℕ)
    query_of o = option_and_then query_in (option_map (λ (e : Entry). e.body) o)

    found : DirLinks
    found = record {
      found = filter (λ item. passes s (column (rounds n s) item) dir item) (items s);
      lent = filter (λ item. is_lent s (column (rounds n s) item) dir item) (items s);
    }

-- so it found nothing
pub none-linked : (s : State) (dir : ℕ) → entry_at s.entries dir ≡ None → transient_at s dir ≡ []
unfolding links
none-linked s dir none = none-found s dir (semantic_count s.entries) none

-- nothing was added to it
pub none-added : (s : State) (dir : ℕ) → entry_at s.entries dir ≡ None → permanent_at s dir ≡ []
none-added s dir none = ap (λ (o : Option Entry). option_map_or permanent_in (option_map (λ (e : Entry). e.body) o) []) none

-- and nothing was removed from it
pub none-removed : (s : State) (dir : ℕ) → entry_at s.entries dir ≡ None → prohibited_at s dir ≡ []
none-removed s dir none = ap (λ (o : Option Entry). option_map_or prohibited_in (option_map (λ (e : Entry). e.body) o) []) none

-- Links and marks of a directory are few.

module _ (s : State) (h : IsValid s) where
  -- an item is live
  item-lives : (n : ℕ) → is_item s n ≡ true → Lives s.entries n
  item-lives n is = inr (tested-entry s.entries is_linkable n is)

  -- and so is what can be added
  markable-lives : (n : ℕ) → can_be_added s n ≡ true → Lives s.entries n
  markable-lives n is = elim (or_cases (is_item s n) (is_directory_at s.entries n) is) [ inl item ↦ item-lives n item | inr dir ↦ directory-lives s.entries n dir ]

  -- what it found are items that rise
  pub links-few : (dir : ℕ) → length (transient_at s dir) ≤ 196609
  links-few dir =
      let listed = found-listed s dir h.acyclic in
      let found : ℕ → Bool = λ item. has (transient_at s dir) item in
      let rise = subst (RiseFrom 0) (sym listed) (rise-filter found 0 (items s) (rise-filter (is_item s) 0 (range_with_len 0 s.next) (range-rises 0 s.next))) in
      let live = subst (AllByRecursion (Lives s.entries)) (sym listed)
      (all-filter (Lives s.entries) found (items s)
      (all-weaker (λ n. IsTrue (is_item s n)) (Lives s.entries) (items s) item-lives (all-passes (is_item s) (range_with_len 0 s.next)))) in
      live-few s (transient_at s dir) h.layout rise live

  -- marks rise, and are live
  marks-live : (test : ℕ → Bool) (ns : List ℕ) → ((n : ℕ) → test n ≡ true → Lives s.entries n) → AreMarks test ns → length ns ≤ 196609
  marks-live test ns live are = live-few s ns h.layout are.rise (all-weaker (λ n. IsTrue (test n)) (Lives s.entries) ns live are.there)

  -- so few were added, and few removed
  pub marks-few : (dir : ℕ) → AreMarks (can_be_added s) (permanent_at s dir) → AreMarks (is_item s) (prohibited_at s dir) → (length (permanent_at s dir) ≤ 196609) × (length (prohibited_at s dir) ≤ 196609)
  marks-few dir added removed = (marks-live (can_be_added s) (permanent_at s dir) markable-lives added, marks-live (is_item s) (prohibited_at s dir) item-lives removed)
