-- What a move owes.
use Rattle.std.proofs.Common.{◌≡◌, ℕ, Bool, true, false, List, [], ◌∷◌, ◌++◌, refl, ap, sym, ◌∙◌, inr}
use Rattle.std.specs.Prelude.{◌==◌, ◌&&◌, ◌||◌, if◌then◌else◌, Option, Some, None, IsTrue, is_some}
use Rattle.std.specs.Option.{option_map, option_map_or}
use Rattle.std.proofs.lemmas.Bool.{eqb-true, or_parts}
use Rattle.hac_model.specs.Query.Formula.{Formula}
use Rattle.hac_model.specs.Tree.Depends.{named_in}
use Rattle.hac_model.specs.Tree.Events.{accepted, changed_at, is_inside, is_possible, reseated}
use Rattle.hac_model.specs.Tree.Facts.{Facts, edges_to, facts_of, facts_with, put_at}
use Rattle.hac_model.specs.Tree.Limits.{passed_limit}
use Rattle.hac_model.specs.Tree.Links.{is_item, is_semantic, lenders, parent_of, query_at}
use Rattle.hac_model.specs.Tree.Touched.{begins, is_the, touches}
use Rattle.hac_model.specs.Tree.Valid.{IsValid}
use Rattle.hac_model.specs.Tree.{entry_at, extends, is_directory_at, is_linkable, path_of}
use Rattle.hac_model.specs.declared.events.Event.TheVariants as event
use Rattle.hac_model.specs.declared.states.Entry.{Entry}
use Rattle.hac_model.specs.declared.states.State.{State}
use Rattle.hac_model.proofs.AcyclicLemmas.{apply-valid}
use Rattle.hac_model.proofs.ChangeLemmas.{entry_at-changed, touched}
use Rattle.hac_model.proofs.FactLemmas.{edges-told}
use Rattle.hac_model.proofs.MoveLemmas.{some-found}
use Rattle.hac_model.proofs.PathLemmas.{extends-parent}
use Rattle.hac_model.proofs.TreeLemmas.{Lives, entry_at-number}
use Rattle.hac_model.proofs.ValidLemmas.{accepted-parts, move-parts}
use Rattle.hac_model.proofs.ViewLemmas.{seen-changed, seen-kept}
use Rattle.reeval.proofs.AskOwes.{put-alike, put-answers}
use Rattle.reeval.proofs.EventLemmas.{FactsAlike, ItemSeen, Owes, item-lives, item_in, query_of, same-facts, unseen}
use Rattle.reeval.proofs.OweLemmas.{none-of, put-other}
use Rattle.reeval.proofs.StayLemmas.{StayUp, below-stays}

-- what can't be linked isn't seen, wherever it is
moved-unseen : (dir : ℕ) (name : List ℕ) (o : Option Entry) → option_map_or is_linkable (option_map (λ (e : Entry). e.body) o) false ≡ false → item_in o ≡ item_in (option_map (reseated dir name) o)
moved-unseen dir name None plain = refl
moved-unseen dir name (Some e) plain = unseen (Some e) plain ∙ sym (unseen (Some (reseated dir name e)) plain)

module _ (s : State) (item : ℕ) (h : IsValid s) (entry dir : ℕ) (name : List ℕ) (ok : IsTrue (accepted s (event.Mv entry dir name))) (untouched : touches s (event.Mv entry dir name) item ≡ false) where
  abbrev t : State
  t = changed_at s entry (reseated dir name)

  lives : Lives s.entries entry
  lives =
      let parts = move-parts s entry dir name (accepted-parts (is_possible s (event.Mv entry dir name)) (passed_limit t) ok).0 in
      inr (some-found s.entries entry parts.0)

  -- an item isn't inside of what moves
  outside : is_item s item ≡ true → is_inside s item entry ≡ false
  outside is = ap (λ (b : Bool). b && is_inside s item entry) (sym is) ∙ untouched

  move-sight : item_in (entry_at s.entries item) ≡ item_in (entry_at t.entries item)
  move-sight = at (item == entry) refl ∙ sym (seen-changed item_in s.entries entry (reseated dir name) (λ e. refl) item)
    where
      moved : Option ItemSeen
      moved = item_in (option_map (reseated dir name) (entry_at s.entries entry))

      plain : (b : Bool) → (item == entry) ≡ true → is_item s item ≡ b → is_item s item ≡ false
      plain false here none = none
      plain true here is = let never : true ≡ false = sym (ap (λ (b : Bool). b || extends (path_of s item) (path_of s entry)) here) ∙ outside is in absurd cc

      at : (b : Bool) → (item == entry) ≡ b → item_in (entry_at s.entries item) ≡ put_at (λ n. item_in (entry_at s.entries n)) entry moved item
      at false other = put-other (λ n. item_in (entry_at s.entries n)) entry moved item other
      at true here =
          moved-unseen dir name (entry_at s.entries item) (plain (is_item s item) here refl)
          ∙ ap (λ (n : ℕ). item_in (option_map (reseated dir name) (entry_at s.entries n))) (eqb-true item entry here)
          ∙ sym (ap (λ (b : Bool). if b then moved else item_in (entry_at s.entries item)) here)

  abbrev new : Facts
  new = facts_with s dir (query_at s entry) (facts_of s entry).marks (facts_of s entry)

  move-facts : (d : ℕ) → begins s (event.Mv entry dir name) d ≡ false → FactsAlike item (facts_of s d) (put_at (facts_of s) entry new d)
  move-facts d still = at (is_semantic s entry) refl
    where
      changes : is_the (if is_semantic s entry then Some entry else None) d ≡ false
      changes = (none-of (is_the (if is_semantic s entry then Some entry else None) d) false false still).0

      asks : (o : Option (Formula ℕ)) → query_at s entry ≡ o → is_some o ≡ false → (facts_of s entry).edges ≡ new.edges
      asks None none plain =
          sym (edges-told s entry)
          ∙ ap (λ (o : Option (Formula ℕ)). option_map_or (λ (asked : Formula ℕ). parent_of s entry ∷ named_in asked ++ lenders s entry) o []) none
          ∙ sym (ap (λ (o : Option (Formula ℕ)). edges_to (is_directory_at s.entries) dir o (facts_of s entry).marks.permanent) none)
      asks (Some asked) some plain = absurd cc

      at : (b : Bool) → is_semantic s entry ≡ b → FactsAlike item (facts_of s d) (put_at (facts_of s) entry new d)
      at true is = same-facts item (facts_of s d) (put_at (facts_of s) entry new d) (put-other (facts_of s) entry new d (ap (λ (b : Bool). is_the (if b then Some entry else None) d) (sym is) ∙ changes))
      at false plain = put-alike item (facts_of s) entry new d (record { edges = asks (query_at s entry) refl plain; added = refl; removed = refl })

  -- what isn't inside of what moves stays, with all that is above it
  move-up : StayUp s t (λ n. is_inside s n entry ≡ false)
  move-up n e stays found =
      let parts = or_parts (n == entry) (extends (path_of s n) (path_of s entry)) stays in
      let other : (e.number == entry) ≡ false = ap (λ (m : ℕ). m == entry) (entry_at-number s.entries n e found) ∙ parts.0 in (
        record {
          entry = touched entry (reseated dir name) e;
          found = entry_at-changed entry (reseated dir name) s.entries n (λ e. refl) ∙ ap (option_map (touched entry (reseated dir name))) found;
          parent = ap (λ (b : Bool). (if b then reseated dir name e else e).parent) other;
        },
        sym (extends-parent s n entry e h.layout lives found) ∙ parts.1,
      )

  pub move-owes : Owes s (event.Mv entry dir name) item
  move-owes = record {
    sight = move-sight;
    queries = λ d still. sym (seen-kept query_of s.entries entry (reseated dir name) (λ e. refl) (λ e. refl) d);
    facts = λ is. move-facts;
    answers = λ mount own term known. put-answers (facts_of s) entry new mount term refl;
    below = λ d before after is still.
        below-stays s t h.layout (apply-valid s (event.Mv entry dir name) h ok).layout (λ n. is_inside s n entry ≡ false) move-up d before after item (item-lives s item is) (outside is);
  }
