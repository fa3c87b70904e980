-- How many links of each kind there are, by the lists that were found.
use Rattle.std.proofs.Common.{◌≡◌, ℕ, ◌-◌, ◌^◌, ◌<◌, ◌≤◌, Bool, true, List, [], length, refl, ap, sym, subst, ◌∙◌, arith, inl, inr}
use Rattle.std.specs.Prelude.{Option, Some, None, sum_by}
use Rattle.std.specs.Option.{option_map, option_map_or}
use Rattle.std.proofs.lemmas.Bool.{or_cases}
use Rattle.std.proofs.lemmas.Bool.Decides.{nat_tests}
use Rattle.hac_model.specs.Tree.Limits.{counts}
use Rattle.hac_model.specs.Tree.Links.{can_be_added, is_item, over_directories, permanent_at, permanent_count, prohibited_at, prohibited_count, transient_count}
use Rattle.hac_model.specs.Run.Play.{counts_line}
use Rattle.hac_model.specs.Tree.{entry_at, is_directory_at, permanent_in, prohibited_in}
use Rattle.hac_model.specs.Tree.Valid.{AreMarks, AsksWell, IsLayout, IsValid}
use Rattle.hac_model.specs.declared.counts.Counts.{Counts}
use Rattle.hac_model.specs.declared.limits.TheConstants.{NUMBERS_LIMIT}
use Rattle.hac_model.specs.declared.marks.Kind.{Kind}
use Rattle.hac_model.specs.declared.states.Body.{Body}
use Rattle.hac_model.specs.declared.states.Body.TheVariants.{Semantic}
use Rattle.hac_model.specs.declared.states.Entry.{Entry}
use Rattle.hac_model.specs.declared.states.State.{State}
use Rattle.hac_model.proofs.LimitLemmas.{limits-within, most-numbers}
use Rattle.hac_model.proofs.ValidLemmas.{directory-below}
use Rattle.hac_model.proofs.TreeLemmas.{entry_at-all}
use Rattle.file_tree.specs.Answers.{numbers_of}
use Rattle.link_kinds.specs.Kinds.{items_of}
use Rattle.link_kinds.specs.Seen.{Known, lists_in}
use Rattle.tree_answers.specs.Counting.{link_count}
use Rattle.hac_model.specs.Run.Showing.{line_of_counts}
use Rattle.tree_answers.proofs.PlainLemmas.{plain-counted}
use Rattle.tree_answers.proofs.RangeLemmas.{entries-sum}
use Rattle.tree_answers.proofs.SumLemmas.{sum-small}
use Rattle.kept_links.proofs.ItemLemmas.{item-below as file-below}

-- Numbers of a valid state.

pub next-few : (s : State) → IsLayout s → s.next ≤ NUMBERS_LIMIT
next-few s h = let most = most-numbers s (limits-within s h.limits) in grind (arith, nat_tests, most)

-- Links and marks of a valid state.

module _ (s : State) (h : IsValid s) where
  pub item-below : (n : ℕ) → is_item s n ≡ true → n < s.next
  item-below n is = file-below s n h.layout is

  pub markable-below : (n : ℕ) → can_be_added s n ≡ true → n < s.next
  markable-below n is = elim (or_cases (is_item s n) (is_directory_at s.entries n) is) [ inl item ↦ item-below n item | inr dir ↦ directory-below s n h.layout dir ]

  -- what is marked in a directory are marks: those of a semantic one, and none of any other
  pub are-marks : (dir : ℕ) → AreMarks (can_be_added s) (permanent_at s dir) × AreMarks (is_item s) (prohibited_at s dir)
  are-marks dir = by_entry (entry_at s.entries dir) refl
    where
      none : (test : ℕ → Bool) → AreMarks test []
      none test = record { rise = tt; there = tt }

      by_body : (b : Body) → AsksWell s b → AreMarks (can_be_added s) (permanent_in b) × AreMarks (is_item s) (prohibited_in b)
      by_body (Semantic query permanent prohibited) asks = (asks.added, asks.removed)
      by_body other asks = (none (can_be_added s), none (is_item s))

      by_entry : (o : Option Entry) → entry_at s.entries dir ≡ o → AreMarks (can_be_added s) (option_map_or permanent_in (option_map (λ (e : Entry). e.body) o) []) × AreMarks (is_item s) (option_map_or prohibited_in (option_map (λ (e : Entry). e.body) o) [])
      by_entry None none_at = (none (can_be_added s), none (is_item s))
      by_entry (Some e) there = by_body e.body (entry_at-all (λ e. AsksWell s e.body) s.entries dir e h.queries there)

  module _ (kind : Kind) (links : Known) (numbers : ℕ → List ℕ) (are : (dir : ℕ) → items_of kind (lists_in links dir) ≡ numbers dir) where
    -- links of a kind can be counted, where they are few
    pub can-count : ((dir : ℕ) → length (numbers dir) ≤ 196609) → link_count kind s links < 2 ^ 63
    can-count few = sum-small s (λ dir. length (items_of kind (lists_in links dir))) h.layout (λ dir. subst (λ (ns : List ℕ). length ns ≤ 196609) (sym (are dir)) (few dir))

    -- those of entries are all, where what no entry is has none
    pub count-told : ((dir : ℕ) → entry_at s.entries dir ≡ None → numbers dir ≡ []) → link_count kind s links ≡ over_directories s numbers
    count-told none =
        (λ i. sum_by (λ dir. length (are dir i)) (numbers_of s.entries))
        ∙ sym (entries-sum s.entries s.next h.layout.numbers (λ dir. length (numbers dir)) (λ dir absent. ap (λ (ns : List ℕ). length ns) (none dir absent)))

-- the line of a state is that of its counts
pub line-counted : (s : State) (k : Counts) (transient permanent prohibited : ℕ) (line : List ℕ) → k ≡ counts s → transient ≡ transient_count s → permanent ≡ permanent_count s → prohibited ≡ prohibited_count s → line ≡ line_of_counts k (k.directories - 1 - k.semantics - k.mounts) transient permanent prohibited → line ≡ counts_line s
line-counted s k transient permanent prohibited line same t p x told =
    told
    ∙ (λ i. line_of_counts (same i) ((same i).directories - 1 - (same i).semantics - (same i).mounts) (t i) (p i) (x i))
    ∙ ap (λ plain. line_of_counts (counts s) plain (transient_count s) (permanent_count s) (prohibited_count s)) (sym (plain-counted s).1)
