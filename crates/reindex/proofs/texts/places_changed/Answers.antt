use Rattle.std.proofs.Common.{ℕ, List, subst, sym, ◌∙◌}
use Rattle.std.specs.Cmp.Lexicographic.{slice_cmp}
use Rattle.std.specs.List.Sorted.{IsStrictlySortedBy}
use Rattle.std.specs.Ordering.{nat_cmp}
use Rattle.hac_words.proofs.WordLemmas.{rising_words-rise}
use Rattle.reindex.proofs.texts.places_changed.Goals as goal

pub asking-requires-clause-old : goal.asking-requires-clause-old
asking-requires-clause-old c =
    subst (λ (words : List (List ℕ)). IsStrictlySortedBy (slice_cmp nat_cmp) words) (sym (c.as_slice.ensures ∙ c.in_ok-old.ensures)) (rising_words-rise c.args.old.now)

pub asking-requires-clause-new : goal.asking-requires-clause-new
asking-requires-clause-new c =
    subst (λ (words : List (List ℕ)). IsStrictlySortedBy (slice_cmp nat_cmp) words) (sym (c.as_slice-2.ensures ∙ c.in_ok-new.ensures)) (rising_words-rise c.args.new.now)
