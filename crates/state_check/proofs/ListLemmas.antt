-- Numbers and terms that rise, and what is tested of each of several lists.
use Rattle.std.proofs.Common.{◌≡◌, ℕ, Bool, true, false, List, [], ◌∷◌, refl, ap, ◌∙◌}
use Rattle.std.specs.Prelude.{◌&&◌, Option, Some}
use Rattle.std.specs.List.{flat_map, list_all}
use Rattle.std.specs.Option.{option_map_or}
use Rattle.std.proofs.lemmas.Bool.{and_parts}
use Rattle.std.proofs.lemmas.List.Folds.{list_all-append}
use Rattle.hac_model.specs.Query.Terms.{is_term_before}
use Rattle.hac_model.specs.Tree.Valid.{RiseFrom, TermsRise}
use Rattle.hac_model.specs.Tree.ValidTest.{are_marks, do_numbers_rise, do_rise_from, do_terms_rise, is_layout}
use Rattle.hac_model.specs.declared.states.Answer.{Answer}
use Rattle.hac_model.specs.declared.states.State.{State}
use Rattle.hac_model.specs.declared.terms.Term.{Term}
use Rattle.layout_check.specs.Rising.{DoRise}
use Rattle.layout_check.proofs.RiseLemmas.{rises, tested}
use Rattle.hac_model.proofs.MountKeptLemmas.{rise-told}

-- marks that are sound rise
pub marks_rise : (test : ℕ → Bool) (ns : List ℕ) → are_marks test ns ≡ true → RiseFrom 0 ns
marks_rise test ns h = rise-told 0 ns (and_parts (do_rise_from 0 ns) (list_all (λ n. test n) ns) h).0

pub terms_rise : (last : Option Term) (answers : List Answer) → do_terms_rise last answers ≡ true
    → TermsRise last answers
terms_rise last [] h = tt
terms_rise last (answer ∷ answers) h =
    let parts = and_parts (option_map_or (λ before. is_term_before before answer.term) last true)
    (do_terms_rise (Some answer.term) answers) h in
    (parts.0, terms_rise (Some answer.term) answers parts.1)

first-part : (a b c d e f : Bool) → (a && b && c && d && e && f) ≡ true → a ≡ true
first-part true b c d e f h = refl
first-part false b c d e f h = h

pub layout_rises : (s : State) → is_layout s ≡ true → DoRise s.entries
unfolding is_layout
layout_rises s h = rises 0 s.entries s.next
    (tested 0 s.entries s.next (first-part (do_numbers_rise 0 s.entries s.next) _ _ _ _ _ h))

pub all_flat : {X Y : Type 0} (test : Y → Bool) (f : X → List Y) (xs : List X)
    → list_all test (flat_map f xs) ≡ list_all (λ x. list_all test (f x)) xs
all_flat test f [] = refl
all_flat test f (x ∷ xs) = list_all-append test (f x) (flat_map f xs)
    ∙ ap (λ (b : Bool). list_all test (f x) && b) (all_flat test f xs)
