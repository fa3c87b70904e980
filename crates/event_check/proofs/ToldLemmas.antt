-- What mounts are told, question by question.
use Rattle.std.proofs.Common.{◌≡◌, ℕ, suc, ◌+◌, ◌<◌, ◌≤◌, Bool, true, false, List, [], ◌∷◌, ◌++◌, drop, length, get_or, refl, ap, sym, ◌∙◌, arith}
use Rattle.std.specs.Prelude.{◌==◌, ◌&&◌, take}
use Rattle.std.specs.List.{flat_map, list_all}
use Rattle.std.proofs.lemmas.Bool.{eq-eqb, eqb-false, eqb-true, ne_eqb}
use Rattle.std.proofs.lemmas.List.{drop_all, drop_more}
use Rattle.hac_model.specs.Query.Formula.{Formula}
use Rattle.hac_model.specs.Tree.Asking.{are_all_told, asked_by}
use Rattle.hac_model.specs.Tree.Bare.{bare}
use Rattle.hac_model.specs.Tree.Links.{answers_at}
use Rattle.hac_model.specs.Tree.Mounting.{are_told, do_rise_from, is_told}
use Rattle.hac_model.specs.declared.states.Entry.{Entry}
use Rattle.hac_model.specs.declared.states.State.{State}
use Rattle.hac_model.specs.declared.terms.Term.{Term}
use Rattle.kept_state.proofs.StateLemmas.{same-document, same-parent}
use Rattle.tree_answers.specs.Asked.{questions, questions_to}
use Rattle.tree_answers.specs.declared.asking.Question.{Question}
use Rattle.event_check.specs.Told.{are_answered}
use Rattle.hac_model.proofs.BoolLemmas.{and-false}

-- Two states whose trees are one.

module _ (s t : State) (bares : bare s ≡ bare t) where
  pub same-told : (mount : ℕ) (numbers : List ℕ) → is_told s mount numbers ≡ is_told t mount numbers
  same-told mount numbers = λ i. do_rise_from 0 numbers && list_all (λ n. same-document s t bares n i && (same-parent s t bares n i == mount)) numbers

  pub same-answered : (questions : List Question) (told : List (List ℕ)) → are_answered s questions told ≡ are_answered t questions told
  same-answered [] [] = refl
  same-answered [] (numbers ∷ told) = refl
  same-answered (question ∷ questions) [] = refl
  same-answered (question ∷ questions) (numbers ∷ told) = λ i. same-told question.mount numbers i && same-answered questions told i

-- The questions for a query.

module _ (s : State) (query : Formula ℕ) where
  abbrev pub questions-in : List Entry → List Question
  questions-in es = flat_map (λ (e : Entry). questions_to e.number (asked_by (answers_at s) query e)) es

  swap : (a b c d : Bool) → (a && ((b && c) && d)) ≡ ((b && (a && c)) && d)
  swap true true c d = refl
  swap true false c d = refl
  swap false true c d = refl
  swap false false c d = refl

  one-more : (a b : ℕ) → (a == b) ≡ (suc a == suc b)
  one-more a b = elim (a == b) as (λ v. (a == b) ≡ v → v ≡ (suc a == suc b)) [
    | true ↦ (λ is. let same = eqb-true a b is in sym (eq-eqb (suc a) (suc b) (omega (arith, same))))
    | false ↦ (λ is. sym (ne_eqb (suc a) (suc b) (λ same. eqb-false a b is (omega (arith, same)))))
  ] refl

  answered-split : (n : ℕ) (terms : List Term) (rest : List Question) (told : List (List ℕ)) →
      are_answered s (questions_to n terms ++ rest) told ≡ (are_told s n terms (take (length terms) told) && are_answered s rest (drop (length terms) told))
  answered-split n [] rest told = refl
  answered-split n (term ∷ terms) rest [] = sym (ap (λ (b : Bool). (b && true) && are_answered s rest []) (ne_eqb 0 (length (term ∷ terms)) (λ even. omega (arith, even))))
  answered-split n (term ∷ terms) rest (numbers ∷ told) =
      ap (λ (b : Bool). is_told s n numbers && b) (answered-split n terms rest told)
      ∙ swap (is_told s n numbers) (length (take (length terms) told) == length terms) (list_all (is_told s n) (take (length terms) told)) (are_answered s rest (drop (length terms) told))
      ∙ ap (λ (b : Bool). (b && (is_told s n numbers && list_all (is_told s n) (take (length terms) told))) && are_answered s rest (drop (length terms) told)) (one-more (length (take (length terms) told)) (length terms))

  answered-in : (es : List Entry) (told : List (List ℕ)) → are_answered s (questions-in es) told ≡ are_all_told s query told es
  answered-in [] [] = refl
  answered-in [] (numbers ∷ told) = sym (ne_eqb (length (numbers ∷ told)) 0 (λ even. omega (arith, even)))
  answered-in (e ∷ es) told =
      let asked : List Term = asked_by (answers_at s) query e in
      answered-split e.number asked (questions-in es) told
      ∙ ap (λ (b : Bool). are_told s e.number asked (take (length asked) told) && b) (answered-in es (drop (length asked) told))

  -- each question is answered where each mount was told all
  pub answered-told : (told : List (List ℕ)) → are_answered s (questions s query) told ≡ are_all_told s query told s.entries
  answered-told told = answered-in s.entries told

-- Answers, by what is left of them.

module _ (s : State) (questions : List Question) (told : List (List ℕ)) (i : ℕ) where
  abbrev pub AnsweredSoFar : Type 0
  AnsweredSoFar = are_answered s questions told ≡ are_answered s (drop i questions) (drop i told)

  pub answered-next : (question : Question) (numbers : List ℕ) (b : Bool) → i < length questions → i < length told → question ≡ get_or questions i question → numbers ≡ get_or told i numbers →
      is_told s question.mount numbers ≡ b → AnsweredSoFar → are_answered s questions told ≡ (b && are_answered s (drop (i + 1) questions) (drop (i + 1) told))
  answered-next question numbers b inside within is given passes so_far =
      so_far
      ∙ ap (λ (qs : List Question). are_answered s qs (drop i told)) (drop_more questions i question inside ∙ ap (λ (q : Question). q ∷ drop (i + 1) questions) (sym is))
      ∙ ap (λ (ns : List (List ℕ)). are_answered s (question ∷ drop (i + 1) questions) ns) (drop_more told i numbers within ∙ ap (λ (ns : List ℕ). ns ∷ drop (i + 1) told) (sym given))
      ∙ ap (λ (b : Bool). b && are_answered s (drop (i + 1) questions) (drop (i + 1) told)) passes

  pub answered-done : length questions ≤ i → length told ≤ i → AnsweredSoFar → are_answered s questions told ≡ true
  answered-done past behind so_far =
      so_far
      ∙ ap (λ (qs : List Question). are_answered s qs (drop i told)) (drop_all i questions past)
      ∙ ap (are_answered s []) (drop_all i told behind)

-- as many answers as questions
pub answered-even : (s : State) (questions : List Question) (told : List (List ℕ)) → (length told ≡ length questions → ⊥) → are_answered s questions told ≡ false
answered-even s [] [] odd = absurd (odd refl)
answered-even s [] (numbers ∷ told) odd = refl
answered-even s (question ∷ questions) [] odd = refl
answered-even s (question ∷ questions) (numbers ∷ told) odd =
    ap (λ (b : Bool). is_told s question.mount numbers && b) (answered-even s questions told (λ even. odd (omega (arith, even)))) ∙ and-false (is_told s question.mount numbers)
