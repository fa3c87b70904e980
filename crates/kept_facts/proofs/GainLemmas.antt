-- Answers are put among others, and what was told is taken from the front.
use Rattle.std.proofs.Common.{◌≡◌, ℕ, suc, ◌+◌, true, false, cond, List, [], ◌∷◌, ◌++◌, append_assoc, length, take, refl, ap, sym, ◌∙◌, arith}
use Rattle.std.specs.Prelude.{not, if◌then◌else◌}
use Rattle.std.specs.List.{insert, prefix_len}
use Rattle.hac_model.specs.Query.Terms.{is_term_before}
use Rattle.hac_model.specs.Tree.Asking.{put_answer, with_answers}
use Rattle.hac_model.specs.Tree.Mounting.{answers_to}
use Rattle.hac_model.specs.declared.states.Answer.{Answer}
use Rattle.hac_model.specs.declared.terms.Term.{Term}

-- an answer is put where those end that don't come behind it
pub put-place : (new : Answer) (answers : List Answer) → put_answer new answers ≡ insert answers (prefix_len (λ answer. not (is_term_before new.term answer.term)) answers) new
put-place new [] = refl
put-place new (answer ∷ answers) =
    let rest = prefix_len (λ answer. not (is_term_before new.term answer.term)) answers in
    let more : 1 + rest ≡ suc rest = omega arith in
    elim (is_term_before new.term answer.term) as (λ b. (if b then new ∷ answer ∷ answers else answer ∷ put_answer new answers) ≡ insert (answer ∷ answers) (cond (not b) (1 + rest) 0) new) [
      | true ↦ refl
      | false ↦ ap (λ (list : List Answer). answer ∷ list) (put-place new answers) ∙ ap (λ (k : ℕ). insert (answer ∷ answers) k new) (sym more)
    ]

-- some answers are still to be put among others, and the others were
pub record IsPutting (all answers left now : List Answer) : Type 0 where
  pub done : List Answer
  pub split : left ++ done ≡ all
  pub put : now ≡ with_answers done answers

pub putting-goes : (all answers left rest now new : List Answer) (answer : Answer) → IsPutting all answers left now → left ≡ rest ++ answer ∷ [] → new ≡ put_answer answer now → IsPutting all answers rest new
putting-goes all answers left rest now new answer h is put = record {
  done = answer ∷ h.done;
  split = sym (append_assoc rest (answer ∷ []) h.done) ∙ ap (λ (list : List Answer). list ++ h.done) (sym is) ∙ h.split;
  put = put ∙ ap (put_answer answer) h.put;
}

-- of what was told no more is taken than was asked
pub answers-taken : (terms : List Term) (told : List (List ℕ)) → answers_to terms (take (length terms) told) ≡ answers_to terms told
answers-taken [] told = refl
answers-taken (term ∷ terms) [] = refl
answers-taken (term ∷ terms) (numbers ∷ told) = ap (λ (rest : List Answer). record { term = term; documents = numbers } ∷ rest) (answers-taken terms told)
