-- A state stays valid where its mounts keep what they were told for a query, and each then keeps an answer for each of
-- the query's terms.
use Rattle.std.proofs.Common.{◌≡◌, ℕ, Bool, true, false, List, [], ◌∷◌, length, refl, ap, sym, ◌∙◌, inl, inr}
use Rattle.std.specs.Prelude.{◌⊎◌, ◌||◌, not, filter, if◌then◌else◌, Option, Some, None, is_some}
use Rattle.std.specs.Option.{option_map_or}
use Rattle.std.specs.List.{AllByRecursion}
use Rattle.std.proofs.lemmas.Bool.{not-true, or_left, or_right}
use Rattle.hac_model.specs.Query.Formula.{Formula}
use Rattle.hac_model.specs.Query.Queries.{terms_of}
use Rattle.hac_model.specs.Query.Terms.{is_same_term, is_term_before}
use Rattle.hac_model.specs.Tree.Asking.{put_answer, unanswered, with_answers}
use Rattle.hac_model.specs.Tree.Mounting.{answers_to}
use Rattle.hac_model.specs.Tree.Mounts.{terms_in_order, is_kept, kept_for}
use Rattle.hac_model.specs.Tree.Valid.{TermsRise}
use Rattle.hac_model.specs.declared.states.Answer.{Answer}
use Rattle.hac_model.specs.declared.terms.Term.{Term}
use Rattle.hac_model.proofs.ChangeLemmas.{all-weaker}
use Rattle.hac_model.proofs.TermLemmas.{TermsChain, answers-kept, is_of, order-chain, order-of, same-even, same-own, term-irreflexive, term-trans, terms-even}

-- An answer is put among others.

-- the answer is kept, and the others stay
put-kept : (new : Answer) (answers : List Answer) (term : Term) → (is_same_term new.term term || is_kept answers term) ≡ true → is_kept (put_answer new answers) term ≡ true
put-kept new [] term h = elim (is_same_term new.term term) as (λ b. (b || false) ≡ true → is_some (if b then Some new.documents else None) ≡ true) [ true ↦ (λ _. refl) | false ↦ (λ h. absurd cc) ] h
put-kept new (first ∷ answers) term h =
    elim (is_term_before new.term first.term) as (λ b. is_kept (if b then new ∷ first ∷ answers else first ∷ put_answer new answers) term ≡ true) [
      | true ↦ elim (is_same_term new.term term) as (λ b. (b || is_kept (first ∷ answers) term) ≡ true → is_some (if b then Some new.documents else kept_for (first ∷ answers) term) ≡ true) [ true ↦ (λ _. refl) | false ↦ (λ h. h) ] h
      | false ↦ behind (put-kept new answers term)
    ]
  where
    behind : ((is_same_term new.term term || is_kept answers term) ≡ true → is_kept (put_answer new answers) term ≡ true) → is_some (if is_same_term first.term term then Some first.documents else kept_for (put_answer new answers) term) ≡ true
    behind put = elim (is_same_term first.term term) as (λ b. (is_same_term new.term term || is_some (if b then Some first.documents else kept_for answers term)) ≡ true → is_some (if b then Some first.documents else kept_for (put_answer new answers) term) ≡ true) [
      | true ↦ (λ _. refl)
      | false ↦ (λ h. put h)
    ] h

-- it has a term of its own, so the terms rise
put-rise : (last : Option Term) (new : Answer) (answers : List Answer) → option_map_or (λ before. is_term_before before new.term) last true ≡ true → is_kept answers new.term ≡ false → TermsRise last answers → TermsRise last (put_answer new answers)
put-rise last new [] after none h = (after, tt)
put-rise last new (first ∷ answers) after none h =
    elim (is_term_before new.term first.term) as (λ b. is_term_before new.term first.term ≡ b → TermsRise last (if b then new ∷ first ∷ answers else first ∷ put_answer new answers)) [
      | true ↦ (λ before. (after, (before, h.1)))
      | false ↦ (λ apart. (h.0, put-rise (Some first.term) new answers (behind apart (is_term_before first.term new.term) refl) (rest none) h.1))
    ] refl
  where
    same : is_same_term first.term new.term ≡ false
    same = elim (is_same_term first.term new.term) as (λ b. is_some (if b then Some first.documents else kept_for answers new.term) ≡ false → b ≡ false) [ true ↦ (λ none. absurd cc) | false ↦ (λ _. refl) ] none

    rest : is_kept (first ∷ answers) new.term ≡ false → is_kept answers new.term ≡ false
    rest none = elim (is_same_term first.term new.term) as (λ b. is_some (if b then Some first.documents else kept_for answers new.term) ≡ false → is_kept answers new.term ≡ false) [ true ↦ (λ none. absurd cc) | false ↦ (λ none. none) ] none

    behind : is_term_before new.term first.term ≡ false → (b : Bool) → is_term_before first.term new.term ≡ b → is_term_before first.term new.term ≡ true
    behind apart true is = is
    behind apart false is =
        let even : first.term ≡ new.term = terms-even first.term new.term is apart in
        let never : true ≡ false = sym (same-own new.term) ∙ ap (λ (t : Term). is_same_term t new.term) (sym even) ∙ same in
        absurd cc

put-all : (P : Answer → Type 0) (new : Answer) (answers : List Answer) → P new → AllByRecursion P answers → AllByRecursion P (put_answer new answers)
put-all P new [] p h = (p, tt)
put-all P new (first ∷ answers) p h =
    elim (is_term_before new.term first.term) as (λ b. AllByRecursion P (if b then new ∷ first ∷ answers else first ∷ put_answer new answers)) [
      | true ↦ (p, h)
      | false ↦ (h.0, put-all P new answers p h.1)
    ]

-- what isn't kept after a put is neither the term that was put nor kept before
put-none : (new : Answer) (answers : List Answer) (term : Term) → is_same_term new.term term ≡ false → is_kept answers term ≡ false → is_kept (put_answer new answers) term ≡ false
put-none new [] term other none = ap (λ (b : Bool). is_some (if b then Some new.documents else None)) other
put-none new (first ∷ answers) term other none =
    elim (is_term_before new.term first.term) as (λ b. is_kept (if b then new ∷ first ∷ answers else first ∷ put_answer new answers) term ≡ false) [
      | true ↦ ap (λ (b : Bool). is_some (if b then Some new.documents else kept_for (first ∷ answers) term)) other ∙ none
      | false ↦ elim (is_same_term first.term term) as (λ b. is_some (if b then Some first.documents else kept_for answers term) ≡ false → is_some (if b then Some first.documents else kept_for (put_answer new answers) term) ≡ false) [
        | true ↦ (λ none. absurd cc)
        | false ↦ (λ none. put-none new answers term other none)
      ] none
    ]

-- Several answers are put among others.

with-kept : (more answers : List Answer) (term : Term) → (is_kept more term || is_kept answers term) ≡ true → is_kept (with_answers more answers) term ≡ true
with-kept [] answers term h = h
with-kept (new ∷ more) answers term h =
    put-kept new (with_answers more answers) term (either (with-kept more answers term))
  where
    either : ((is_kept more term || is_kept answers term) ≡ true → is_kept (with_answers more answers) term ≡ true) → (is_same_term new.term term || is_kept (with_answers more answers) term) ≡ true
    either rest = elim (is_same_term new.term term) as (λ b. (is_some (if b then Some new.documents else kept_for more term) || is_kept answers term) ≡ true → (b || is_kept (with_answers more answers) term) ≡ true) [
      | true ↦ (λ _. refl)
      | false ↦ (λ h. rest h)
    ] h

with-all : (P : Answer → Type 0) (more answers : List Answer) → AllByRecursion P more → AllByRecursion P answers → AllByRecursion P (with_answers more answers)
with-all P [] answers h k = k
with-all P (new ∷ more) answers h k = put-all P new (with_answers more answers) h.0 (with-all P more answers h.1 k)

with-none : (more answers : List Answer) (term : Term) → is_kept more term ≡ false → is_kept answers term ≡ false → is_kept (with_answers more answers) term ≡ false
with-none [] answers term h k = k
with-none (new ∷ more) answers term h k =
    elim (is_same_term new.term term) as (λ b. is_same_term new.term term ≡ b → is_some (if b then Some new.documents else kept_for more term) ≡ false → is_kept (put_answer new (with_answers more answers)) term ≡ false) [
      | true ↦ (λ _ h. absurd cc)
      | false ↦ (λ other h. put-none new (with_answers more answers) term other (with-none more answers term h k))
    ] refl h

-- answers of which each has a term that those behind it don't have
abbrev pub AnswersDiffer : List Answer → Type 0
AnswersDiffer [] = Unit {0}
AnswersDiffer (answer ∷ answers) = (is_kept answers answer.term ≡ false) × AnswersDiffer answers

with-rise : (more answers : List Answer) → AnswersDiffer more → AllByRecursion (λ answer. is_kept answers answer.term ≡ false) more → TermsRise None answers → TermsRise None (with_answers more answers)
with-rise [] answers differ none h = h
with-rise (new ∷ more) answers differ none h =
    put-rise None new (with_answers more answers) refl (with-none more answers new.term differ.0 none.0) (with-rise more answers differ.1 none.1 h)

-- Terms of a query that aren't answered yet.

-- terms of which none is among those behind it
abbrev TermsDiffer : List Term → Type 0
TermsDiffer [] = Unit {0}
TermsDiffer (term ∷ terms) = (is_of terms term ≡ false) × TermsDiffer terms

of-filter : (p : Term → Bool) (ts : List Term) (term : Term) → is_of ts term ≡ false → is_of (filter p ts) term ≡ false
of-filter p [] term h = refl
of-filter p (t ∷ ts) term h =
    elim (is_same_term t term) as (λ b. is_same_term t term ≡ b → (b || is_of ts term) ≡ false → is_of (if p t then t ∷ filter p ts else filter p ts) term ≡ false) [
      | true ↦ (λ _ h. absurd cc)
      | false ↦ (λ other h. elim (p t) as (λ b. is_of (if b then t ∷ filter p ts else filter p ts) term ≡ false) [
        | true ↦ ap (λ (b : Bool). b || is_of (filter p ts) term) other ∙ of-filter p ts term h
        | false ↦ of-filter p ts term h
      ])
    ] refl h

filter-differ : (p : Term → Bool) (ts : List Term) → TermsDiffer ts → TermsDiffer (filter p ts)
filter-differ p [] h = tt
filter-differ p (t ∷ ts) h = elim (p t) as (λ b. TermsDiffer (if b then t ∷ filter p ts else filter p ts)) [
  | true ↦ (of-filter p ts t h.0, filter-differ p ts h.1)
  | false ↦ filter-differ p ts h.1
]

-- a term that comes after this one, which rising terms come after, is none of them
chain-none : (a : Term) (ts : List Term) (term : Term) → (is_term_before term a ≡ true) ⊎ (term ≡ a) → TermsChain (Some a) ts → is_of ts term ≡ false
chain-none a [] term low h = refl
chain-none a (t ∷ ts) term low h =
    let less : is_term_before term t ≡ true = before low in
    ap (λ (b : Bool). b || is_of ts term) (apart less) ∙ chain-none t ts term (inl less) h.1
  where
    before : (is_term_before term a ≡ true) ⊎ (term ≡ a) → is_term_before term t ≡ true
    before (inl under) = term-trans term a t under h.0
    before (inr even) = ap (λ (x : Term). is_term_before x t) even ∙ h.0

    apart : is_term_before term t ≡ true → is_same_term t term ≡ false
    apart less = elim (is_same_term t term) as (λ b. is_same_term t term ≡ b → b ≡ false) [
      | false ↦ (λ _. refl)
      | true ↦ (λ same. let even = same-even t term same in let never : true ≡ false = sym less ∙ ap (λ (x : Term). is_term_before x t) (sym even) ∙ term-irreflexive t in absurd cc)
    ] refl

chain-differ : (last : Option Term) (ts : List Term) → TermsChain last ts → TermsDiffer ts
chain-differ last [] h = tt
chain-differ last (t ∷ ts) h = (chain-none t ts t (inr refl) h.1, chain-differ (Some t) ts h.1)

answers-none : (ts : List Term) (told : List (List ℕ)) (term : Term) → is_of ts term ≡ false → is_kept (answers_to ts told) term ≡ false
answers-none [] told term h = refl
answers-none (t ∷ ts) [] term h = refl
answers-none (t ∷ ts) (numbers ∷ told) term h =
    elim (is_same_term t term) as (λ b. (b || is_of ts term) ≡ false → is_some (if b then Some numbers else kept_for (answers_to ts told) term) ≡ false) [
      | true ↦ (λ h. absurd cc)
      | false ↦ (λ h. answers-none ts told term h)
    ] h

answers-differ : (ts : List Term) (told : List (List ℕ)) → TermsDiffer ts → AnswersDiffer (answers_to ts told)
answers-differ [] told h = tt
answers-differ (t ∷ ts) [] h = tt
answers-differ (t ∷ ts) (numbers ∷ told) h = (answers-none ts told t h.0, answers-differ ts told h.1)

-- each term that isn't answered yet isn't kept
unanswered-none : (p : Term → Bool) (ts : List Term) → AllByRecursion (λ t. not (p t) ≡ true) (filter (λ t. not (p t)) ts)
unanswered-none p [] = tt
unanswered-none p (t ∷ ts) = elim (p t) as (λ b. p t ≡ b → AllByRecursion (λ t. not (p t) ≡ true) (if not b then t ∷ filter (λ t. not (p t)) ts else filter (λ t. not (p t)) ts)) [
  | true ↦ (λ _. unanswered-none p ts)
  | false ↦ (λ is. (ap not is, unanswered-none p ts))
] refl

told-none : (kept : List Answer) (ts : List Term) (told : List (List ℕ)) → AllByRecursion (λ t. not (is_kept kept t) ≡ true) ts → AllByRecursion (λ answer. is_kept kept answer.term ≡ false) (answers_to ts told)
told-none kept [] told h = tt
told-none kept (t ∷ ts) [] h = tt
told-none kept (t ∷ ts) (numbers ∷ told) h = (not-true (is_kept kept t) h.0, told-none kept ts told h.1)

-- the answers of a mount that was told what a query asks rise
pub told-rise : (query : Formula ℕ) (answers : List Answer) (told : List (List ℕ)) → TermsRise None answers → TermsRise None (with_answers (answers_to (unanswered query answers) told) answers)
told-rise query answers told h =
    with-rise (answers_to (unanswered query answers) told) answers
    (answers-differ (unanswered query answers) told (filter-differ (λ t. not (is_kept answers t)) (terms_in_order (terms_of query)) (chain-differ None (terms_in_order (terms_of query)) (order-chain (terms_of query)))))
    (told-none answers (unanswered query answers) told (unanswered-none (is_kept answers) (terms_in_order (terms_of query)))) h

-- and are sound, and those that were kept stay
pub told-sound : (P : Answer → Type 0) (query : Formula ℕ) (answers : List Answer) (told : List (List ℕ)) → AllByRecursion P (answers_to (unanswered query answers) told) → AllByRecursion P answers → AllByRecursion P (with_answers (answers_to (unanswered query answers) told) answers)
told-sound P query answers told h k = with-all P (answers_to (unanswered query answers) told) answers h k

pub told-still : (query : Formula ℕ) (answers : List Answer) (told : List (List ℕ)) (term : Term) → is_kept answers term ≡ true → is_kept (with_answers (answers_to (unanswered query answers) told) answers) term ≡ true
told-still query answers told term h = with-kept (answers_to (unanswered query answers) told) answers term (or_right (is_kept (answers_to (unanswered query answers) told) term) (is_kept answers term) h)

-- each term of the query has an answer then
pub told-kept : (query : Formula ℕ) (answers : List Answer) (told : List (List ℕ)) → length told ≡ length (unanswered query answers) → AllByRecursion (λ term. is_kept (with_answers (answers_to (unanswered query answers) told) answers) term ≡ true) (terms_of query)
told-kept query answers told even = all-weaker (λ term. is_of (terms_in_order (terms_of query)) term ≡ true) (λ term. is_kept (with_answers (answers_to (unanswered query answers) told) answers) term ≡ true) (terms_of query) each (order-of (terms_of query))
  where
    left-of : (ts : List Term) (term : Term) → is_kept answers term ≡ false → is_of ts term ≡ true → is_of (filter (λ t. not (is_kept answers t)) ts) term ≡ true
    left-of [] term none h = absurd cc
    left-of (t ∷ ts) term none h =
        elim (is_same_term t term) as (λ b. is_same_term t term ≡ b → (b || is_of ts term) ≡ true → is_of (if not (is_kept answers t) then t ∷ filter (λ t. not (is_kept answers t)) ts else filter (λ t. not (is_kept answers t)) ts) term ≡ true) [
          | true ↦ (λ same _.
              let even : t ≡ term = same-even t term same in
              ap (λ (b : Bool). is_of (if not b then t ∷ filter (λ t. not (is_kept answers t)) ts else filter (λ t. not (is_kept answers t)) ts) term) (ap (is_kept answers) even ∙ none)
              ∙ or_left (is_same_term t term) (is_of (filter (λ t. not (is_kept answers t)) ts) term) same)
          | false ↦ (λ other h. elim (is_kept answers t) as (λ b. is_of (if not b then t ∷ filter (λ t. not (is_kept answers t)) ts else filter (λ t. not (is_kept answers t)) ts) term ≡ true) [
            | true ↦ left-of ts term none h
            | false ↦ or_right (is_same_term t term) (is_of (filter (λ t. not (is_kept answers t)) ts) term) (left-of ts term none h)
          ])
        ] refl h

    each : (term : Term) → is_of (terms_in_order (terms_of query)) term ≡ true → is_kept (with_answers (answers_to (unanswered query answers) told) answers) term ≡ true
    each term inside = elim (is_kept answers term) as (λ b. is_kept answers term ≡ b → is_kept (with_answers (answers_to (unanswered query answers) told) answers) term ≡ true) [
      | true ↦ (λ kept. told-still query answers told term kept)
      | false ↦ (λ none. with-kept (answers_to (unanswered query answers) told) answers term (or_left (is_kept (answers_to (unanswered query answers) told) term) (is_kept answers term) (answers-kept (unanswered query answers) told term even (left-of (terms_in_order (terms_of query)) term none inside))))
    ] refl
