-- What was told for a query, question by question.
use Rattle.std.proofs.Common.{◌≡◌, add-one, ℕ, zero, suc, ◌<◌, ◌≤◌, ◌+◌, Bool, true, false, cond, List, [], ◌∷◌, ◌++◌, length, drop, refl, ap, sym, subst, ◌∙◌, arith, inl, inr}
use Rattle.std.specs.Prelude.{◌⊎◌, ◌||◌, ◌&&◌, ◌==◌, if◌then◌else◌, Option, Some, None, unwrap_or}
use Rattle.std.specs.List.{flat_map, list_any}
use Rattle.std.specs.Option.{option_map, option_map_or}
use Rattle.std.proofs.lemmas.Bool.{eqb-true, ne_eqb}
use Rattle.hac_model.specs.Query.Formula.{Formula}
use Rattle.hac_model.specs.Query.Terms.{is_same_term, is_term_before}
use Rattle.hac_model.specs.Query.Words.{has_term}
use Rattle.hac_model.specs.Tree.Asking.{asked_by, gained, put_answer, unanswered, with_answers, with_told}
use Rattle.hac_model.specs.Tree.Links.{answers_at, atom, has, kept_at, parent_of, shown_of}
use Rattle.hac_model.specs.Tree.Mounting.{answers_to}
use Rattle.hac_model.specs.Tree.Mounts.{kept_for}
use Rattle.hac_model.specs.Tree.Valid.{IsValid, KeepsWell, NumbersRise, TermsRise}
use Rattle.hac_model.specs.Tree.{answers_in, entry_at, is_document_at, is_mount}
use Rattle.hac_model.specs.declared.states.Answer.{Answer}
use Rattle.hac_model.specs.declared.states.Body.{Body}
use Rattle.hac_model.specs.declared.states.Body.TheVariants.{File, Dir, Symlink, Semantic, Mount, Document}
use Rattle.hac_model.specs.declared.states.Entry.{Entry}
use Rattle.hac_model.specs.declared.states.State.{State}
use Rattle.hac_model.specs.declared.terms.Term.{Term}
use Rattle.hac_model.proofs.TermLemmas.{same-even, term-irreflexive, term-trans}
use Rattle.hac_model.proofs.ToldLemmas.{told-rise}
use Rattle.hac_model.proofs.TreeLemmas.{entry_at-all}
use Rattle.tree_answers.specs.Asked.{atom_told, first_tells, questions, questions_to, was_told}
use Rattle.tree_answers.specs.declared.asking.Question.{Question}
use Rattle.tree_answers.proofs.AtomLemmas.{atom-after, gain, untold}
use Rattle.hac_model.proofs.BoolLemmas.{and-false, or-false, or-turned}

-- An answer tells that an item has a term.

abbrev answers_so : Term → ℕ → Answer → Bool
answers_so term item answer = is_same_term answer.term term && has answer.documents item

any-put : (p : Answer → Bool) (new : Answer) (answers : List Answer) → list_any p (put_answer new answers) ≡ (p new || list_any p answers)
any-put p new [] = refl
any-put p new (first ∷ answers) =
    elim (is_term_before new.term first.term) as (λ b. list_any p (if b then new ∷ first ∷ answers else first ∷ put_answer new answers) ≡ (p new || (p first || list_any p answers))) [
      | true ↦ refl
      | false ↦ ap (λ (b : Bool). p first || b) (any-put p new answers) ∙ or-turned (p first) (p new) (list_any p answers)
    ]

any-with : (p : Answer → Bool) (more answers : List Answer) → list_any p (with_answers more answers) ≡ (list_any p more || list_any p answers)
any-with p [] answers = refl
any-with p (new ∷ more) answers =
    any-put p new (with_answers more answers) ∙ ap (λ (b : Bool). p new || b) (any-with p more answers) ∙ joined (p new) (list_any p more) (list_any p answers)
  where
    joined : (a b c : Bool) → (a || (b || c)) ≡ ((a || b) || c)
    joined true b c = refl
    joined false b c = refl

-- answers whose terms come behind a term don't tell of it
none-behind : (a : Term) (answers : List Answer) (term : Term) (item : ℕ) → (is_term_before term a ≡ true) ⊎ (term ≡ a) → TermsRise (Some a) answers → list_any (answers_so term item) answers ≡ false
none-behind a [] term item low h = refl
none-behind a (first ∷ answers) term item low h =
    let less : is_term_before term first.term ≡ true = before low in
    ap (λ (b : Bool). (b && has first.documents item) || list_any (answers_so term item) answers) (apart less) ∙ none-behind first.term answers term item (inl less) h.1
  where
    before : (is_term_before term a ≡ true) ⊎ (term ≡ a) → is_term_before term first.term ≡ true
    before (inl under) = term-trans term a first.term under h.0
    before (inr even) = ap (λ (x : Term). is_term_before x first.term) even ∙ h.0

    apart : is_term_before term first.term ≡ true → is_same_term first.term term ≡ false
    apart less = elim (is_same_term first.term term) as (λ b. is_same_term first.term term ≡ b → b ≡ false) [
      | false ↦ (λ _. refl)
      | true ↦ (λ same. let even = same-even first.term term same in let never : true ≡ false = sym less ∙ ap (λ (x : Term). is_term_before x first.term) (sym even) ∙ term-irreflexive first.term in absurd cc)
    ] refl

-- of answers whose terms rise one at most tells of a term
any-kept : (last : Option Term) (answers : List Answer) (term : Term) (item : ℕ) → TermsRise last answers → has (unwrap_or (kept_for answers term) []) item ≡ list_any (answers_so term item) answers
any-kept last [] term item h = refl
any-kept last (first ∷ answers) term item h =
    elim (is_same_term first.term term) as (λ b. is_same_term first.term term ≡ b → has (unwrap_or (if b then Some first.documents else kept_for answers term) []) item ≡ ((b && has first.documents item) || list_any (answers_so term item) answers)) [
      | true ↦ (λ same. sym (ap (λ (b : Bool). has first.documents item || b) (none-behind first.term answers term item (inr (sym (same-even first.term term same))) h.1) ∙ or-false (has first.documents item)))
      | false ↦ (λ _. any-kept (Some first.term) answers term item h.1)
    ] refl

-- What a mount gains is what it was told of terms for which it keeps no answer.

pub record Gains (query : Formula ℕ) (answers gain : List Answer) : Type 0 where
  pub told : List (List ℕ)
  pub is : gain ≡ answers_to (unanswered query answers) told

module _ (kept : ℕ → List Answer) (query : Formula ℕ) where
  gains : (told : List (List ℕ)) (es : List Entry) (m : ℕ) → Gains query (kept m) (gained kept query told es m)
  gains told [] m = record { told = []; is = sym (untold (unanswered query (kept m))) }
  gains told (e ∷ es) m =
      elim (e.number == m) as (λ b. (e.number == m) ≡ b → Gains query (kept m) (if b then answers_to (asked_by kept query e) told else gained kept query (drop (length (asked_by kept query e)) told) es m)) [
        | true ↦ (λ here. subst (λ (n : ℕ). Gains query (kept n) (answers_to (asked_by kept query e) told)) (eqb-true e.number m here)
            (elim (is_mount e.body) as (λ b. Gains query (kept e.number) (answers_to (if b then unanswered query (kept e.number) else []) told)) [
              | true ↦ record { told = told; is = refl }
              | false ↦ record { told = []; is = sym (untold (unanswered query (kept e.number))) }
            ]))
        | false ↦ (λ _. gains (drop (length (asked_by kept query e)) told) es m)
      ] refl

  -- What was told to the questions is what the mounts gain.

  abbrev asked-in : List Entry → List Question
  asked-in es = flat_map (λ (e : Entry). questions_to e.number (asked_by kept query e)) es

  told-none : (qs : List Question) (m : ℕ) (term : Term) (item : ℕ) → was_told qs [] m term item ≡ false
  told-none [] m term item = refl
  told-none (q ∷ qs) m term item = refl

  told-split : (n : ℕ) (terms : List Term) (rest : List Question) (told : List (List ℕ)) (m : ℕ) (term : Term) (item : ℕ) →
      was_told (questions_to n terms ++ rest) told m term item ≡ (((n == m) && list_any (answers_so term item) (answers_to terms told)) || was_told rest (drop (length terms) told) m term item)
  told-split n [] rest told m term item = ap (λ (b : Bool). b || was_told rest told m term item) (sym (and-false (n == m)))
  told-split n (t ∷ terms) rest [] m term item = sym (none (n == m) (told-none rest m term item))
    where
      none : (b : Bool) {w : Bool} → w ≡ false → ((b && false) || w) ≡ false
      none true is = is
      none false is = is
  told-split n (t ∷ terms) rest (documents ∷ told) m term item =
      ap (λ (b : Bool). ((n == m) && (is_same_term t term && has documents item)) || b) (told-split n terms rest told m term item)
      ∙ joined (n == m) (is_same_term t term && has documents item) (list_any (answers_so term item) (answers_to terms told)) (was_told rest (drop (length terms) told) m term item)
    where
      joined : (h p l w : Bool) → ((h && p) || ((h && l) || w)) ≡ ((h && (p || l)) || w)
      joined true true l w = refl
      joined true false l w = refl
      joined false p l w = refl

  -- no question behind is about a mount
  apart : (above : ℕ) (es : List Entry) (next : ℕ) (told : List (List ℕ)) (m : ℕ) (term : Term) (item : ℕ) → NumbersRise above es next → m ≤ above → was_told (asked-in es) told m term item ≡ false
  apart above [] next told m term item h low = refl
  apart above (e ∷ es) next told m term item h low =
      let more : above < e.number = h.0 in
      told-split e.number (asked_by kept query e) (asked-in es) told m term item
      ∙ ap (λ (b : Bool). (b && list_any (answers_so term item) (answers_to (asked_by kept query e) told)) || was_told (asked-in es) (drop (length (asked_by kept query e)) told) m term item) (ne_eqb e.number m (λ same. omega (arith, more, low, same)))
      ∙ apart e.number es next (drop (length (asked_by kept query e)) told) m term item h.1 (omega (arith, more, low))

  gained-told : (above : ℕ) (es : List Entry) (next : ℕ) (told : List (List ℕ)) (m : ℕ) (term : Term) (item : ℕ) → NumbersRise above es next → list_any (answers_so term item) (gained kept query told es m) ≡ was_told (asked-in es) told m term item
  gained-told above [] next told m term item h = refl
  gained-told above (e ∷ es) next told m term item h =
      let terms : List Term = asked_by kept query e in
      (elim (e.number == m) as (λ b. (e.number == m) ≡ b → list_any (answers_so term item) (if b then answers_to terms told else gained kept query (drop (length terms) told) es m) ≡ ((b && list_any (answers_so term item) (answers_to terms told)) || was_told (asked-in es) (drop (length terms) told) m term item)) [
        | true ↦ (λ here. sym (ap (λ (b : Bool). list_any (answers_so term item) (answers_to terms told) || b) (apart e.number es next (drop (length terms) told) m term item h.1 (let same = eqb-true e.number m here in omega (arith, same))) ∙ or-false (list_any (answers_so term item) (answers_to terms told))))
        | false ↦ (λ _. gained-told e.number es next (drop (length terms) told) m term item h.1)
      ] refl)
      ∙ sym (told-split e.number terms (asked-in es) told m term item)

-- Which terms items have, once the mounts keep what they were told.

module _ (s : State) (valid : IsValid s) (query : Formula ℕ) (told : List (List ℕ)) where
  rise-at : (m : ℕ) → TermsRise None (answers_at s m)
  rise-at m =
      elim (entry_at s.entries m) as (λ o. entry_at s.entries m ≡ o → TermsRise None (option_map_or answers_in (option_map (λ (e : Entry). e.body) o) [])) [
        | None ↦ (λ _. tt)
        | Some e ↦ (λ found. by e.number e.body (entry_at-all (λ e. KeepsWell s e.number e.body) s.entries m e valid.answers found))
      ] refl
    where
      by : (n : ℕ) (body : Body) → KeepsWell s n body → TermsRise None (answers_in body)
      by n (Mount space answers) keeps = keeps.rise
      by n (File text dirty shown) keeps = tt
      by n Dir keeps = tt
      by n (Symlink target) keeps = tt
      by n (Semantic query permanent prohibited) keeps = tt
      by n Document keeps = tt

  kept-told : (m : ℕ) (term : Term) (item : ℕ) → has (unwrap_or (kept_for (with_answers (gain s query told m) (answers_at s m)) term) []) item ≡ (has (kept_at s m term) item || was_told (questions s query) told m term item)
  kept-told m term item =
      let gains : Gains query (answers_at s m) (gain s query told m) = gains (answers_at s) query told s.entries m in
      any-kept None (with_answers (gain s query told m) (answers_at s m)) term item
      (subst (λ (new : List Answer). TermsRise None (with_answers new (answers_at s m))) (sym gains.is) (told-rise query (answers_at s m) gains.told (rise-at m)))
      ∙ any-with (answers_so term item) (gain s query told m) (answers_at s m)
      ∙ (λ i. gained-told (answers_at s) query 0 s.entries s.next told m term item valid.layout.numbers i || sym (any-kept None (answers_at s m) term item (rise-at m)) i)
      ∙ swap (was_told (questions s query) told m term item) (has (kept_at s m term) item)
    where
      swap : (a b : Bool) → (a || b) ≡ (b || a)
      swap true true = refl
      swap true false = refl
      swap false true = refl
      swap false false = refl

  pub told-atom : (term : Term) (item : ℕ) → atom (with_told query told s) term item ≡ atom_told s (questions s query) told term item
  told-atom term item =
      atom-after s query told term item
      ∙ ap (λ (b : Bool). cond (is_document_at s.entries item) b (option_map_or (λ text. has_term text term) (shown_of s item) false)) (kept-told (parent_of s item) term item)
      ∙ parted (is_document_at s.entries item) (has (kept_at s (parent_of s item) term) item) (was_told (questions s query) told (parent_of s item) term item) (option_map_or (λ text. has_term text term) (shown_of s item) false)
    where
      parted : (d k w t : Bool) → cond d (k || w) t ≡ (cond d k t || (d && w))
      parted true k w t = refl
      parted false k w t = sym (or-false t)

-- Question by question.

pub told-nothing : (qs : List Question) (m : ℕ) (term : Term) (item : ℕ) → was_told qs [] m term item ≡ false
told-nothing [] m term item = refl
told-nothing (q ∷ qs) m term item = refl

pub first-nothing : (qs : List Question) (m : ℕ) (term : Term) (item : ℕ) → first_tells qs [] m term item ≡ false
first-nothing [] m term item = refl
first-nothing (q ∷ qs) m term item = refl

step : (i : ℕ) (qs : List Question) (told : List (List ℕ)) (m : ℕ) (term : Term) (item : ℕ) → was_told (drop i qs) (drop i told) m term item ≡ (first_tells (drop i qs) (drop i told) m term item || was_told (drop (suc i) qs) (drop (suc i) told) m term item)
step zero [] told m term item = refl
step zero (q ∷ qs) [] m term item = sym (told-nothing qs m term item)
step zero (q ∷ qs) (documents ∷ told) m term item = refl
step (suc i) [] told m term item = refl
step (suc i) (q ∷ qs) [] m term item =
    told-nothing (drop i qs) m term item ∙ sym (λ k. first-nothing (drop i qs) m term item k || told-nothing (drop (suc i) qs) m term item k)
step (suc i) (q ∷ qs) (documents ∷ told) m term item = step i qs told m term item

-- what the question at a place doesn't tell those behind it tell
pub told-step : (qs : List Question) (told : List (List ℕ)) (i : ℕ) (m : ℕ) (term : Term) (item : ℕ) → was_told (drop i qs) (drop i told) m term item ≡ (first_tells (drop i qs) (drop i told) m term item || was_told (drop (i + 1) qs) (drop (i + 1) told) m term item)
told-step qs told i m term item =
    step i qs told m term item ∙ ap (λ (k : ℕ). first_tells (drop i qs) (drop i told) m term item || was_told (drop k qs) (drop k told) m term item) (sym (add-one i))
