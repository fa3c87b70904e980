-- Answers in the order of their terms.
use Rattle.std.proofs.Common.{◌≡◌, ℕ, suc, ◌+◌, ◌<◌, ◌≤◌, Bool, true, false, cond, List, [], ◌∷◌, length, get_or, refl, ap, subst, sym, ◌∙◌, arith}
use Rattle.std.specs.Prelude.{if◌then◌else◌, Option, Some, None, slice_get, unwrap_or}
use Rattle.std.specs.List.{AllByRecursion, prefix_len}
use Rattle.hac_model.specs.Query.Terms.{is_same_term, is_term_before}
use Rattle.hac_model.specs.Tree.Mounts.{kept_for}
use Rattle.hac_model.specs.Tree.Valid.{RiseFrom, TermsRise}
use Rattle.hac_model.specs.declared.states.Answer.{Answer}
use Rattle.hac_model.specs.declared.terms.Term.{Term}
use Rattle.hac_model.proofs.SortedLemmas.{Falls}
use Rattle.hac_model.proofs.TermLemmas.{same-own, term-trans, terms-even}
use Rattle.hac_model.proofs.TermOrderLemmas.{before-differs, behind-differs}
use Rattle.hac_model.proofs.ChangeLemmas.{all-weaker}
use Rattle.std.proofs.lemmas.Option.{slice_get-get_or, slice_get_past}

-- what comes behind a term does behind an earlier one
further : (x y : Term) (list : List Answer) → is_term_before x y ≡ true → AllByRecursion (λ a. is_term_before y a.term ≡ true) list → AllByRecursion (λ a. is_term_before x a.term ≡ true) list
further x y list before h = all-weaker (λ (a : Answer). is_term_before y a.term ≡ true) (λ (a : Answer). is_term_before x a.term ≡ true) list (λ a behind. term-trans x y a.term before behind) h

behind-all : (x : Term) (list : List Answer) → TermsRise (Some x) list → AllByRecursion (λ a. is_term_before x a.term ≡ true) list
behind-all x [] h = tt
behind-all x (a ∷ list) h = (h.0, further x a.term list h.0 (behind-all a.term list h.1))

-- the answers for terms before a term come first
pub rank-falls : (term : Term) (last : Option Term) (list : List Answer) → TermsRise last list → Falls (λ a. is_term_before a.term term) list
rank-falls term last [] h = tt
rank-falls term last (a ∷ list) h = (
  all-weaker (λ (b : Answer). is_term_before a.term b.term ≡ true) (λ (b : Answer). is_term_before b.term term ≡ true → is_term_before a.term term ≡ true) list (λ b behind before. term-trans a.term b.term term behind before) (behind-all a.term list h.1),
  rank-falls term (Some a.term) list h.1,
)

module _ (term : Term) where
  -- what is kept for the term, where this is the first answer whose term isn't before it
  abbrev pub if_found : Option Answer → Option (List ℕ)
  if_found None = None
  if_found (Some a) = cond (is_term_before term a.term) None (Some a.documents)

  none-behind : (list : List Answer) → AllByRecursion (λ a. is_term_before term a.term ≡ true) list → kept_for list term ≡ None
  none-behind [] h = refl
  none-behind (a ∷ list) h = ap (λ (b : Bool). if b then Some a.documents else kept_for list term) (behind-differs a.term term h.0) ∙ none-behind list h.1

  -- the answer for a term is where those for terms before it end
  pub kept-rank : (last : Option Term) (list : List Answer) → TermsRise last list → kept_for list term ≡ if_found (slice_get list (prefix_len (λ a. is_term_before a.term term) list))
  kept-rank last [] h = refl
  kept-rank last (a ∷ list) h =
      elim (is_term_before a.term term) as (λ b. is_term_before a.term term ≡ b → kept_for (a ∷ list) term ≡ if_found (slice_get (a ∷ list) (cond b (1 + prefix_len (λ a. is_term_before a.term term) list) 0))) [
        | true ↦ (λ before.
            let more : 1 + prefix_len (λ a. is_term_before a.term term) list ≡ suc (prefix_len (λ a. is_term_before a.term term) list) = omega arith in
            ap (λ (b : Bool). if b then Some a.documents else kept_for list term) (before-differs a.term term before)
            ∙ kept-rank (Some a.term) list h.1
            ∙ ap (λ (i : ℕ). if_found (slice_get (a ∷ list) i)) (sym more))
        | false ↦ (λ apart. here apart)
      ] refl
    where
      here : is_term_before a.term term ≡ false → kept_for (a ∷ list) term ≡ cond (is_term_before term a.term) None (Some a.documents)
      here apart =
          elim (is_term_before term a.term) as (λ b. is_term_before term a.term ≡ b → kept_for (a ∷ list) term ≡ cond b None (Some a.documents)) [
            | true ↦ (λ before. none-behind (a ∷ list) (before, further term a.term list before (behind-all a.term list h.1)))
            | false ↦ (λ also.
                let same : a.term ≡ term = terms-even a.term term apart also in
                ap (λ (b : Bool). if b then Some a.documents else kept_for list term) (subst (λ (t : Term). is_same_term a.term t ≡ true) same (same-own a.term)))
          ] refl

module _ (term : Term) (list : List Answer) (rise : TermsRise None list) (i : ℕ) (rank : i ≡ prefix_len (λ a. is_term_before a.term term) list) where
  pub found-end : length list ≤ i → kept_for list term ≡ None
  found-end outside =
      kept-rank term None list rise ∙ ap (λ (k : ℕ). if_found term (slice_get list k)) (sym rank)
      ∙ ap (λ (o : Option Answer). if_found term o) (slice_get_past list i outside)

  pub found-at : (a : Answer) → i < length list → a ≡ get_or list i a → kept_for list term ≡ cond (is_term_before term a.term) None (Some a.documents)
  found-at a inside is =
      kept-rank term None list rise ∙ ap (λ (k : ℕ). if_found term (slice_get list k)) (sym rank)
      ∙ ap (λ (o : Option Answer). if_found term o) (slice_get-get_or list i a inside)
      ∙ ap (λ (b : Answer). if_found term (Some b)) (sym is)

-- the documents that are kept for a term rise, where all do
pub found-rise : (list : List Answer) (term : Term) (documents : List ℕ) → AllByRecursion (λ a. RiseFrom 0 a.documents) list → kept_for list term ≡ Some documents → RiseFrom 0 documents
found-rise [] term documents h is = absurd cc
found-rise (a ∷ list) term documents h is =
    elim (is_same_term a.term term) as (λ b. (if b then Some a.documents else kept_for list term) ≡ Some documents → RiseFrom 0 documents) [
      | true ↦ (λ is. subst (λ (o : Option (List ℕ)). RiseFrom 0 (unwrap_or o [])) is h.0)
      | false ↦ (λ is. found-rise list term documents h.1 is)
    ] is
