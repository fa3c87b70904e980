-- What a query that asks for no change, and one that fits no words, mean.
use Rattle.std.proofs.Common.{◌≡◌, ℕ, Bool, true, false, List, [], ◌∷◌, inl, inr, refl, ap, subst, sym, ◌∙◌}
use Rattle.std.specs.Prelude.{◌&&◌, ◌||◌, not}
use Rattle.std.specs.List.{AllByRecursion, list_any}
use Rattle.std.specs.Str.{bytes_eq}
use Rattle.std.proofs.lemmas.Bool.{or_cases, or_left, or_parts, or_right}
use Rattle.std.proofs.lemmas.Slice.Eq.{bytes_eq-Decides}
use Rattle.hac_model.specs.Query.Formula.{Formula}
use Rattle.hac_model.specs.Query.Formula as query
use Rattle.hac_model.specs.Query.Queries.{query_meaning, terms_of}
use Rattle.hac_model.specs.Query.Words.{is_asked}
use Rattle.hac_model.specs.declared.terms.Term.{Term}
use Rattle.hac_model.proofs.KeepingLemmas.{all-parted}
use Rattle.query_index.specs.Asking.{asks_beyond, asks_for, can_be, is_listed}
use Rattle.query_index.specs.Laws.{UnaskedTermsStay, UnfitQueriesFail}
use Rattle.hac_model.proofs.BoolLemmas.{agree, and-false}

-- ---- terms for which no word that is beyond others is asked

-- the words beyond the others that one of the terms asks for
abbrev beyond : List (List ℕ) → List (List ℕ) → List Term → Bool
beyond words others terms = list_any (λ word. not (is_listed others word) && list_any (λ term. is_asked term word) terms) words

listed-asked : (term : Term) (others : List (List ℕ)) (word : List ℕ) → is_listed others word ≡ true → is_asked term word ≡ true → list_any (is_asked term) others ≡ true
listed-asked term [] word listed asked = absurd cc
listed-asked term (other ∷ others) word listed asked = elim (or_cases (bytes_eq word other) (is_listed others word) listed) [
  | inl same ↦ or_left (is_asked term other) (list_any (is_asked term) others) (subst (λ (w : List ℕ). is_asked term w ≡ true) ((bytes_eq-Decides word other).0 same) asked)
  | inr later ↦ or_right (is_asked term other) (list_any (is_asked term) others) (listed-asked term others word later asked)
]

is_there : (listed asked rest : Bool) → (not listed && (asked || rest)) ≡ false → asked ≡ true → listed ≡ true
is_there true asked rest is h = refl
is_there false true rest is h = sym is
is_there false false rest is h = absurd cc

asked-stays : (term : Term) (terms : List Term) (words others : List (List ℕ)) → beyond words others (term ∷ terms) ≡ false → list_any (is_asked term) words ≡ true → list_any (is_asked term) others ≡ true
asked-stays term terms [] others is asked = absurd cc
asked-stays term terms (word ∷ words) others is asked =
    let parts = or_parts (not (is_listed others word) && list_any (λ term. is_asked term word) (term ∷ terms)) (beyond words others (term ∷ terms)) is in
    elim (or_cases (is_asked term word) (list_any (is_asked term) words) asked) [
      | inl here ↦ listed-asked term others word (is_there (is_listed others word) (is_asked term word) (list_any (λ term. is_asked term word) terms) parts.0 here) here
      | inr later ↦ asked-stays term terms words others parts.1 later
    ]

less : (listed asked rest : Bool) → (not listed && (asked || rest)) ≡ false → (not listed && rest) ≡ false
less true asked rest is = refl
less false true rest is = absurd cc
less false false rest is = is

fewer : (term : Term) (terms : List Term) (words others : List (List ℕ)) → beyond words others (term ∷ terms) ≡ false → beyond words others terms ≡ false
fewer term terms [] others is = refl
fewer term terms (word ∷ words) others is =
    let parts = or_parts (not (is_listed others word) && list_any (λ term. is_asked term word) (term ∷ terms)) (beyond words others (term ∷ terms)) is in
    let here = less (is_listed others word) (is_asked term word) (list_any (λ term. is_asked term word) terms) parts.0 in
    ap (λ (b : Bool). b || beyond words others terms) here ∙ fewer term terms words others parts.1

terms-stay : (old new : List (List ℕ)) (terms : List Term) → beyond old new terms ≡ false → beyond new old terms ≡ false → AllByRecursion (λ term. list_any (is_asked term) old ≡ list_any (is_asked term) new) terms
terms-stay old new [] gone come = tt
terms-stay old new (term ∷ terms) gone come = (
  agree (list_any (is_asked term) old) (list_any (is_asked term) new) (asked-stays term terms old new gone) (asked-stays term terms new old come),
  terms-stay old new terms (fewer term terms old new gone) (fewer term terms new old come),
)

pub unasked_terms_stay : UnaskedTermsStay
unasked_terms_stay old new query is =
    let parts = or_parts (asks_beyond old new query) (asks_beyond new old query) is in
    terms-stay old new (terms_of query) parts.0 parts.1

-- ---- a query none of whose terms the words have

none-asked : (terms : List Term) (words : List (List ℕ)) → list_any (λ word. list_any (λ term. is_asked term word) terms) words ≡ false → AllByRecursion (λ term. list_any (is_asked term) words ≡ false) terms
none-asked [] words is = tt
none-asked (term ∷ terms) words is = (first words is, none-asked terms words (rest words is))
  where
    first : (words : List (List ℕ)) → list_any (λ word. is_asked term word || list_any (λ term. is_asked term word) terms) words ≡ false → list_any (is_asked term) words ≡ false
    first [] is = refl
    first (word ∷ words) is =
        let parts = or_parts (is_asked term word || list_any (λ term. is_asked term word) terms) (list_any (λ word. is_asked term word || list_any (λ term. is_asked term word) terms) words) is in
        ap (λ (b : Bool). b || list_any (is_asked term) words) (or_parts (is_asked term word) (list_any (λ term. is_asked term word) terms) parts.0).0 ∙ first words parts.1

    rest : (words : List (List ℕ)) → list_any (λ word. is_asked term word || list_any (λ term. is_asked term word) terms) words ≡ false → list_any (λ word. list_any (λ term. is_asked term word) terms) words ≡ false
    rest [] is = refl
    rest (word ∷ words) is =
        let parts = or_parts (is_asked term word || list_any (λ term. is_asked term word) terms) (list_any (λ word. is_asked term word || list_any (λ term. is_asked term word) terms) words) is in
        ap (λ (b : Bool). b || list_any (λ word. list_any (λ term. is_asked term word) terms) words) (or_parts (is_asked term word) (list_any (λ term. is_asked term word) terms) parts.0).1 ∙ rest words parts.1

none-had : (has : Term → ℕ → Bool) (item : ℕ) (words : List (List ℕ)) (terms : List Term) → AllByRecursion (λ term. has term item ≡ list_any (is_asked term) words) terms → AllByRecursion (λ term. list_any (is_asked term) words ≡ false) terms →
    AllByRecursion (λ term. has term item ≡ false) terms
none-had has item words [] are none = tt
none-had has item words (term ∷ terms) are none = (are.0 ∙ none.0, none-had has item words terms are.1 none.1)

not-not : (b : Bool) → not (not b) ≡ b
not-not true = refl
not-not false = refl

both-fail : (a b : Bool) → (a && b) ≡ false → (p q : Bool) → (a ≡ false → p ≡ false) → (b ≡ false → q ≡ false) → (p && q) ≡ false
both-fail true b is p q left right = ap (λ (c : Bool). p && c) (right is) ∙ and-false p
both-fail false b is p q left right = ap (λ (c : Bool). c && q) (left refl)

one-holds : (a b : Bool) → (a && b) ≡ false → (p q : Bool) → (a ≡ false → p ≡ true) → (b ≡ false → q ≡ true) → (p || q) ≡ true
one-holds true b is p q left right = or_right p q (right is)
one-holds false b is p q left right = or_left p q (left refl)

none-fail : (a b : Bool) → (a || b) ≡ false → (p q : Bool) → (a ≡ false → p ≡ true) → (b ≡ false → q ≡ true) → (p && q) ≡ true
none-fail a b is p q left right = let parts = or_parts a b is in ap (λ (c : Bool). c && q) (left parts.0) ∙ right parts.1

all-fail : (a b : Bool) → (a || b) ≡ false → (p q : Bool) → (a ≡ false → p ≡ false) → (b ≡ false → q ≡ false) → (p || q) ≡ false
all-fail a b is p q left right = let parts = or_parts a b is in ap (λ (c : Bool). c || q) (left parts.0) ∙ right parts.1

module _ (has : Term → ℕ → Bool) (provides : ℕ → ℕ → Bool) (item : ℕ) where
  -- where an item has none of the terms, the query isn't as it can't be
  isnt : (wanted : Bool) (query : Formula ℕ) → AllByRecursion (λ term. has term item ≡ false) (terms_of query) → can_be wanted query ≡ false → query_meaning has provides query item ≡ not wanted
  isnt true (query.Term term) none is = none.0
  isnt false (query.Term term) none is = absurd cc
  isnt wanted (query.Dir dir) none is = absurd cc
  isnt wanted (query.Not q) none is = ap not (isnt (not wanted) q none is) ∙ not-not (not wanted)
  isnt true (query.And left right) none is =
      let parts = all-parted (λ term. has term item ≡ false) (terms_of left) (terms_of right) none in
      both-fail (can_be true left) (can_be true right) is (query_meaning has provides left item) (query_meaning has provides right item) (isnt true left parts.0) (isnt true right parts.1)
  isnt false (query.And left right) none is =
      let parts = all-parted (λ term. has term item ≡ false) (terms_of left) (terms_of right) none in
      none-fail (can_be false left) (can_be false right) is (query_meaning has provides left item) (query_meaning has provides right item) (isnt false left parts.0) (isnt false right parts.1)
  isnt true (query.Or left right) none is =
      let parts = all-parted (λ term. has term item ≡ false) (terms_of left) (terms_of right) none in
      all-fail (can_be true left) (can_be true right) is (query_meaning has provides left item) (query_meaning has provides right item) (isnt true left parts.0) (isnt true right parts.1)
  isnt false (query.Or left right) none is =
      let parts = all-parted (λ term. has term item ≡ false) (terms_of left) (terms_of right) none in
      one-holds (can_be false left) (can_be false right) is (query_meaning has provides left item) (query_meaning has provides right item) (isnt false left parts.0) (isnt false right parts.1)

pub unfit_queries_fail : UnfitQueriesFail
unfit_queries_fail words query is has provides item are =
    let parts = or_parts (can_be true query) (list_any (asks_for query) words) is in
    isnt has provides item true query (none-had has item words (terms_of query) are (none-asked (terms_of query) words parts.1)) parts.0
