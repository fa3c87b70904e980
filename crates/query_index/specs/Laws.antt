-- What the definitions are for.
use Rattle.std.specs.Prelude.{◌≡◌, ℕ, Bool, false, List}
use Rattle.std.specs.List.{AllByRecursion, list_any}
use Rattle.hac_model.specs.Query.Formula.{Formula}
use Rattle.hac_model.specs.Query.Queries.{query_meaning, terms_of}
use Rattle.hac_model.specs.Query.Words.{is_asked}
use Rattle.hac_model.specs.declared.terms.Term.{Term}
use Rattle.query_index.specs.Asking.{asks_for_change, may_hold}

-- where a query asks for no word that is gone or new, the text has of its terms those that it had
abbrev pub UnaskedTermsStay : Type 0
UnaskedTermsStay =
    (old new : List (List ℕ)) (query : Formula ℕ) → asks_for_change old new query ≡ false
    → AllByRecursion (λ term. list_any (is_asked term) old ≡ list_any (is_asked term) new) (terms_of query)

-- a query that can't hold of an item with these words doesn't, whatever directories provide
abbrev pub UnfitQueriesFail : Type 0
UnfitQueriesFail =
    (words : List (List ℕ)) (query : Formula ℕ) → may_hold words query ≡ false
    → (has : Term → ℕ → Bool) (provides : ℕ → ℕ → Bool) (item : ℕ)
    → AllByRecursion (λ term. has term item ≡ list_any (is_asked term) words) (terms_of query)
    → query_meaning has provides query item ≡ false
