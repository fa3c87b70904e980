-- What callers see of an index, and of what it says of some words.
use Rattle.std.specs.Prelude.{◌≡◌, ℕ, Bool, true, false, List, [], length, position, Option, IfSome, is_some, option_and_then, unwrap_or, slice_get}
use Rattle.std.specs.List.{list_any}
use Rattle.std.specs.Map.{lookup}
use Rattle.std.specs.Option.{option_map, option_map_or}
use Rattle.std.specs.Str.{bytes_eq}
use Rattle.hac_model.specs.Query.Formula.{Formula}
use Rattle.hac_model.specs.Query.Queries.{terms_of}
use Rattle.hac_model.specs.Query.Terms.{is_same_term}
use Rattle.hac_model.specs.Query.Words.{is_asked}
use Rattle.hac_model.specs.Tree.Links.{has}
use Rattle.hac_model.specs.declared.terms.Term.{Term}
use Rattle.hac_model.specs.declared.terms.Term.TheVariants.{Word, Prefix}
use Rattle.query_index.specs.Asking.{can_be, may_hold}
use Rattle.query_index.specs.Numbers.{AreThose}

-- how many queries there are, letters with the places of those that ask for them, as words and as beginnings of words, and
-- the places of those that may hold without any word
pub record Seen : Type 0 where
  pub count : ℕ
  pub words : List (List ℕ × List ℕ)
  pub beginnings : List (List ℕ × List ℕ)
  pub wordless : List ℕ

-- the places of letters
abbrev pub places_of : List (List ℕ × List ℕ) → List ℕ → List ℕ
places_of postings letters = unwrap_or (lookup (bytes_eq letters) postings) []

-- there is a query at the place, and it passes the test
abbrev pub passes_at : List (Option (Formula ℕ)) → (Formula ℕ → Bool) → ℕ → Bool
passes_at queries test place = option_map_or test (option_and_then (λ query. query) (slice_get queries place)) false

-- there is a query at the place, and the term is one of its terms
abbrev pub asks_at : List (Option (Formula ℕ)) → Term → ℕ → Bool
asks_at queries term = passes_at queries (λ query. list_any (is_same_term term) (terms_of query))

-- the index is one of these queries, each at its place; at some places there is none
pub record IsIndexOf (queries : List (Option (Formula ℕ))) (index : Seen) : Type 0 where
  pub count : index.count ≡ length queries
  pub words : (letters : List ℕ) (place : ℕ) → has (places_of index.words letters) place ≡ asks_at queries (Word letters) place
  pub beginnings : (letters : List ℕ) (place : ℕ) → has (places_of index.beginnings letters) place ≡ asks_at queries (Prefix letters) place
  pub wordless : (place : ℕ) → has index.wordless place ≡ passes_at queries (can_be true) place

-- the places of the queries that pass the test, in order
abbrev pub ArePlaces : List (Option (Formula ℕ)) → (Formula ℕ → Bool) → List ℕ → Type 0
ArePlaces queries test places = AreThose (passes_at queries test) places

-- what an index says of words: the places of the queries that may hold, and where its letters stand that the words meet, as
-- words and as beginnings of words
pub record Fitting : Type 0 where
  pub index : Seen
  pub places : List ℕ
  pub words : List ℕ
  pub beginnings : List ℕ

-- where the letters stand
abbrev pub place_of : List (List ℕ × List ℕ) → List ℕ → Option ℕ
place_of postings letters = position (λ entry. bytes_eq letters entry.0) postings

-- whether one of the words is what the term asks for, if the index has its letters
abbrev pub answer_of : Fitting → Term → Option Bool
answer_of fit (Word letters) = option_map (has fit.words) (place_of fit.index.words letters)
answer_of fit (Prefix letters) = option_map (has fit.beginnings) (place_of fit.index.beginnings letters)

-- that is what the index of these queries says of the words: it has an answer for each term of a query
pub record IsFitOf (queries : List (Option (Formula ℕ))) (words : List (List ℕ)) (fit : Fitting) : Type 0 where
  pub places : ArePlaces queries (may_hold words) fit.places
  pub answers : (term : Term) → IfSome (answer_of fit term) (λ asked. asked ≡ list_any (is_asked term) words)
  pub known : (term : Term) (place : ℕ) → asks_at queries term place ≡ true → is_some (answer_of fit term) ≡ true
