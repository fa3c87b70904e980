-- Which queries ask for a word, and which may hold of an item that has some words.
use Rattle.std.specs.Prelude.{ℕ, Bool, true, ◌&&◌, ◌||◌, not, if◌then◌else◌, List}
use Rattle.std.specs.List.{list_any}
use Rattle.std.specs.Str.{bytes_eq}
use Rattle.hac_model.specs.Query.Formula.{Formula}
use Rattle.hac_model.specs.Query.Formula as query
use Rattle.hac_model.specs.Query.Queries.{terms_of}
use Rattle.hac_model.specs.Query.Words.{is_asked}

-- the query asks for the word: the word is what one of its terms asks for
abbrev pub asks_for : Formula ℕ → List ℕ → Bool
asks_for query word = list_any (λ term. is_asked term word) (terms_of query)

-- the word is one of these
abbrev pub is_listed : List (List ℕ) → List ℕ → Bool
is_listed words word = list_any (bytes_eq word) words

-- the query asks for one of these words that isn't among the others
abbrev pub asks_beyond : List (List ℕ) → List (List ℕ) → Formula ℕ → Bool
asks_beyond words others query = list_any (λ word. not (is_listed others word) && asks_for query word) words

-- the query asks for a word that is gone, or for one that is new
abbrev pub asks_for_change : List (List ℕ) → List (List ℕ) → Formula ℕ → Bool
asks_for_change old new query = asks_beyond old new query || asks_beyond new old query

-- of an item that has none of its terms the query can be true, or can be false, as directories provide the item or don't
abbrev pub can_be : Bool → Formula ℕ → Bool
can_be wanted (query.Term term) = not wanted
can_be wanted (query.Dir dir) = true
can_be wanted (query.Not query) = can_be (not wanted) query
can_be wanted (query.And left right) =
    if wanted then can_be wanted left && can_be wanted right else can_be wanted left || can_be wanted right
can_be wanted (query.Or left right) =
    if wanted then can_be wanted left || can_be wanted right else can_be wanted left && can_be wanted right

-- the query may hold of an item with these words: it asks for one of them, or may hold without any
abbrev pub may_hold : List (List ℕ) → Formula ℕ → Bool
may_hold words query = can_be true query || list_any (asks_for query) words
