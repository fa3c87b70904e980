-- How an index keeps the places of the queries that ask for letters, and what words meet in it.
use Rattle.std.specs.Prelude.{◌≡◌, ℕ, suc, Bool, false, ◌==◌, ◌&&◌, ◌||◌, List, [], length, take, map, Vec, IsTrue, is_some, slice_get}
use Rattle.std.specs.List.{list_any}
use Rattle.std.specs.Option.{option_map_or}
use Rattle.std.specs.Str.{bytes_eq}
use Rattle.std.specs.declared.alloc.Global.{Global}
use Rattle.indexmap.specs.IndexMap.{IndexMap, get_by}
use Rattle.hac_model.specs.Query.Formula.{Formula}
use Rattle.hac_model.specs.Query.Queries.{terms_of}
use Rattle.hac_model.specs.Query.Terms.{is_same_term}
use Rattle.hac_model.specs.Tree.Links.{has}
use Rattle.hac_model.specs.Tree.Valid.{RiseFrom}
use Rattle.hac_model.specs.declared.terms.Term.TheVariants.{Word, Prefix}
use Rattle.query_index.specs.Numbers.{AddsAll, AreThose, any_below}
use Rattle.query_index.specs.Seen.{Fitting, Seen, place_of, places_of}
use Rattle.query_index.specs.Sieve.{passes}
use Rattle.query_index.specs.declared.fit.Fit.TheInside as fit
use Rattle.query_index.specs.declared.index.QueryIndex.TheInside as index
use Rattle.query_index.specs.declared.met.Met.{Met}
use Rattle.query_index.specs.declared.postings.Postings.TheInside as postings

module _ {S : Type 0} where
  -- the letters are there, though they may have no places yet
  abbrev pub has_letters : IndexMap (Vec ℕ Global) (Vec ℕ Global) S → List ℕ → Bool
  has_letters postings letters = is_some (get_by (λ key. bytes_eq letters key.items) postings)

  -- the places of letters
  abbrev pub kept_at : IndexMap (Vec ℕ Global) (Vec ℕ Global) S → List ℕ → List ℕ
  kept_at postings letters = option_map_or (λ places. places.items) (get_by (λ key. bytes_eq letters key.items) postings) []

  -- letters with their places, as callers see them
  abbrev pub seen_postings : IndexMap (Vec ℕ Global) (Vec ℕ Global) S → List (List ℕ × List ℕ)
  seen_postings postings = map (λ entry. (entry.0.items, entry.1.items)) postings.entries

-- no letters are there that don't pass the sieve
abbrev pub AllPass : postings.Inside → Type 0
AllPass postings = (letters : List ℕ) → IsTrue (has_letters postings.places letters) → IsTrue (passes postings.sieve letters)

-- the place is added to those of all letters that pass the test
abbrev pub AddsPlace : List (List ℕ × List ℕ) → List (List ℕ × List ℕ) → (List ℕ → Bool) → ℕ → Type 0
AddsPlace old new test place =
    (letters : List ℕ) (other : ℕ) → has (places_of new letters) other ≡ (has (places_of old letters) other || (test letters && place == other))

-- the query asks for the word of these letters
abbrev pub has_word : List ℕ → Formula ℕ → Bool
has_word letters query = list_any (is_same_term (Word letters)) (terms_of query)

-- the query asks for words that begin with these letters
abbrev pub has_beginning : List ℕ → Formula ℕ → Bool
has_beginning letters query = list_any (is_same_term (Prefix letters)) (terms_of query)

-- the letters stand there
abbrev pub is_at : List (List ℕ × List ℕ) → List ℕ → ℕ → Bool
is_at postings letters at = option_map_or (λ found. found == at) (place_of postings letters) false

-- one of the beginnings of the word does
abbrev pub begins_at : List (List ℕ × List ℕ) → List ℕ → ℕ → Bool
begins_at postings word at = any_below (suc (length word)) (λ len. is_at postings (take len word) at)

-- the places of the letters that stand there
abbrev pub places_in : List (List ℕ × List ℕ) → ℕ → List ℕ
places_in postings at = option_map_or (λ entry. entry.1) (slice_get postings at) []

-- the place is one of those of the letters that stand in one of these
abbrev pub is_under : List (List ℕ × List ℕ) → List ℕ → ℕ → Bool
is_under postings met place = list_any (λ at. has (places_in postings at) place) met

-- where letters stand that these words meet is added
pub record Meets (index : Seen) (these : List (List ℕ)) (old new : Met) : Type 0 where
  pub words : AddsAll old.words.items new.words.items (λ at. list_any (λ word. is_at index.words word at) these)
  pub beginnings : AddsAll old.beginnings.items new.beginnings.items (λ at. list_any (λ word. begins_at index.beginnings word at) these)

-- that is where letters stand that these words meet
pub record AreMet (index : Seen) (these : List (List ℕ)) (met : Met) : Type 0 where
  pub words : AreThose (λ at. list_any (λ word. is_at index.words word at) these) met.words.items
  pub beginnings : AreThose (λ at. list_any (λ word. begins_at index.beginnings word at) these) met.beginnings.items

-- the index as callers see it
abbrev pub seen_of : index.Inside → Seen
seen_of index = record {
  count = index.count;
  words = index.words;
  beginnings = index.beginnings;
  wordless = index.wordless.items;
}

-- what it says of words, as callers see it
abbrev pub fitting_of : fit.Inside → Fitting
fitting_of fit = record { index = fit.index.now; places = fit.places.items; words = fit.met.words.items; beginnings = fit.met.beginnings.items }

-- where letters were met is in order
abbrev pub IsInOrder : fit.Inside → Type 0
IsInOrder fit = RiseFrom 0 fit.met.words.items × RiseFrom 0 fit.met.beginnings.items
