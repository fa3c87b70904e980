-- An index of queries: what words meet in it, what it answers, and what one query more adds.
use Rattle.std.proofs.Common.{◌≡◌, ℕ, zero, suc, ◌+◌, ◌<◌, Bool, true, false, List, [], ◌∷◌, None, Some, length, take, refl, ap, sym, ◌∙◌, arith}
use Rattle.std.specs.Prelude.{◌==◌, ◌&&◌, ◌||◌, ◌++◌, filter, not, nat_eq, IfSome, Option, is_some, option_and_then, slice_get}
use Rattle.std.specs.List.{list_any, starts_with}
use Rattle.std.specs.Option.{option_map, option_map_or}
use Rattle.std.proofs.lemmas.Bool.{eq-eqb, ne_eqb}
use Rattle.std.proofs.lemmas.List.{length-append}
use Rattle.std.proofs.lemmas.List.Folds.{list_any-append}
use Rattle.hac_model.specs.Query.Formula.{Formula}
use Rattle.hac_model.specs.Query.Queries.{terms_of}
use Rattle.hac_model.specs.Query.Terms.{is_same_term}
use Rattle.hac_model.specs.Query.Words.{is_asked}
use Rattle.hac_model.specs.Tree.Links.{has}
use Rattle.hac_model.specs.declared.terms.Term.{Term}
use Rattle.hac_model.specs.declared.terms.Term.TheVariants.{Word, Prefix}
use Rattle.query_index.specs.Asking.{asks_for, asks_for_change, can_be, is_listed, may_hold}
use Rattle.query_index.specs.Inner.{AreMet, Meets, begins_at, has_beginning, has_word, is_at, is_under, places_in}
use Rattle.query_index.specs.Numbers.{AddsAll, AreThose, any_below}
use Rattle.query_index.specs.Seen.{ArePlaces, IsIndexOf, Seen, answer_of, asks_at, place_of, places_of}
use Rattle.query_index.specs.declared.met.Met.{Met}
use Rattle.query_index.proofs.AskLemmas.{begins, some-asked}
use Rattle.query_index.proofs.ListLemmas.{any-either, any-filter, any-met, any-none, below-at, below-none, below-some, or-assoc}
use Rattle.query_index.proofs.NumberLemmas.{adds-alike, adds-both, adds-none, eqb-suc}
use Rattle.query_index.proofs.PostingLemmas.{one-there, stands-as, stands-there}
use Rattle.hac_model.proofs.NameOrderLemmas.{same-turned}
use Rattle.hac_model.proofs.BoolLemmas.{and-false, and-true, or-false}

abbrev Queries : Type 0
Queries = List (Option (Formula ℕ))

-- the query at a place, if there is one
abbrev query_at : Queries → ℕ → Option (Formula ℕ)
query_at queries place = option_and_then (λ query. query) (slice_get queries place)

-- ---- what words meet

pub meets-none : (index : Seen) (met : Met) → Meets index [] met met
meets-none index met = record { words = adds-none met.words.items; beginnings = adds-none met.beginnings.items }

pub meets-both : (index : Seen) (these those : List (List ℕ)) (old mid new : Met) → Meets index these old mid → Meets index those mid new → Meets index (these ++ those) old new
meets-both index these those old mid new first second = record {
  words = adds-alike old.words.items new.words.items (λ at. list_any (λ word. is_at index.words word at) these || list_any (λ word. is_at index.words word at) those) (λ at. list_any (λ word. is_at index.words word at) (these ++ those))
      (adds-both old.words.items mid.words.items new.words.items (λ at. list_any (λ word. is_at index.words word at) these) (λ at. list_any (λ word. is_at index.words word at) those) first.words second.words)
      (λ at. sym (list_any-append (λ word. is_at index.words word at) these those));
  beginnings = adds-alike old.beginnings.items new.beginnings.items (λ at. list_any (λ word. begins_at index.beginnings word at) these || list_any (λ word. begins_at index.beginnings word at) those) (λ at. list_any (λ word. begins_at index.beginnings word at) (these ++ those))
      (adds-both old.beginnings.items mid.beginnings.items new.beginnings.items (λ at. list_any (λ word. begins_at index.beginnings word at) these) (λ at. list_any (λ word. begins_at index.beginnings word at) those) first.beginnings second.beginnings)
      (λ at. sym (list_any-append (λ word. begins_at index.beginnings word at) these those));
}

-- the places of letters that were met as words are those of the words
under-words : (entries : List (List ℕ × List ℕ)) (met : List ℕ) (words : List (List ℕ)) (place : ℕ) → ((at : ℕ) → has met at ≡ list_any (λ word. is_at entries word at) words) →
    is_under entries met place ≡ list_any (λ word. has (places_of entries word) place) words
under-words entries met words place those =
    any-met (λ at. has (places_in entries at) place) (λ word at. is_at entries word at) (λ word. has (places_of entries word) place) met words those there back
  where
    there : (word : List ℕ) (at : ℕ) → is_at entries word at ≡ true → has (places_in entries at) place ≡ true → has (places_of entries word) place ≡ true
    there word at stands is =
        stands-there entries word place
        ∙ ap (λ (o : Option ℕ). option_map_or (λ at. has (places_in entries at) place) o false) (stands-as (place_of entries word) at stands)
        ∙ is

    found : (o : Option ℕ) → option_map_or (λ at. has (places_in entries at) place) o false ≡ true → (at : ℕ) × (option_map_or (λ found. found == at) o false ≡ true) × (has (places_in entries at) place ≡ true)
    found None is = absurd cc
    found (Some at) is = (at, eq-eqb at at refl, is)

    back : (word : List ℕ) → has (places_of entries word) place ≡ true → (at : ℕ) × (is_at entries word at ≡ true) × (has (places_in entries at) place ≡ true)
    back word is = found (place_of entries word) (sym (stands-there entries word place) ∙ is)

-- and so are those of letters that were met as beginnings
under-beginnings : (entries : List (List ℕ × List ℕ)) (met : List ℕ) (words : List (List ℕ)) (place : ℕ) → ((at : ℕ) → has met at ≡ list_any (λ word. begins_at entries word at) words) →
    is_under entries met place ≡ list_any (λ word. any_below (suc (length word)) (λ len. has (places_of entries (take len word)) place)) words
under-beginnings entries met words place those =
    any-met (λ at. has (places_in entries at) place) (λ word at. begins_at entries word at) (λ word. any_below (suc (length word)) (λ len. has (places_of entries (take len word)) place)) met words those there back
  where
    there : (word : List ℕ) (at : ℕ) → begins_at entries word at ≡ true → has (places_in entries at) place ≡ true → any_below (suc (length word)) (λ len. has (places_of entries (take len word)) place) ≡ true
    there word at stands is =
        let some = below-some (λ len. is_at entries (take len word) at) (suc (length word)) stands in
        below-at (λ len. has (places_of entries (take len word)) place) (suc (length word)) some.0 some.1
        (stands-there entries (take some.0 word) place
        ∙ ap (λ (o : Option ℕ). option_map_or (λ at. has (places_in entries at) place) o false) (stands-as (place_of entries (take some.0 word)) at some.2)
        ∙ is)

    found : (word : List ℕ) (len : ℕ) → len < suc (length word) → (o : Option ℕ) → place_of entries (take len word) ≡ o → option_map_or (λ at. has (places_in entries at) place) o false ≡ true →
        (at : ℕ) × (begins_at entries word at ≡ true) × (has (places_in entries at) place ≡ true)
    found word len inside None same is = absurd cc
    found word len inside (Some at) same is = (
      at,
      below-at (λ len. is_at entries (take len word) at) (suc (length word)) len inside
          (ap (λ (o : Option ℕ). option_map_or (λ found. found == at) o false) same ∙ eq-eqb at at refl),
      is,
    )

    back : (word : List ℕ) → any_below (suc (length word)) (λ len. has (places_of entries (take len word)) place) ≡ true → (at : ℕ) × (begins_at entries word at ≡ true) × (has (places_in entries at) place ≡ true)
    back word is =
        let some = below-some (λ len. has (places_of entries (take len word)) place) (suc (length word)) is in
        found word some.0 some.1 (place_of entries (take some.0 word)) refl (sym (stands-there entries (take some.0 word) place) ∙ some.2)

-- ---- what an index answers

-- the query at the place asks for the word, as the index has it
abbrev is_asked_at : Seen → List ℕ → ℕ → Bool
is_asked_at index word place =
    has (places_of index.words word) place || any_below (suc (length word)) (λ len. has (places_of index.beginnings (take len word)) place)

asked-query : (queries : Queries) (index : Seen) → IsIndexOf queries index → (word : List ℕ) (place : ℕ) → is_asked_at index word place ≡ option_map_or (λ query. asks_for query word) (query_at queries place) false
asked-query queries index is word place =
    (λ i. is.words word place i || any_below (suc (length word)) (λ len. is.beginnings (take len word) place i))
    ∙ of (query_at queries place)
  where
    of : (o : Option (Formula ℕ)) →
        (option_map_or (λ query. list_any (is_same_term (Word word)) (terms_of query)) o false
        || any_below (suc (length word)) (λ len. option_map_or (λ query. list_any (is_same_term (Prefix (take len word))) (terms_of query)) o false))
        ≡ option_map_or (λ query. asks_for query word) o false
    of None = below-none (suc (length word))
    of (Some query) = some-asked word (terms_of query)

-- the places of letters that were met are those of the queries that ask for one of the words
under-asked : (queries : Queries) (index : Seen) → IsIndexOf queries index → (these : List (List ℕ)) (met : Met) → AreMet index these met → (place : ℕ) →
    (is_under index.words met.words.items place || is_under index.beginnings met.beginnings.items place) ≡ option_map_or (λ query. list_any (asks_for query) these) (query_at queries place) false
under-asked queries index is these met are place =
    (λ i. under-words index.words met.words.items these place are.words.all i || under-beginnings index.beginnings met.beginnings.items these place are.beginnings.all i)
    ∙ sym (any-either (λ word. has (places_of index.words word) place) (λ word. any_below (suc (length word)) (λ len. has (places_of index.beginnings (take len word)) place)) these)
    ∙ (λ i. list_any (λ word. asked-query queries index is word place i) these)
    ∙ of (query_at queries place)
  where
    of : (o : Option (Formula ℕ)) → list_any (λ word. option_map_or (λ query. asks_for query word) o false) these ≡ option_map_or (λ query. list_any (asks_for query) these) o false
    of None = any-none these
    of (Some query) = refl

pub fit-places : (queries : Queries) (index : Seen) → IsIndexOf queries index → (words : List (List ℕ)) (met : Met) → AreMet index words met → (first places : List ℕ) → first ≡ index.wordless →
    AreThose (λ place. (has first place || is_under index.words met.words.items place) || is_under index.beginnings met.beginnings.items place) places → ArePlaces queries (may_hold words) places
fit-places queries index is words met are first places same those = record {
  rise = those.rise;
  all = λ place.
      those.all place
      ∙ or-assoc (has first place) (is_under index.words met.words.items place) (is_under index.beginnings met.beginnings.items place)
      ∙ (λ i. has (same i) place || under-asked queries index is words met are place i)
      ∙ ap (λ (b : Bool). b || option_map_or (λ query. list_any (asks_for query) words) (query_at queries place) false) (is.wordless place)
      ∙ either (query_at queries place);
}
  where
    either : (o : Option (Formula ℕ)) → (option_map_or (can_be true) o false || option_map_or (λ query. list_any (asks_for query) words) o false) ≡ option_map_or (may_hold words) o false
    either None = refl
    either (Some query) = refl

pub changed-places : (queries : Queries) (index : Seen) → IsIndexOf queries index → (old new : List (List ℕ)) (met : Met) →
    AreMet index (filter (λ word. not (is_listed new word)) old ++ filter (λ word. not (is_listed old word)) new) met → (first places : List ℕ) → first ≡ [] →
    AreThose (λ place. (has first place || is_under index.words met.words.items place) || is_under index.beginnings met.beginnings.items place) places → ArePlaces queries (asks_for_change old new) places
changed-places queries index is old new met are first places none those = record {
  rise = those.rise;
  all = λ place.
      those.all place
      ∙ (λ i. (has (none i) place || is_under index.words met.words.items place) || is_under index.beginnings met.beginnings.items place)
      ∙ under-asked queries index is (filter (λ word. not (is_listed new word)) old ++ filter (λ word. not (is_listed old word)) new) met are place
      ∙ (λ i. option_map_or (λ query. both query i) (query_at queries place) false);
}
  where
    both : (query : Formula ℕ) → list_any (asks_for query) (filter (λ word. not (is_listed new word)) old ++ filter (λ word. not (is_listed old word)) new) ≡ asks_for_change old new query
    both query =
        list_any-append (asks_for query) (filter (λ word. not (is_listed new word)) old) (filter (λ word. not (is_listed old word)) new)
        ∙ (λ i. any-filter (asks_for query) (λ word. not (is_listed new word)) old i || any-filter (asks_for query) (λ word. not (is_listed old word)) new i)

-- ---- what a fit says of terms

word-told : (entries : List (List ℕ × List ℕ)) (met : List ℕ) (words : List (List ℕ)) → ((at : ℕ) → has met at ≡ list_any (λ word. is_at entries word at) words) → (letters : List ℕ) →
    IfSome (option_map (has met) (place_of entries letters)) (λ asked. asked ≡ list_any (is_asked (Word letters)) words)
word-told entries met words those letters = of (place_of entries letters) refl
  where
    of : (o : Option ℕ) → place_of entries letters ≡ o → IfSome (option_map (has met) o) (λ asked. asked ≡ list_any (is_asked (Word letters)) words)
    of None same = tt
    of (Some at) same = those at ∙ (λ i. list_any (λ word. one-there entries letters word at same i) words)

beginning-told : (entries : List (List ℕ × List ℕ)) (met : List ℕ) (words : List (List ℕ)) → ((at : ℕ) → has met at ≡ list_any (λ word. begins_at entries word at) words) → (letters : List ℕ) →
    IfSome (option_map (has met) (place_of entries letters)) (λ asked. asked ≡ list_any (is_asked (Prefix letters)) words)
beginning-told entries met words those letters = of (place_of entries letters) refl
  where
    one : (at : ℕ) → place_of entries letters ≡ Some at → (word : List ℕ) → begins_at entries word at ≡ starts_with nat_eq word letters
    one at same word =
        (λ i. any_below (suc (length word)) (λ len. (one-there entries letters (take len word) at same ∙ same-turned letters (take len word)) i))
        ∙ begins word letters

    of : (o : Option ℕ) → place_of entries letters ≡ o → IfSome (option_map (has met) o) (λ asked. asked ≡ list_any (is_asked (Prefix letters)) words)
    of None same = tt
    of (Some at) same = those at ∙ (λ i. list_any (λ word. one at same word i) words)

pub fit-told : (index : Seen) (words : List (List ℕ)) (met : Met) (places : List ℕ) → AreMet index words met → (term : Term) →
    IfSome (answer_of (record { index = index; places = places; words = met.words.items; beginnings = met.beginnings.items }) term) (λ asked. asked ≡ list_any (is_asked term) words)
fit-told index words met places are (Word letters) = word-told index.words met.words.items words are.words.all letters
fit-told index words met places are (Prefix letters) = beginning-told index.beginnings met.beginnings.items words are.beginnings.all letters

known-there : (entries : List (List ℕ × List ℕ)) (met : List ℕ) (letters : List ℕ) (place : ℕ) → has (places_of entries letters) place ≡ true → is_some (option_map (has met) (place_of entries letters)) ≡ true
known-there entries met letters place there = of (place_of entries letters) (sym (stands-there entries letters place) ∙ there)
  where
    of : (o : Option ℕ) → option_map_or (λ at. has (places_in entries at) place) o false ≡ true → is_some (option_map (has met) o) ≡ true
    of None is = absurd cc
    of (Some at) is = refl

pub fit-known : (queries : Queries) (index : Seen) → IsIndexOf queries index → (words beginnings places : List ℕ) (term : Term) (place : ℕ) → asks_at queries term place ≡ true →
    is_some (answer_of (record { index = index; places = places; words = words; beginnings = beginnings }) term) ≡ true
fit-known queries index is words beginnings places (Word letters) place asks = known-there index.words words letters place (is.words letters place ∙ asks)
fit-known queries index is words beginnings places (Prefix letters) place asks = known-there index.beginnings beginnings letters place (is.beginnings letters place ∙ asks)

-- ---- one query more

-- what is said of the query at a place, with one query more
more-said : (test : Formula ℕ → Bool) (queries : Queries) (query : Option (Formula ℕ)) (place : ℕ) →
    option_map_or test (query_at (queries ++ query ∷ []) place) false ≡ (option_map_or test (query_at queries place) false || (option_map_or test query false && length queries == place))
more-said test [] query zero = sym (ap (λ (b : Bool). option_map_or test query false && b) (eq-eqb 0 zero refl) ∙ and-true (option_map_or test query false))
more-said test [] query (suc place) = sym (ap (λ (b : Bool). option_map_or test query false && b) (ne_eqb 0 (suc place) (λ is. absurd (omega (arith, is)))) ∙ and-false (option_map_or test query false))
more-said test (q ∷ queries) query zero =
    sym (ap (λ (b : Bool). option_map_or test q false || b) (ap (λ (b : Bool). option_map_or test query false && b) (ne_eqb (suc (length queries)) zero (λ is. absurd (omega (arith, is)))) ∙ and-false (option_map_or test query false))
    ∙ or-false (option_map_or test q false))
more-said test (q ∷ queries) query (suc place) =
    more-said test queries query place
    ∙ ap (λ (b : Bool). option_map_or test (query_at queries place) false || (option_map_or test query false && b)) (sym (eqb-suc (length queries) place))

module _ (queries : Queries) (query : Option (Formula ℕ)) (old new : Seen) (place : ℕ) where
  abbrev Adds : (List (List ℕ × List ℕ)) → (List (List ℕ × List ℕ)) → (List ℕ → Formula ℕ → Bool) → Type 0
  Adds before after test = (letters : List ℕ) (other : ℕ) →
      has (places_of after letters) other ≡ (has (places_of before letters) other || (option_map_or (test letters) query false && place == other))

  pub index-more : IsIndexOf queries old → place ≡ old.count → new.count ≡ old.count + 1 → Adds old.words new.words has_word → Adds old.beginnings new.beginnings has_beginning →
      AddsAll old.wordless new.wordless (λ other. option_map_or (can_be true) query false && place == other) → IsIndexOf (queries ++ query ∷ []) new
  index-more is counted more words beginnings wordless = record {
    count = more ∙ ap (λ (n : ℕ). n + 1) is.count ∙ sym (length-append queries (query ∷ []));
    words = λ letters other.
        words letters other
        ∙ (λ i. is.words letters other i || (option_map_or (has_word letters) query false && (counted ∙ is.count) i == other))
        ∙ sym (more-said (has_word letters) queries query other);
    beginnings = λ letters other.
        beginnings letters other
        ∙ (λ i. is.beginnings letters other i || (option_map_or (has_beginning letters) query false && (counted ∙ is.count) i == other))
        ∙ sym (more-said (has_beginning letters) queries query other);
    wordless = λ other.
        wordless other
        ∙ (λ i. is.wordless other i || (option_map_or (can_be true) query false && (counted ∙ is.count) i == other))
        ∙ sym (more-said (can_be true) queries query other);
  }
