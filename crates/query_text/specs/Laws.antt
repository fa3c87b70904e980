-- Theorems over the definitions alone.
use Rattle.std.specs.Prelude.{◌≡◌, ⊤, ℕ, ◌+◌, ◌≤◌, true, List, [], ◌∷◌, Result, Ok, Err}
use Rattle.std.specs.List.{list_all}
use Rattle.std.specs.Option.{option_map_or}
use Rattle.hac_model.specs.Query.Formula.{Formula}
use Rattle.hac_model.specs.Query.Formula as formula
use Rattle.hac_model.specs.Query.Grammar.{Token, Open, Tree, query, tokens, meaning, SpellAll, IsFault, IsPath, Reads}
use Rattle.hac_model.specs.Tree.Paths.{are_names}
use Rattle.hac_model.specs.Query.Queries.{are_terms}
use Rattle.hac_model.specs.Query.QueryReading.{read_on, fresh_reader, read_query, is_spelled_query}
use Rattle.hac_model.specs.Query.QueryText.{query_text, referred_by}
use Rattle.hac_model.specs.declared.paths.PathWord.{PathWord}
use Rattle.hac_model.specs.declared.replies.Refusal.{Refusal}
use Rattle.hac_model.specs.declared.replies.Refusal.TheVariants.{Limit}
use Rattle.hac_model.specs.declared.reading.Part.{Part}
use Rattle.query_text.specs.Printing.{path_at, are_known, printed_query}
use Rattle.query_text.specs.declared.paths.NamedDir.{NamedDir}

-- no bytes are two queries
abbrev pub AtMostOneReading : Type 0
AtMostOneReading = (bytes : List ℕ) (one other : Part) → Reads bytes one → Reads bytes other → one ≡ other

-- what was found is the query that the bytes are, or their first fault
abbrev pub IsFound : List ℕ → Result Part ℕ → Type 0
IsFound bytes (Ok part) = Reads bytes part
IsFound bytes (Err place) = IsFault bytes place

-- what reading finds is the query that the bytes are, or their first fault
abbrev pub QueriesAreRead : Type 0
QueriesAreRead = (bytes : List ℕ) → IsFound bytes (read_on 1 bytes fresh_reader)

-- reading finds each query
abbrev pub QueriesAreFound : Type 0
QueriesAreFound = (bytes : List ℕ) (part : Part) → Reads bytes part → read_on 1 bytes fresh_reader ≡ Ok part

-- the directories of the query are named by paths that begin at the root
abbrev pub ArePaths : Formula (List ℕ) → Type 0
ArePaths (formula.Term asked) = ⊤
ArePaths (formula.Dir path) = IsPath path
ArePaths (formula.Not asked) = ArePaths asked
ArePaths (formula.And left right) = ArePaths left × ArePaths right
ArePaths (formula.Or left right) = ArePaths left × ArePaths right

-- a query as it is printed is read as that query
abbrev pub PrintedQueryIsRead : Type 0
PrintedQueryIsRead = (asked : Formula (List ℕ)) → are_terms asked ≡ true → ArePaths asked → (part : Part) × Reads (query_text asked) part × (part.query ≡ asked)

-- how many parentheses are opened
abbrev pub opened : List Token → ℕ
opened [] = 0
opened (Open ∷ ts) = 1 + opened ts
opened (t ∷ ts) = opened ts

-- a query as it is printed has the fewest parentheses: none of its spellings has fewer. So where a printed pair is left
-- out, what is left is another query, or none.
abbrev pub ParenthesesAreNeeded : Type 0
ParenthesesAreNeeded =
    (asked : Formula (List ℕ)) → are_terms asked ≡ true → ArePaths asked → (t : Tree query) × SpellAll (tokens t) (query_text asked) × ((meaning t).query ≡ asked)
    × ((other : Tree query) → (meaning other).query ≡ asked → opened (tokens t) ≤ opened (tokens other))

-- a query that is read holds no more than a query may: its words are in lower case, its terms, letters and `NOT`s are
-- few enough, and its directories begin at the root
abbrev pub ReadQueriesAreSpelled : Type 0
ReadQueriesAreSpelled = (bytes : List ℕ) (asked : Formula PathWord) → read_query bytes ≡ Ok asked → is_spelled_query asked ≡ true

-- what was read is the query, or it exceeds a limit
abbrev pub IsReadBack : Formula PathWord → Result (Formula PathWord) Refusal → Type 0
IsReadBack asked (Ok read) = read ≡ asked
IsReadBack asked (Err (Limit word)) = ⊤
IsReadBack asked (Err other) = ⊥

-- the word that leads from the root to a directory
abbrev pub word_to : List NamedDir → ℕ → PathWord
word_to paths dir = record { absolute = true; ups = 0; names = option_map_or (λ path. path) (path_at paths dir) [] }

-- a query of a state as it is printed is read as that query, its directories named by the words that lead to them, but
-- for the limits of its text
abbrev pub PrintedQueryIsReadBack : Type 0
PrintedQueryIsReadBack =
    (paths : List NamedDir) (asked : Formula ℕ) → list_all (λ named. are_names named.path) paths ≡ true → are_known paths asked ≡ true → are_terms asked ≡ true
    → IsReadBack (referred_by (word_to paths) asked) (read_query (printed_query paths asked))
