-- What a space answers, given its documents.
use Rattle.std.specs.Prelude.{ℕ, All, ◌≡◌, Bool, IfNone, IsTrue, List, [], ◌++◌, filter, length, map, not, Option}
use Rattle.std.specs.Cmp.Lexicographic.{slice_cmp}
use Rattle.std.specs.List.{find, list_any}
use Rattle.std.specs.List.Sorted.{IsStrictlySortedBy}
use Rattle.std.specs.Map.{lookup}
use Rattle.std.specs.Option.{option_and_then, option_map, option_to_list, unwrap_or}
use Rattle.std.specs.Ordering.{nat_cmp}
use Rattle.std.specs.Str.{bytes_eq}
use Rattle.hac_model.specs.Query.Words.{has_term}
use Rattle.hac_model.specs.Tree.Names.{is_name}
use Rattle.hac_model.specs.declared.spaces.Answers.{Answers}
use Rattle.hac_model.specs.declared.spaces.Asks.{Asks}
use Rattle.hac_model.specs.declared.terms.Term.{Term}
use Rattle.hac_model.specs.Spaces.Catalogue.{Document, names}

-- the names of the documents whose text has the term
abbrev pub names_with : List Document → Term → List (List ℕ)
names_with documents term = names (filter (λ document. has_term document.1 term) documents)

-- the text of the document of that name, if there is one
abbrev pub text_at : List Document → List ℕ → Option (List ℕ)
text_at documents name = lookup (bytes_eq name) documents

-- names as the entries of a directory have them, in the order of their bytes, no two the same
pub record AreRisingNames (found : List (List ℕ)) : Type 0 where
  pub names : All (λ name. IsTrue (is_name name)) found
  pub rising : IsStrictlySortedBy (slice_cmp nat_cmp) found

-- a space that is attached: its name, and its documents in the order of their names
abbrev pub Attached : Type 0
Attached = List ℕ × List Document

-- a space of this name is attached
abbrev pub is_attached : List Attached → List ℕ → Bool
is_attached spaces name = list_any (λ space. bytes_eq name space.0) spaces

-- the documents of the space of this name; a space that isn't attached has none
abbrev pub documents_in : List Attached → List ℕ → List Document
documents_in spaces name = unwrap_or (lookup (bytes_eq name) spaces) []

-- what the spaces answer: the names of the documents of the listed space, for each term the names of those that have it,
-- and the text of the one that is fetched
abbrev pub answers_of : List Attached → Asks → Answers
answers_of spaces asks = record {
  list = unwrap_or (option_map (λ space. names (documents_in spaces space)) asks.list) [];
  found = map (λ question. names_with (documents_in spaces question.space) question.term) asks.searches;
  fetched = option_and_then (λ fetch. text_at (documents_in spaces fetch.space) fetch.document) asks.fetch;
}

-- the spaces that the questions are to, in their order
abbrev pub asked_spaces : Asks → List (List ℕ)
asked_spaces asks =
    option_to_list asks.list
    ++ (map (λ question. question.space) asks.searches ++ option_to_list (option_map (λ fetch. fetch.space) asks.fetch))

-- the first of these spaces that isn't attached
abbrev pub first_absent : List Attached → List (List ℕ) → Option (List ℕ)
first_absent spaces asked = find (λ name. not (is_attached spaces name)) asked

-- answers as spaces give them, to these questions: names that rise where a list was asked for, and for each term one list
pub record AreAnswersTo (asks : Asks) (answers : Answers) : Type 0 where
  pub rising : AreRisingNames answers.list
  pub unlisted : IfNone asks.list (answers.list ≡ [])
  pub found : length answers.found ≡ length asks.searches
