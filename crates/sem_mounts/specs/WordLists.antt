-- Words, each with the numbers of the documents that have it. Documents are numbered from 0 in the
-- order of their names.
use Rattle.std.specs.Prelude.{◌≡◌, ◌<◌, ◌+◌, ℕ, Bool, false, ◌&&◌, ◌||◌, nat_eq, slice_index_or}
use Rattle.std.specs.Prelude.{if◌then◌else◌, List, [], ◌∷◌, length}
use Rattle.std.specs.Cmp.Lexicographic.{slice_cmp}
use Rattle.std.specs.List.{list_any}
use Rattle.std.specs.List.Sorted.{IsSortedBy}
use Rattle.std.specs.Ordering.{is_lt, nat_cmp}
use Rattle.hac_model.specs.Query.Words.{has_term, is_asked}
use Rattle.hac_model.specs.declared.terms.Term.{Term}
use Rattle.hac_model.specs.Spaces.Catalogue.{Document}

-- words, each with the numbers of the documents that have it
abbrev pub Lists : Type 0
Lists = List (List ℕ × List ℕ)

-- the list at this place is that of the word
abbrev pub IsListOf : Lists → List ℕ → ℕ → Type 0
IsListOf lists word place =
    (place < length lists)
    × ((other : List ℕ × List ℕ) → (slice_index_or lists place other).0 ≡ word)

-- no word stands behind one that it is before
abbrev pub AreInOrder : Lists → Type 0
AreInOrder lists = IsSortedBy (λ list other. is_lt (slice_cmp nat_cmp list.0 other.0)) lists

-- the document of this number stands under a word that the term asks for
abbrev pub is_listed : Lists → ℕ → Term → Bool
is_listed lists number term =
    list_any (λ list. is_asked term list.0 && list_any (nat_eq number) list.1) lists

-- of documents that are numbered from k, the one of this number has the term
abbrev pub has_from : ℕ → List Document → ℕ → Term → Bool
has_from k [] number term = false
has_from k (document ∷ documents) number term =
    (has_term document.1 term && nat_eq number k) || has_from (k + 1) documents number term

-- the lists say which terms the documents have
abbrev pub AreListed : List Document → Lists → Type 0
AreListed documents lists =
    (number : ℕ) (term : Term) → is_listed lists number term ≡ has_from 0 documents number term

-- the mark of this number is set
abbrev pub is_marked : List Bool → ℕ → Bool
is_marked marks number = slice_index_or marks number false

-- there are so many marks, and each is set whose number passes the test
pub record AreMarked (is_wanted : ℕ → Bool) (count : ℕ) (marks : List Bool) : Type 0 where
  pub len : length marks ≡ count
  pub set : (number : ℕ) → number < count → is_marked marks number ≡ is_wanted number

-- those of these names whose mark is set
abbrev pub marked : List (List ℕ) → List Bool → List (List ℕ)
marked [] marks = []
marked (name ∷ names) [] = []
marked (name ∷ names) (mark ∷ marks) =
    if mark then name ∷ marked names marks else marked names marks
