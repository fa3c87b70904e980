-- Numbers of documents, found by their names.
use Rattle.std.specs.Prelude.{ℕ, ◌+◌, ◌==◌, ◌&&◌, if◌then◌else◌, List, [], ◌∷◌, Option, Some, None, is_none, nat_lt}
use Rattle.std.specs.Option.{option_map_or, unwrap_or}
use Rattle.std.specs.Str.{bytes_eq}
use Rattle.hac_model.specs.Tree.{child, is_document}
use Rattle.hac_model.specs.declared.states.Entry.{Entry}

-- a number is put among numbers that rise, unless it is there
abbrev pub put_number : ℕ → List ℕ → List ℕ
put_number number [] = number ∷ []
put_number number (other ∷ others) =
    if number == other then other ∷ others
    else if nat_lt number other then number ∷ other ∷ others
    else other ∷ put_number number others

-- a number that was found is put among them
abbrev pub put_found : Option ℕ → List ℕ → List ℕ
put_found found numbers = option_map_or (λ number. put_number number numbers) found numbers

-- the numbers that are found for names are put among them, one after the other
abbrev pub numbered_by : (List ℕ → Option ℕ) → List ℕ → List (List ℕ) → List ℕ
numbered_by find numbers [] = numbers
numbered_by find numbers (name ∷ names) = numbered_by find (put_found (find name) numbers) names

-- the document of a mount that has this name
abbrev pub document_with : List Entry → ℕ → List ℕ → Option ℕ
document_with [] mount name = None
document_with (entry ∷ entries) mount name =
    if is_document entry.body && (entry.parent == mount && bytes_eq entry.name name) then Some entry.number
    else document_with entries mount name

-- the numbers of documents of these names: what the mount has under a name stays, and the others take numbers from one on
abbrev pub numbers_of : List Entry → ℕ → ℕ → List (List ℕ) → List ℕ
numbers_of entries mount next [] = []
numbers_of entries mount next (name ∷ names) =
    unwrap_or (child entries mount name) next
    ∷ numbers_of entries mount (if is_none (child entries mount name) then next + 1 else next) names

-- the number that stands where the list has this name
abbrev pub listed_with : List (List ℕ) → List ℕ → List ℕ → Option ℕ
listed_with (other ∷ others) (number ∷ numbers) name = if bytes_eq other name then Some number else listed_with others numbers name
listed_with list numbers name = None
