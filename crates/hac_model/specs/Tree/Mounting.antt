-- Mounts come, take over what their spaces have now, and go.
use Rattle.std.specs.Prelude.{ℕ, Bool, true, false, ◌+◌, ◌==◌, ◌&&◌, ◌||◌, not, List, [], ◌∷◌, ◌++◌, length, filter, map, nat_le, is_none}
use Rattle.std.specs.List.{list_all, list_any}
use Rattle.std.specs.Option.{option_map_or}
use Rattle.std.specs.Str.{bytes_eq}
use Rattle.hac_model.specs.Tree.Changes.{added, changed_at, edited}
use Rattle.hac_model.specs.Tree.Links.{parent_of}
use Rattle.hac_model.specs.Tree.Listing.{is_before}
use Rattle.hac_model.specs.Tree.Names.{is_name}
use Rattle.hac_model.specs.Tree.{child, entry_at, is_document, is_document_at}
use Rattle.hac_model.specs.declared.limits.TheConstants.{DOCS_LIMIT}
use Rattle.hac_model.specs.Versions.{docs_limit}
use Rattle.hac_model.specs.declared.states.Answer.{Answer}
use Rattle.hac_model.specs.declared.states.Body.{Body}
use Rattle.hac_model.specs.declared.states.Body.TheVariants.{Semantic, Mount, Document}
use Rattle.hac_model.specs.declared.states.Entry.{Entry}
use Rattle.hac_model.specs.declared.states.State.{State}
use Rattle.hac_model.specs.declared.terms.Term.{Term}
use Rattle.hac_model.specs.declared.versions.Version.{Version}

-- What a space tells.

-- names rise
abbrev pub do_names_rise : List (List ℕ) → Bool
do_names_rise [] = true
do_names_rise (name ∷ names) = list_all (is_before name) names && do_names_rise names

-- the names may be those of a space's documents
abbrev pub are_documents : List (List ℕ) → Bool
are_documents names = list_all is_name names && (do_names_rise names && nat_le (length names) DOCS_LIMIT)

-- a mount may have so many documents in a store of a version
abbrev pub are_documents_few : Version → List (List ℕ) → Bool
are_documents_few version names = nat_le (length names) (docs_limit version)

-- what was told of terms, one list for each in their order
abbrev pub answers_to : List Term → List (List ℕ) → List Answer
answers_to [] told = []
answers_to (term ∷ terms) [] = []
answers_to (term ∷ terms) (numbers ∷ told) = record { term = term; documents = numbers } ∷ answers_to terms told

-- numbers rise, from a bound on
abbrev pub do_rise_from : ℕ → List ℕ → Bool
do_rise_from bound [] = true
do_rise_from bound (number ∷ numbers) = nat_le bound number && do_rise_from (number + 1) numbers

-- the number is that of a document of the mount
abbrev pub is_document_of : State → ℕ → ℕ → Bool
is_document_of s mount number = is_document_at s.entries number && (parent_of s number == mount)

-- a list names documents of the mount, each once
abbrev pub is_told : State → ℕ → List ℕ → Bool
is_told s mount numbers = do_rise_from 0 numbers && list_all (is_document_of s mount) numbers

-- there is one such list for each term
abbrev pub are_told : State → ℕ → List Term → List (List ℕ) → Bool
are_told s mount terms told = length told == length terms && list_all (is_told s mount) told

-- Documents come.

-- documents of a mount, numbered from a number on
abbrev pub documents_from : ℕ → ℕ → List (List ℕ) → List Entry
documents_from number mount [] = []
documents_from number mount (name ∷ names) =
    record { number = number; parent = mount; name = name; body = Document } ∷ documents_from (number + 1) mount names

-- new documents of a mount, which take the next numbers
abbrev pub with_documents : State → ℕ → List (List ℕ) → State
with_documents s mount names = record s {
  next = s.next + length names;
  entries = s.entries ++ documents_from s.next mount names;
}

-- Entries go, several at once.

-- the entry of the number passes a test
abbrev pub is_such_at : (Entry → Bool) → List Entry → ℕ → Bool
is_such_at test entries number = option_map_or test (entry_at entries number) false

-- the state without the entries that pass a test
abbrev pub without_such : (Entry → Bool) → State → State
without_such test s = record s { entries = filter (λ entry. not (test entry)) s.entries }

-- the numbers that don't pass a test
abbrev pub numbers_without : (ℕ → Bool) → List ℕ → List ℕ
numbers_without test numbers = filter (λ number. not (test number)) numbers

-- a body without marks on items that pass a test
abbrev pub forgetting_such : (ℕ → Bool) → Body → Body
forgetting_such test (Semantic query permanent prohibited) = Semantic query (numbers_without test permanent) (numbers_without test prohibited)
forgetting_such test other = other

-- the same of all entries
abbrev pub forgotten_such : (ℕ → Bool) → State → State
forgotten_such test s = record s { entries = map (edited (forgetting_such test)) s.entries }

-- the entries that pass a test go, and all marks on them
abbrev pub cleared : (Entry → Bool) → State → State
cleared test s = forgotten_such (is_such_at test s.entries) (without_such test s)

-- What becomes of mounts.

-- one of the names is this one
abbrev pub is_among : List (List ℕ) → List ℕ → Bool
is_among names name = list_any (bytes_eq name) names

-- a document of the mount whose name isn't among these
abbrev pub is_gone : ℕ → List (List ℕ) → Entry → Bool
is_gone mount names entry = is_document entry.body && (entry.parent == mount && not (is_among names entry.name))

-- those of the names that no document of the mount has
abbrev pub fresh : State → ℕ → List (List ℕ) → List (List ℕ)
fresh s mount names = filter (λ name. is_none (child s.entries mount name)) names

-- the mount itself, or what is in it
abbrev pub is_of_mount : ℕ → Entry → Bool
is_of_mount mount entry = entry.number == mount || entry.parent == mount

-- a mount keeps these answers, and no others
abbrev pub keeping : List Answer → Body → Body
keeping answers (Mount space kept) = Mount space answers
keeping answers other = other

-- a new mount of a space, which keeps these answers. Its documents take the numbers behind its own.
abbrev pub mounted : State → ℕ → List ℕ → List ℕ → List Answer → List (List ℕ) → State
mounted s dir name space answers documents = with_documents (added s dir name (Mount space answers)) s.next documents

-- the mount has the documents of these names: those whose names are new take the next numbers, and the others keep theirs
abbrev pub redocumented : State → ℕ → List (List ℕ) → State
redocumented s mount documents = with_documents (cleared (is_gone mount documents) s) mount (fresh s mount documents)

-- a mount takes over what its space has now: its documents, and these answers, of which older ones are none
abbrev pub synced : State → ℕ → List Answer → List (List ℕ) → State
synced s mount answers documents = changed_at (redocumented s mount documents) mount (edited (keeping answers))

-- a mount goes with its documents
abbrev pub unmounted : State → ℕ → State
unmounted s mount = cleared (is_of_mount mount) s
