-- What directories provide: what is stored in them, the links that their queries and the user give them, and what other
-- directories lend them.
use Rattle.std.specs.Prelude.{ℕ, zero, suc, Bool, false, ◌==◌, ◌&&◌, ◌||◌, not, if◌then◌else◌, List, [], filter, length, sum_by, Option, is_some, option_and_then}
use Rattle.std.specs.List.{list_any, range_with_len}
use Rattle.std.specs.Option.{option_map_or, unwrap_or}
use Rattle.hac_model.specs.Tree.Limits.{semantic_count}
use Rattle.hac_model.specs.Query.Formula.{Formula}
use Rattle.hac_model.specs.Query.Queries.{query_meaning}
use Rattle.hac_model.specs.Tree.Mounts.{kept_for}
use Rattle.hac_model.specs.Tree.{answers_in, body_at, entry_at, extends, is_directory_at, is_document_at, is_linkable, path_of, permanent_in, prohibited_in, query_in, shown_text, space_in}
use Rattle.hac_model.specs.Query.Words.{has_term}
use Rattle.hac_model.specs.declared.marks.Kind.{Kind}
use Rattle.hac_model.specs.declared.marks.Kind.TheVariants.{Transient, Permanent, Prohibited, Unlinked}
use Rattle.hac_model.specs.declared.states.Answer.{Answer}
use Rattle.hac_model.specs.declared.states.State.{State}
use Rattle.hac_model.specs.declared.terms.Term.{Term}

-- what can be linked has the number: a file or a document
abbrev pub is_item : State → ℕ → Bool
is_item s number = option_map_or is_linkable (body_at s.entries number) false

-- what can be linked, in order of number
abbrev pub items : State → List ℕ
items s = filter (is_item s) (range_with_len 0 s.next)

-- the directory of an entry; that of the root, which is no entry, is the root
abbrev pub parent_of : State → ℕ → ℕ
parent_of s number = option_map_or (λ entry. entry.parent) (entry_at s.entries number) 0

-- the text of an item as it was last indexed
abbrev pub shown_of : State → ℕ → Option (List ℕ)
shown_of s item = option_and_then shown_text (body_at s.entries item)

-- queries judge the item: it is a document, or a file that was indexed
abbrev pub is_judged : State → ℕ → Bool
is_judged s item = is_document_at s.entries item || is_some (shown_of s item)

-- the space that a mount shows
abbrev pub space_at : State → ℕ → Option (List ℕ)
space_at s mount = option_and_then space_in (body_at s.entries mount)

-- what the space of a mount answered
abbrev pub answers_at : State → ℕ → List Answer
answers_at s mount = option_map_or answers_in (body_at s.entries mount) []

-- the documents of a mount that had a term when its space was asked for it
abbrev pub kept_at : State → ℕ → Term → List ℕ
kept_at s mount term = unwrap_or (kept_for (answers_at s mount) term) []

-- the query of a directory, where it is semantic
abbrev pub query_at : State → ℕ → Option (Formula ℕ)
query_at s dir = option_and_then query_in (body_at s.entries dir)

abbrev pub is_semantic : State → ℕ → Bool
is_semantic s dir = is_some (query_at s dir)

-- the item is stored below the directory, at any depth. Nothing is below a number that no directory has.
abbrev pub is_below : State → ℕ → ℕ → Bool
is_below s dir item = is_item s item && is_directory_at s.entries dir && extends (path_of s item) (path_of s dir)

-- the items and directories that the user added to a directory
abbrev pub permanent_at : State → ℕ → List ℕ
permanent_at s dir = option_map_or permanent_in (body_at s.entries dir) []

-- the items that the user removed from it
abbrev pub prohibited_at : State → ℕ → List ℕ
prohibited_at s dir = option_map_or prohibited_in (body_at s.entries dir) []

-- the number is in the list
abbrev pub has : List ℕ → ℕ → Bool
has numbers number = list_any (λ other. other == number) numbers

-- the item or directory is a permanent link of the directory
abbrev pub is_permanent : State → ℕ → ℕ → Bool
is_permanent s dir item = has (permanent_at s dir) item

-- users may add it to a semantic directory: it is an item, or a directory
abbrev pub can_be_added : State → ℕ → Bool
can_be_added s number = is_item s number || is_directory_at s.entries number

-- the directories that the user added to a directory, in order of number: they lend it all that they provide
abbrev pub lenders : State → ℕ → List ℕ
lenders s dir = filter (is_directory_at s.entries) (permanent_at s dir)

-- the item is prohibited in the directory
abbrev pub is_prohibited : State → ℕ → ℕ → Bool
is_prohibited s dir item = has (prohibited_at s dir) item

-- the item has the term: a document by what its mount keeps, a file by its text as last indexed. A file that was never
-- indexed has none.
abbrev pub atom : State → Term → ℕ → Bool
atom s term item =
    if is_document_at s.entries item then has (kept_at s (parent_of s item) term) item
    else option_map_or (λ text. has_term text term) (shown_of s item) false

-- Below, `linked` says of each directory whether the item was found by it or is lent to it.

-- the directory provides the item: it is stored below it, was found by it, is lent to it, or was added to it
abbrev pub provide : State → (ℕ → Bool) → ℕ → ℕ → Bool
provide s linked dir item =
    is_below s dir item || (is_semantic s dir && (linked dir || (is_permanent s dir item && is_item s item)))

-- a directory that the user added to this one provides the item
abbrev pub is_lent : State → (ℕ → Bool) → ℕ → ℕ → Bool
is_lent s linked dir item = list_any (λ lender. provide s linked lender item) (lenders s dir)

-- the item satisfies the query
abbrev pub holds : State → (ℕ → Bool) → Formula ℕ → ℕ → Bool
holds s linked query item = query_meaning (atom s) (provide s linked) query item

-- the item satisfies the directory's query
abbrev pub satisfies : State → (ℕ → Bool) → ℕ → ℕ → Bool
satisfies s linked dir item = option_map_or (λ query. holds s linked query item) (query_at s dir) false

-- the user neither added the item to the directory nor removed it there
abbrev pub is_unmarked : State → ℕ → ℕ → Bool
is_unmarked s dir item = not (is_permanent s dir item || is_prohibited s dir item)

-- the directory is to have a found link to the item: its parent provides it, queries judge it, it satisfies the query,
-- and the user says nothing else
abbrev pub passes : State → (ℕ → Bool) → ℕ → ℕ → Bool
passes s linked dir item =
    provide s linked (parent_of s dir) item && is_judged s item && satisfies s linked dir item && is_unmarked s dir item

-- what a directory has beside what is stored in it and what the user added, items in order of number: those that it found,
-- and those that are lent to it
pub record DirLinks : Type 0 where
  pub found : List ℕ
  pub lent : List ℕ

abbrev pub no_links : DirLinks
no_links = record { found = []; lent = [] }

-- the directories that found an item or to which it is lent, given the links of each
abbrev pub column : (ℕ → DirLinks) → ℕ → ℕ → Bool
column known item dir = has (known dir).found item || has (known dir).lent item

-- the links of each directory, found anew from known ones
abbrev pub round : State → (ℕ → DirLinks) → ℕ → DirLinks
round s known dir =
    if is_semantic s dir then record {
      found = filter (λ item. passes s (column known item) dir item) (items s);
      lent = filter (λ item. is_lent s (column known item) dir item) (items s);
    }
    else no_links

-- the links after n rounds that begin with none
abbrev pub rounds : ℕ → State → ℕ → DirLinks
rounds zero s = λ dir. no_links
rounds (suc n) s = round s (rounds n s)

-- the links of each directory: as many rounds as there are semantic directories
unfoldable pub links : State → ℕ → DirLinks
links s = rounds (semantic_count s.entries) s

-- the transient links of a directory: the items that it found
abbrev pub transient_at : State → ℕ → List ℕ
transient_at s dir = (links s dir).found

-- the items that a query finds anywhere, given the links: those that it judges and that satisfy it. Which terms an item
-- has is told by a state in which mounts may keep more.
unfoldable pub found_as : State → State → Formula ℕ → List ℕ
found_as told s query = filter (λ item. is_judged s item && query_meaning (atom told) (provide s (column (links s) item)) query item) (items s)

-- the same, by what mounts keep now
abbrev pub found_by : State → Formula ℕ → List ℕ
found_by s query = found_as s s query

-- how an item or a directory is linked in a directory
unfoldable pub kind : State → ℕ → ℕ → Kind
kind s dir item =
    if is_permanent s dir item then Permanent
    else (if is_prohibited s dir item then Prohibited
    else (if has (transient_at s dir) item then Transient
    else Unlinked))

-- how many links of a kind there are, over all directories, given those of each
abbrev pub over_directories : State → (ℕ → List ℕ) → ℕ
over_directories s numbers = sum_by (λ dir. length (numbers dir)) (range_with_len 0 s.next)

-- how many found links there are
unfoldable pub transient_count : State → ℕ
transient_count s = over_directories s (transient_at s)

-- how many items and directories users added to directories
unfoldable pub permanent_count : State → ℕ
permanent_count s = over_directories s (permanent_at s)

-- how many they removed from directories
unfoldable pub prohibited_count : State → ℕ
prohibited_count s = over_directories s (prohibited_at s)
