-- What commands that read show.
use Rattle.std.specs.Prelude.{ℕ, ◌-◌, if◌then◌else◌, List, [], ◌∷◌, ◌++◌, map, codes, decimal, Option, option_and_then}
use Rattle.std.specs.List.{flat_map, range_with_len}
use Rattle.std.specs.Option.{option_map_or}
use Rattle.hac_model.specs.Query.Formula.{Formula}
use Rattle.hac_model.specs.Run.Asks.{told_for}
use Rattle.hac_model.specs.Tree.Asking.{with_told}
use Rattle.hac_model.specs.Tree.Limits.{counts, plain_count}
use Rattle.hac_model.specs.Tree.Links.{found_as, kind, permanent_count, prohibited_count, query_at, transient_count}
use Rattle.hac_model.specs.Tree.Listing.{children, entry_line}
use Rattle.hac_model.specs.Tree.Paths.{path_text}
use Rattle.hac_model.specs.Query.QueryText.{query_text, referred_by}
use Rattle.hac_model.specs.Script.Texts.{escaped_text}
use Rattle.hac_model.specs.Tree.{body_at, is_document_at, path_of, target_in, text_in}
use Rattle.hac_model.specs.declared.marks.Kind.{Kind}
use Rattle.hac_model.specs.declared.marks.Kind.TheVariants.{Transient, Permanent, Prohibited, Unlinked}
use Rattle.hac_model.specs.declared.resolved.Resolved.{Resolved}
use Rattle.hac_model.specs.declared.resolved.Resolved.TheVariants as command
use Rattle.hac_model.specs.declared.spaces.Answers.{Answers}
use Rattle.hac_model.specs.declared.states.State.{State}
use Rattle.hac_model.specs.declared.counts.Counts.{Counts}

-- an item or a directory of a kind, as `sls` lists it
abbrev pub kind_lines : List (List ℕ) → Kind → List (List ℕ)
kind_lines path Transient = (codes "t " ++ path_text path) ∷ []
kind_lines path Permanent = (codes "p " ++ path_text path) ∷ []
kind_lines path Prohibited = (codes "x " ++ path_text path) ∷ []
kind_lines path Unlinked = []

-- what is linked in a semantic directory, in order of number
abbrev pub link_lines : State → ℕ → List (List ℕ)
link_lines s dir = flat_map (λ number. kind_lines (path_of s number) (kind s dir number)) (range_with_len 0 s.next)

-- a query with the present paths of its directories
abbrev pub query_line : State → Formula ℕ → List ℕ
query_line s query = codes "= " ++ query_text (referred_by (λ dir. path_text (path_of s dir)) query)

-- the query of a directory
abbrev pub query_lines : State → ℕ → List (List ℕ)
query_lines s dir = option_map_or (λ query. query_line s query ∷ []) (query_at s dir) []

-- the letter of an item
abbrev pub item_letter : State → ℕ → List ℕ
item_letter s item = if is_document_at s.entries item then codes "o" else codes "f"

-- an item that a query finds
abbrev pub found_line : State → ℕ → List ℕ
found_line s item = item_letter s item ++ codes " " ++ path_text (path_of s item)

-- how much there is of one thing
abbrev pub count_text : List ℕ → ℕ → List ℕ
count_text word count = codes " " ++ word ++ codes " " ++ decimal count

-- the line of counts, of which the plain directories and the links of each kind are given apart
abbrev pub line_of_counts : Counts → ℕ → ℕ → ℕ → ℕ → List ℕ
line_of_counts counts plain transient permanent prohibited =
    codes "="
    ++ count_text (codes "files") counts.files
    ++ count_text (codes "documents") (counts.items - counts.files)
    ++ count_text (codes "directories") plain
    ++ count_text (codes "semantic") counts.semantics
    ++ count_text (codes "mounts") counts.mounts
    ++ count_text (codes "symbolic") counts.symlinks
    ++ count_text (codes "transient") transient
    ++ count_text (codes "permanent") permanent
    ++ count_text (codes "prohibited") prohibited
    ++ count_text (codes "dirty") counts.dirty
    ++ count_text (codes "next") counts.next

-- how much there is of everything
abbrev pub counts_line : State → List ℕ
counts_line s = line_of_counts (counts s) (plain_count s.entries) (transient_count s) (permanent_count s) (prohibited_count s)

-- a text, as `cat` prints it
abbrev pub text_line : List ℕ → List ℕ
text_line text = codes "= " ++ escaped_text text

-- the text of a file on one line, or that of a document, as its space answers
abbrev pub text_lines : Answers → State → ℕ → List (List ℕ)
text_lines answers s number = option_map_or (λ text. text_line text ∷ []) (shown_text answers s number) []
  where
    shown_text : Answers → State → ℕ → Option (List ℕ)
    shown_text answers s number =
        if is_document_at s.entries number then answers.fetched else option_and_then text_in (body_at s.entries number)

-- where a symbolic link leads, as it was given
abbrev pub target_line : List ℕ → List ℕ
target_line target = codes "= " ++ target

-- the target of a symbolic link
abbrev pub target_lines : State → ℕ → List (List ℕ)
target_lines s number = option_map_or (λ target. target_line target ∷ []) (option_and_then target_in (body_at s.entries number)) []

-- the path of a directory, as `pwd` prints it
abbrev pub path_line : State → ℕ → List ℕ
path_line s dir = codes "= " ++ path_text (path_of s dir)

-- the data lines of an accepted command, given what spaces answer: only one that reads has any
abbrev pub data_lines : Answers → State → Resolved → List (List ℕ)
data_lines answers s (command.Cat entry) = text_lines answers s entry
data_lines answers s (command.Ls dir) = map entry_line (children s dir)
data_lines answers s (command.Pwd dir) = path_line s dir ∷ []
data_lines answers s (command.Readlink entry) = target_lines s entry
data_lines answers s (command.Query dir) = query_lines s dir
data_lines answers s (command.Sls dir) = link_lines s dir
data_lines answers s (command.Find query) =
    map (found_line s) (found_as (with_told query (told_for s query answers.found) s) s query)
data_lines answers s command.Counts = counts_line s ∷ []
data_lines answers s other = []
