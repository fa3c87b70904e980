-- The dump of a tree: the commands that make the same tree, and the script that spells them. Each directory is made plain
-- first and gets its query and its marks later, so that no command on the way meets a cycle.
use Rattle.std.specs.Prelude.{ℕ, Bool, true, false, not, if◌then◌else◌, List, [], ◌∷◌, ◌++◌, filter, map, codes, Option, Some, None, is_ok, is_some}
use Rattle.std.specs.List.{flat_map}
use Rattle.std.specs.Option.{option_map_or, unwrap_or}
use Rattle.hac_model.specs.Query.Formula.{Formula}
use Rattle.hac_model.specs.Query.QueryReading.{read_query}
use Rattle.hac_model.specs.Query.QueryText.{query_text, referred_by}
use Rattle.hac_model.specs.Script.CommandTexts.{line_text, path_part}
use Rattle.hac_model.specs.Script.Printed.{ended}
use Rattle.hac_model.specs.Tree.Listing.{is_before}
use Rattle.hac_model.specs.Tree.Paths.{path_text}
use Rattle.hac_model.specs.Tree.{is_directory, is_dirty, is_mount, is_symlink, path_of, permanent_in, prohibited_in, query_in, shown_text, target_in, text_in}
use Rattle.hac_model.specs.declared.commands.Command.{Command}
use Rattle.hac_model.specs.declared.commands.Command.TheVariants.{Mkdir, Write, Cd, Ln, Setq, Sln, Srm, Index}
use Rattle.hac_model.specs.declared.paths.PathWord.{PathWord}
use Rattle.hac_model.specs.declared.states.Body.{Body}
use Rattle.hac_model.specs.declared.states.Entry.{Entry}
use Rattle.hac_model.specs.declared.states.State.{State}

-- the word that leads to a path from anywhere
abbrev pub word_to : List (List ℕ) → PathWord
word_to path = record { absolute = true; ups = 0; names = path }

-- the word that leads nowhere else: `.`
abbrev pub word_here : PathWord
word_here = record { absolute = false; ups = 0; names = [] }

-- the word that leads to what has a number
abbrev pub word_at : State → ℕ → PathWord
word_at s number = word_to (path_of s number)

-- ---- entries in byte order of their printed paths

-- the one entry comes before the other
abbrev pub is_path_before : State → Entry → Entry → Bool
is_path_before s entry other = is_before (path_text (path_of s entry.number)) (path_text (path_of s other.number))

-- an entry put into its place among entries in order
abbrev pub put_by_path : State → Entry → List Entry → List Entry
put_by_path s new [] = new ∷ []
put_by_path s new (entry ∷ entries) =
    if is_path_before s new entry then new ∷ entry ∷ entries else entry ∷ put_by_path s new entries

-- entries in order
abbrev pub by_path : State → List Entry → List Entry
by_path s [] = []
by_path s (entry ∷ entries) = put_by_path s entry (by_path s entries)

-- the entries whose bodies pass, in order
abbrev pub such_by_path : State → (Body → Bool) → List Entry
such_by_path s test = by_path s (filter (λ entry. test entry.body) s.entries)

-- ---- the commands

-- a file was indexed
abbrev pub is_shown : Body → Bool
is_shown body = is_some (shown_text body)

-- a directory is made, plain
abbrev pub make_directory : State → Entry → Command
make_directory s entry = Mkdir (word_at s entry.number)

-- a file gets the text with which it was last indexed
abbrev pub put_shown : State → Entry → Command
put_shown s entry = Write (word_at s entry.number) (unwrap_or (shown_text entry.body) [])

-- a file gets its text
abbrev pub put_text : State → Entry → Command
put_text s entry = Write (word_at s entry.number) (unwrap_or (text_in entry.body) [])

-- a symbolic link is made
abbrev pub make_link : State → Entry → Command
make_link s entry = Ln (unwrap_or (target_in entry.body) []) (word_at s entry.number)

-- a semantic directory gets its query
abbrev pub set_query : State → Entry → List Command
set_query s entry =
    option_map_or (λ query. Setq (word_at s entry.number) (referred_by (word_at s) query) ∷ []) (query_in entry.body) []

-- what has a number is added to the directory in which the session stands
abbrev pub add_here : State → ℕ → Command
add_here s number = Sln (word_at s number) word_here

-- an item is removed there, as it can be once it was added
abbrev pub remove_here : State → ℕ → List Command
remove_here s number = add_here s number ∷ Srm (word_at s number) word_here ∷ []

-- what was added to a directory is added, and what was removed is added and removed
abbrev pub mark_here : State → Body → List Command
mark_here s body = map (add_here s) (permanent_in body) ++ flat_map (remove_here s) (prohibited_in body)

-- the session goes to where a word leads, if there is something to do there
abbrev pub going_to : PathWord → List Command → List Command
going_to word [] = []
going_to word (command ∷ commands) = Cd (Some word) ∷ command ∷ commands

-- a semantic directory gets its marks
abbrev pub set_marks : State → Entry → List Command
set_marks s entry = going_to (word_at s entry.number) (mark_here s entry.body)

-- the session goes back to the root, if it went elsewhere
abbrev pub go_back : List Command → List Command
go_back [] = []
go_back (command ∷ commands) = command ∷ commands ++ Cd None ∷ []

-- directories by path, files as they were indexed, what was written since, links, and then queries and marks by number
unfoldable pub dump_commands : State → List Command
dump_commands s =
    map (make_directory s) (such_by_path s is_directory)
    ++ (map (put_shown s) (such_by_path s is_shown)
    ++ (Index
    ∷ (map (put_text s) (such_by_path s is_dirty)
    ++ (map (make_link s) (such_by_path s is_symlink)
    ++ (flat_map (set_query s) s.entries
    ++ go_back (flat_map (set_marks s) s.entries))))))

-- ---- the script

-- a command on its line, where `.` stands without quotes
abbrev pub dump_line : Command → List ℕ
dump_line (Sln item dir) = codes "sln" ++ (path_part item ++ codes " .")
dump_line (Srm item dir) = codes "srm" ++ (path_part item ++ codes " .")
dump_line other = line_text other

-- what stands behind the line: the bytes of a `put`, and a line end of their own
abbrev pub carried : Command → List ℕ
carried (Write path text) = text ++ codes "\n"
carried other = []

-- a command with its line's end and what stands behind that
abbrev pub dumped : Command → List ℕ
dumped command = ended (dump_line command) ++ carried command

-- the script
unfoldable pub dump_text : State → List ℕ
dump_text s = flat_map dumped (dump_commands s)

-- ---- what has no dump

-- a query as it is printed, with the paths of its directories
abbrev pub printed_query : State → Formula ℕ → List ℕ
printed_query s query = query_text (referred_by (λ dir. path_text (path_of s dir)) query)

-- where the body has a query, it is read as one when it was printed: it passes no limit there
abbrev pub is_printable : State → Body → Bool
is_printable s body = option_map_or (λ query. is_ok (read_query (printed_query s query))) (query_in body) true

-- the least number of an entry whose body passes: the first one, since numbers rise
abbrev pub first_such : (Body → Bool) → List Entry → Option ℕ
first_such test [] = None
first_such test (entry ∷ entries) = if test entry.body then Some entry.number else first_such test entries

-- a mount, whose documents are no part of the store
abbrev pub first_mount : State → Option ℕ
first_mount s = first_such is_mount s.entries

-- a directory whose query can't be printed within the limits
abbrev pub first_unprintable : State → Option ℕ
first_unprintable s = first_such (λ body. not (is_printable s body)) s.entries
