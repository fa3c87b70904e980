-- What one line of a script says.
use Rattle.std.specs.Prelude.{ℕ, Bool, true, ◌==◌, ◌&&◌, ◌||◌, if◌then◌else◌, nat_le, List, [], ◌∷◌, length, slice_index, codes, Option, None, Some, Result, Ok, Err}
use Rattle.std.specs.List.{list_all}
use Rattle.std.specs.Option.{ok_or, option_map, option_map_or}
use Rattle.std.specs.Str.{bytes_eq}
use Rattle.std.specs.Str.Parse.{digits_value}
use Rattle.hac_model.specs.Run.Answers.{◌>>=◌}
use Rattle.hac_model.specs.Bytes.{is_space}
use Rattle.hac_model.specs.Query.Formula.{Formula}
use Rattle.hac_model.specs.Tree.Limits.{is_text}
use Rattle.hac_model.specs.Script.LineWords.{first_word, after_space}
use Rattle.hac_model.specs.Script.PathWords.{is_bad, is_target, word_of}
use Rattle.hac_model.specs.Tree.Paths.{are_names}
use Rattle.hac_model.specs.Script.Numbers.{are_steps, is_number, is_tick}
use Rattle.hac_model.specs.Script.Puts.{came}
use Rattle.hac_model.specs.Script.SessionWords.{session_words}
use Rattle.hac_model.specs.Script.SpaceNames.{is_space_name}
use Rattle.hac_model.specs.Query.QueryReading.{is_spelled_query, read_query}
use Rattle.hac_model.specs.Script.Texts.{text_of}
use Rattle.hac_model.specs.declared.commands.Command.{Command}
use Rattle.hac_model.specs.declared.commands.Command.TheVariants.{Mkdir, Rmdir, Write, Cat, Ls, Cd, Pwd, Mv, Rm, Ln, Readlink, Smkdir, Setq, Unq, Query, Sls, Sln, Srm, Sforget, Find, Smount, Ssync, Sumount, Index, Tick, Counts, Checkpoint}
use Rattle.hac_model.specs.declared.commands.Line.{Line}
use Rattle.hac_model.specs.declared.limits.LimitWord.TheVariants as limit
use Rattle.hac_model.specs.declared.limits.TheConstants.{LINE_LIMIT, TARGET_LIMIT}
use Rattle.hac_model.specs.declared.paths.PathWord.{PathWord}
use Rattle.hac_model.specs.declared.replies.Refusal.{Refusal}
use Rattle.hac_model.specs.declared.replies.Refusal.TheVariants.{BadLine, BadName, Limit, ShortPut}
use Rattle.hac_model.specs.declared.taken.Taken.{Taken}
use Rattle.hac_model.specs.declared.taken.Taken.TheVariants.{Whole, Dropped, Short}

-- the one word of the bytes, with only spaces behind it
abbrev pub only_word : List ℕ → Result (List ℕ) Refusal
only_word bytes = do
  word ← first_word bytes
  if list_all is_space word.1 then Ok word.0 else Err BadLine

-- the path word that is the only word of the bytes
abbrev pub only_path : List ℕ → Result PathWord Refusal
only_path bytes = do
  word ← only_word bytes
  word_of word

-- the command of one path word, from the bytes behind its name
unfoldable pub one_path : (PathWord → Command) → List ℕ → Result Command Refusal
one_path command arguments = do
  path ← only_path arguments
  Ok (command path)

-- the command of one path word or of none, from the bytes behind its name
unfoldable pub maybe_path : (Option PathWord → Command) → List ℕ → Result Command Refusal
maybe_path command arguments =
    if list_all is_space arguments then Ok (command None) else one_path (λ path. command (Some path)) arguments

-- two words that are to be path words, one after the other
abbrev pub each_path : List ℕ → List ℕ → Result (PathWord × PathWord) Refusal
each_path first second = do
  from ← word_of first
  to ← word_of second
  Ok (from, to)

-- two path words, of which a bad one counts before one with a long name
abbrev pub two_paths : List ℕ → List ℕ → Result (PathWord × PathWord) Refusal
two_paths first second = if is_bad first || is_bad second then Err BadName else each_path first second

-- the command of two path words, from the bytes behind its name
unfoldable pub of_two_paths : (PathWord → PathWord → Command) → List ℕ → Result Command Refusal
of_two_paths command arguments = do
  first ← first_word arguments
  second ← only_word first.1
  paths ← two_paths first.0 second
  Ok (command paths.0 paths.1)

-- the bytes, where a file may have as many
abbrev pub limited_text : List ℕ → Result (List ℕ) Refusal
limited_text bytes = if is_text bytes then Ok bytes else Err (Limit limit.Text)

-- `write PATH TEXT`, from the bytes behind `write`
unfoldable pub write_of : List ℕ → Result Command Refusal
write_of arguments = do
  word ← first_word arguments
  spelled ← ok_or (text_of (after_space word.1)) BadLine
  path ← word_of word.0
  text ← limited_text spelled
  Ok (Write path text)

-- the bytes, where a symbolic link's target may have as many
abbrev pub limited_target : List ℕ → Result (List ℕ) Refusal
limited_target bytes = if nat_le (length bytes) TARGET_LIMIT then Ok bytes else Err (Limit limit.Target)

-- `ln TARGET PATH`, from the bytes behind `ln`. The target is a path word too, and is kept as it was given.
unfoldable pub ln_of : List ℕ → Result Command Refusal
ln_of arguments = do
  word ← first_word arguments
  path ← only_word word.1
  paths ← two_paths word.0 path
  target ← limited_target word.0
  Ok (Ln target paths.1)

-- the command of a path word and a query, from the bytes behind its name. The query is all that follows one space.
unfoldable pub path_and_query : (PathWord → Formula PathWord → Command) → List ℕ → Result Command Refusal
path_and_query command arguments = do
  word ← first_word arguments
  path ← word_of word.0
  query ← read_query (after_space word.1)
  Ok (command path query)

-- `find QUERY`, from the bytes behind `find`
unfoldable pub find_of : List ℕ → Result Command Refusal
find_of arguments = do
  query ← read_query (after_space arguments)
  Ok (Find query)

-- the space of a name is mounted at a path word. What is no space's name makes the line a bad one, which counts before a
-- bad path.
abbrev pub mount_named : List ℕ → List ℕ → Result Command Refusal
mount_named word space = do
  name ← if is_space_name space then Ok space else Err BadLine
  path ← word_of word
  Ok (Smount path name)

-- `smount PATH SPACE`, from the bytes behind `smount`
unfoldable pub smount_of : List ℕ → Result Command Refusal
smount_of arguments = do
  word ← first_word arguments
  space ← only_word word.1
  mount_named word.0 space

-- `tick N`, from the bytes behind `tick`
unfoldable pub tick_of : List ℕ → Result Command Refusal
tick_of arguments = do
  word ← only_word arguments
  if is_tick word then Ok (Tick (digits_value 10 word)) else Err BadLine

-- the command that is its name alone, from the bytes behind it
unfoldable pub alone : Command → List ℕ → Result Command Refusal
alone command arguments = if list_all is_space arguments then Ok command else Err BadLine

-- the command of a name, from the bytes behind it
abbrev pub named_command : List ℕ → List ℕ → Result Command Refusal
named_command name arguments =
    if bytes_eq name (codes "mkdir") then one_path Mkdir arguments
    else (if bytes_eq name (codes "rmdir") then one_path Rmdir arguments
    else (if bytes_eq name (codes "write") then write_of arguments
    else (if bytes_eq name (codes "cat") then one_path Cat arguments
    else (if bytes_eq name (codes "ls") then maybe_path Ls arguments
    else (if bytes_eq name (codes "cd") then maybe_path Cd arguments
    else (if bytes_eq name (codes "pwd") then alone Pwd arguments
    else (if bytes_eq name (codes "mv") then of_two_paths Mv arguments
    else (if bytes_eq name (codes "rm") then one_path Rm arguments
    else (if bytes_eq name (codes "ln") then ln_of arguments
    else (if bytes_eq name (codes "readlink") then one_path Readlink arguments
    else (if bytes_eq name (codes "smkdir") then path_and_query Smkdir arguments
    else (if bytes_eq name (codes "setq") then path_and_query Setq arguments
    else (if bytes_eq name (codes "unq") then one_path Unq arguments
    else (if bytes_eq name (codes "query") then one_path Query arguments
    else (if bytes_eq name (codes "sls") then maybe_path Sls arguments
    else (if bytes_eq name (codes "sln") then of_two_paths Sln arguments
    else (if bytes_eq name (codes "srm") then of_two_paths Srm arguments
    else (if bytes_eq name (codes "sforget") then of_two_paths Sforget arguments
    else (if bytes_eq name (codes "find") then find_of arguments
    else (if bytes_eq name (codes "smount") then smount_of arguments
    else (if bytes_eq name (codes "ssync") then one_path Ssync arguments
    else (if bytes_eq name (codes "sumount") then one_path Sumount arguments
    else (if bytes_eq name (codes "index") then alone Index arguments
    else (if bytes_eq name (codes "tick") then tick_of arguments
    else (if bytes_eq name (codes "counts") then alone Counts arguments
    else (if bytes_eq name (codes "checkpoint") then alone Checkpoint arguments
    else Err BadLine))))))))))))))))))))))))))

-- the path and the length of a `put`, from the bytes behind `put`: two words and no more
unfoldable pub put_words : List ℕ → Result (List ℕ × List ℕ) Refusal
put_words arguments = do
  path ← first_word arguments
  length ← only_word path.1
  if is_number length then Ok (path.0, length) else Err BadLine

-- the file of a path word gets the bytes that came, or the first refusal: not all came, then the path, then their count
abbrev pub put_to : List ℕ → Option Taken → Result Command Refusal
put_to word (Some (Whole bytes)) = do
  path ← word_of word
  text ← limited_text bytes
  Ok (Write path text)
put_to word (Some Dropped) = do
  path ← word_of word
  Err (Limit limit.Text)
put_to word (Some Short) = Err ShortPut
put_to word None = Err ShortPut

-- `put PATH LENGTH`, from the bytes behind `put`, given what came of the bytes behind the line
abbrev pub put_of : List ℕ → Option Taken → Result Command Refusal
put_of arguments taken = do
  words ← put_words arguments
  put_to words.0 taken

-- the name of the command is `put`
abbrev pub is_put : List ℕ → Bool
is_put name = bytes_eq name (codes "put")

-- the command of a name, from the bytes behind it, given what came of the bytes behind the line
abbrev pub called_with : List ℕ → List ℕ → Option Taken → Result Command Refusal
called_with name arguments taken = if is_put name then put_of arguments taken else named_command name arguments

-- the command that bytes behind a session spell, or why it is refused, given what came of the bytes behind the line
abbrev pub command_with : List ℕ → Option Taken → Result Command Refusal
command_with bytes taken = do
  name ← first_word bytes
  called_with name.0 name.1 taken

-- the command that a line spells and its session, or why it is refused
abbrev pub line_with : List ℕ → Option Taken → Result Line Refusal
line_with line taken = do
  session ← session_words line
  command ← command_with session.1 taken
  Ok (record { session = session.0; command = command })

-- the words of a line that is a `put` of the right form
abbrev pub put_line : List ℕ → Result (List ℕ × List ℕ) Refusal
put_line line = do
  session ← session_words line
  name ← first_word session.1
  if is_put name.0 then put_words name.1 else Err BadLine

-- how many bytes a `put` of these words asks for
abbrev pub asked : Result (List ℕ × List ℕ) Refusal → Option ℕ
asked (Ok words) = Some (digits_value 10 words.1)
asked (Err refusal) = None

-- how many bytes a `put` asks for behind its line
abbrev pub put_length : List ℕ → Option ℕ
put_length line = asked (put_line line)

-- the names of a path word are names
abbrev pub is_spelled_word : PathWord → Bool
is_spelled_word word = are_names word.names

-- the words of the command are as a line spells them
abbrev pub is_spelled : Command → Bool
is_spelled (Mkdir path) = is_spelled_word path
is_spelled (Rmdir path) = is_spelled_word path
is_spelled (Write path text) = is_spelled_word path && is_text text
is_spelled (Cat path) = is_spelled_word path
is_spelled (Ls path) = option_map_or is_spelled_word path true
is_spelled (Cd path) = option_map_or is_spelled_word path true
is_spelled Pwd = true
is_spelled (Mv from to) = is_spelled_word from && is_spelled_word to
is_spelled (Rm path) = is_spelled_word path
is_spelled (Ln target path) = is_target target && is_spelled_word path
is_spelled (Readlink path) = is_spelled_word path
is_spelled (Smkdir path query) = is_spelled_word path && is_spelled_query query
is_spelled (Setq path query) = is_spelled_word path && is_spelled_query query
is_spelled (Unq path) = is_spelled_word path
is_spelled (Query path) = is_spelled_word path
is_spelled (Sls path) = option_map_or is_spelled_word path true
is_spelled (Sln item dir) = is_spelled_word item && is_spelled_word dir
is_spelled (Srm item dir) = is_spelled_word item && is_spelled_word dir
is_spelled (Sforget item dir) = is_spelled_word item && is_spelled_word dir
is_spelled (Find query) = is_spelled_query query
is_spelled (Smount path space) = is_spelled_word path && is_space_name space
is_spelled (Ssync path) = is_spelled_word path
is_spelled (Sumount path) = is_spelled_word path
is_spelled Index = true
is_spelled (Tick steps) = are_steps steps
is_spelled Counts = true
is_spelled Checkpoint = true

-- the session's name and the command are as a line spells them
abbrev pub is_spelled_line : Line → Bool
is_spelled_line line = is_space_name line.session && is_spelled line.command

-- what a line of the script is to the program: a command of a session, or its first refusal
abbrev pub Item : Type 0
Item = Result Line Refusal

-- the item of a line, given what came of the bytes that it asks for
abbrev pub item_taken : List ℕ → Option Taken → Item
item_taken line taken = if nat_le (length line) LINE_LIMIT then line_with line taken else Err (Limit limit.Line)

-- what comes of the bytes that a line asks for, if it asks for any, given all that follow its end
abbrev pub taken_of : List ℕ → List ℕ → Option Taken
taken_of line behind = option_map (λ count. came count behind) (put_length line)

-- the item of a line, given all bytes that follow its end
abbrev pub item_of : List ℕ → List ℕ → Item
item_of line behind = item_taken line (taken_of line behind)

-- a blank line or a comment, which has no reply at any length
abbrev pub is_quiet : List ℕ → Bool
is_quiet line = slice_index line 0 == 35 || list_all is_space line

-- what a line gives: nothing where it is quiet, else its item
abbrev pub items_of : List ℕ → List ℕ → List Item
items_of line behind = if is_quiet line then [] else item_of line behind ∷ []

-- how many bytes a line takes behind its end, where it takes any: not where it is quiet or too long
abbrev pub bytes_due : List ℕ → Option ℕ
bytes_due line = if is_quiet line then None else (if nat_le (length line) LINE_LIMIT then put_length line else None)
