-- Commands as the program prints them: each as a line that spells it.
use Rattle.std.specs.Prelude.{ℕ, if◌then◌else◌, List, [], ◌++◌, length, replicate, codes, decimal, Option}
use Rattle.std.specs.List.{flat_map}
use Rattle.std.specs.Option.{option_map_or}
use Rattle.std.specs.Str.{bytes_eq}
use Rattle.hac_model.specs.Script.LineWords.{in_quotes}
use Rattle.hac_model.specs.Query.Formula.{Formula}
use Rattle.hac_model.specs.Query.QueryText.{referred_by, query_text}
use Rattle.hac_model.specs.Script.Printed.{ended}
use Rattle.hac_model.specs.Script.SessionWords.{main_session}
use Rattle.hac_model.specs.Tree.Paths.{path_text, slashed}
use Rattle.hac_model.specs.declared.commands.Command.{Command}
use Rattle.hac_model.specs.declared.commands.Command.TheVariants.{Mkdir, Rmdir, Write, Cat, Ls, Cd, Pwd, Mv, Rm, Ln, Readlink, Smkdir, Setq, Unq, Query, Sls, Sln, Srm, Sforget, Find, Smount, Ssync, Sumount, Index, Tick, Counts, Checkpoint}
use Rattle.hac_model.specs.declared.commands.Line.{Line}
use Rattle.hac_model.specs.declared.paths.PathWord.{PathWord}

-- how a relative word leads on: a `..` for each name up, and then its names
abbrev pub steps : PathWord → List (List ℕ)
steps word = replicate word.ups (codes "..") ++ word.names

-- a path word as it is printed: the path from the root, or the steps from `.` on
abbrev pub word_text : PathWord → List ℕ
word_text word = if word.absolute then path_text word.names else codes "." ++ flat_map slashed (steps word)

-- bytes in quotes, behind a space
abbrev pub quoted_part : List ℕ → List ℕ
quoted_part bytes = codes " " ++ in_quotes bytes

-- a path word in quotes
abbrev pub path_part : PathWord → List ℕ
path_part path = quoted_part (word_text path)

-- the same, where there is one
abbrev pub maybe_part : Option PathWord → List ℕ
maybe_part path = option_map_or path_part path []

-- a number, behind a space
abbrev pub number_part : ℕ → List ℕ
number_part number = codes " " ++ decimal number

-- a query, behind a space: it is the rest of its line
abbrev pub query_part : Formula PathWord → List ℕ
query_part query = codes " " ++ query_text (referred_by word_text query)

-- the command on its line. A text is that of a `put`, so its bytes stand behind the line.
abbrev pub line_text : Command → List ℕ
line_text (Mkdir path) = codes "mkdir" ++ path_part path
line_text (Rmdir path) = codes "rmdir" ++ path_part path
line_text (Write path text) = codes "put" ++ (path_part path ++ number_part (length text))
line_text (Cat path) = codes "cat" ++ path_part path
line_text (Ls path) = codes "ls" ++ maybe_part path
line_text (Cd path) = codes "cd" ++ maybe_part path
line_text Pwd = codes "pwd"
line_text (Mv from to) = codes "mv" ++ (path_part from ++ path_part to)
line_text (Rm path) = codes "rm" ++ path_part path
line_text (Ln target path) = codes "ln" ++ (quoted_part target ++ path_part path)
line_text (Readlink path) = codes "readlink" ++ path_part path
line_text (Smkdir path query) = codes "smkdir" ++ (path_part path ++ query_part query)
line_text (Setq path query) = codes "setq" ++ (path_part path ++ query_part query)
line_text (Unq path) = codes "unq" ++ path_part path
line_text (Query path) = codes "query" ++ path_part path
line_text (Sls path) = codes "sls" ++ maybe_part path
line_text (Sln item dir) = codes "sln" ++ (path_part item ++ path_part dir)
line_text (Srm item dir) = codes "srm" ++ (path_part item ++ path_part dir)
line_text (Sforget item dir) = codes "sforget" ++ (path_part item ++ path_part dir)
line_text (Find query) = codes "find" ++ query_part query
line_text (Smount path space) = codes "smount" ++ (path_part path ++ quoted_part space)
line_text (Ssync path) = codes "ssync" ++ path_part path
line_text (Sumount path) = codes "sumount" ++ path_part path
line_text Index = codes "index"
line_text (Tick number) = codes "tick" ++ number_part number
line_text Counts = codes "counts"
line_text Checkpoint = codes "checkpoint"

-- the bytes that belong to that line
abbrev pub put_bytes : Command → List ℕ
put_bytes (Write path text) = text
put_bytes other = []

-- how a line names its session: it doesn't name `main`
abbrev pub session_text : List ℕ → List ℕ
session_text name = if bytes_eq name main_session then [] else codes "@" ++ (name ++ codes " ")

-- the line of a session's command, without its end
abbrev pub session_line : Line → List ℕ
session_line line = session_text line.session ++ line_text line.command

-- the same with its end and the bytes that belong to it
abbrev pub command_text : Line → List ℕ
command_text line = ended (session_line line) ++ put_bytes line.command
