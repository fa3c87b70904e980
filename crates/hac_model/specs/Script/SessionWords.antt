-- The session of a line.
use Rattle.std.specs.Prelude.{ℕ, Bool, ◌==◌, if◌then◌else◌, List, slice_index, drop, codes, Result, Ok, Err}
use Rattle.hac_model.specs.Script.LineWords.{skip_spaces, first_run, after_first_run}
use Rattle.hac_model.specs.Script.SpaceNames.{is_space_name}
use Rattle.hac_model.specs.declared.replies.Refusal.{Refusal}
use Rattle.hac_model.specs.declared.replies.Refusal.TheVariants.{BadLine}

-- the session of a line that names none
abbrev pub main_session : List ℕ
main_session = codes "main"

-- the line names its session: it begins with `@`, before which spaces don't count
abbrev pub names_session : List ℕ → Bool
names_session line = slice_index (skip_spaces line) 0 == 64

-- what follows the `@`, up to a space
abbrev pub session_name : List ℕ → List ℕ
session_name line = drop 1 (first_run line)

-- the session that a line names and what follows its name, which is to be one that a space may have
abbrev pub named_session : List ℕ → Result (List ℕ × List ℕ) Refusal
named_session line =
    if is_space_name (session_name line) then Ok (session_name line, after_first_run line) else Err BadLine

-- the session of a line, and the bytes that spell what it asks for
abbrev pub session_words : List ℕ → Result (List ℕ × List ℕ) Refusal
session_words line = if names_session line then named_session line else Ok (main_session, line)
