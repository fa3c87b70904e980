-- Theorems over the definitions alone.
use Rattle.std.specs.Prelude.{◌≡◌, ℕ, List, [], ◌∷◌, ◌++◌, Option, None, Some, Ok, Err}
use Rattle.hac_model.specs.Script.{first_items, script}
use Rattle.hac_model.specs.Script.CommandTexts.{command_text}
use Rattle.hac_model.specs.Script.Lines.{item_taken}
use Rattle.hac_model.specs.declared.commands.Line.{Line}
use Rattle.hac_model.specs.declared.limits.LimitWord.{LimitWord}
use Rattle.hac_model.specs.declared.replies.Refusal.TheVariants.{Limit}
use Rattle.hac_model.specs.declared.taken.Taken.{Taken}
use Rattle.shell_lang.specs.Limits.{excess}

-- some bytes are read as this line, given what came of the bytes behind them
abbrev pub IsGiven : Line → Type 0
IsGiven line = (bytes : List ℕ) × (taken : Option Taken) × (item_taken bytes taken ≡ Ok line)

-- a printed line is read as that line, and then the bytes behind it are
abbrev pub PrintedLineIsRead : Type 0
PrintedLineIsRead =
    (line : Line) (more : List ℕ) → IsGiven line → excess line ≡ None →
    script (command_text line ++ more) ≡ Ok line ∷ script more

-- but where its text exceeds a limit it is refused for that one
abbrev pub PrintedLineIsRefused : Type 0
PrintedLineIsRefused =
    (line : Line) (word : LimitWord) (more : List ℕ) → IsGiven line → excess line ≡ Some word →
    first_items (command_text line ++ more) ≡ Err (Limit word) ∷ []
