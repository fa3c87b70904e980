-- What the definition of a drawn script is for.
use Rattle.std.specs.Prelude.{ℕ, ◌≤◌, length}
use Rattle.hac_model.specs.Script.Generator.{generated}
use Rattle.hac_model.specs.declared.limits.TheConstants.{SCRIPT_LIMIT}

-- a script that is drawn has no more bytes than a script may have
abbrev pub DrawnScriptsAreShort : Type 0
DrawnScriptsAreShort = (number : ℕ) → length (generated number) ≤ SCRIPT_LIMIT
