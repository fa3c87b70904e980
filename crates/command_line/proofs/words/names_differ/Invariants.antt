use Rattle.std.proofs.Common.{◌≡◌}
use Rattle.std.specs.Prelude.{drop}
use Rattle.hac_model.specs.Script.CommandLine.{names_differ}
use Rattle.command_line.proofs.WordSpaces.{names}
use Rattle.command_line.proofs.words.names_differ.Given as goal

-- the names differ where those that are left do
abbrev pub invariant-loop-at : goal.invariant-loop-at
invariant-loop-at l = names_differ (names (drop l.at l.spaces)) ≡ names_differ (names l.spaces)
