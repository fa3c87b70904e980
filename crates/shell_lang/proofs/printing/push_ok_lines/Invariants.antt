-- the lines that the loop has passed come behind what was there
use Rattle.std.proofs.Common.{◌≡◌, ◌++◌, take}
use Rattle.std.specs.List.{flat_map}
use Rattle.hac_model.specs.Script.Printed.{ended}
use Rattle.shell_lang.proofs.printing.push_ok_lines.Given as goal

abbrev pub invariant-loop-line : goal.invariant-loop-line
invariant-loop-line l = l.out.items ≡ l.initial.out.items ++ flat_map ended (take l.line-index l.lines)
