use Rattle.std.proofs.Common.{◌≡◌, ◌++◌}
use Rattle.std.specs.List.{flat_map}
use Rattle.hac_model.specs.Script.Generator.{drawn_lines}
use Rattle.hac_model.specs.Script.Printed.{ended}
use Rattle.script_maker.proofs.generating.push_drawn.Given as goal

-- what is there and the lines that are left are all
abbrev pub invariant-lines : goal.invariant-lines
invariant-lines l =
    l.script.items ++ flat_map ended (drawn_lines l.left l.drawn)
    ≡ l.fn.script.items ++ flat_map ended (drawn_lines l.fn.count l.fn.number)

abbrev pub decreases-lines : goal.decreases-lines
decreases-lines l = l.left
