use Rattle.std.proofs.Common.{◌≡◌, ◌≤◌, ◌-◌, ◌++◌, codes, map}
use Rattle.std.specs.List.{flat_map, range_with_len}
use Rattle.hac_model.specs.Script.Generator.{semantic_line}
use Rattle.hac_model.specs.Script.Printed.{ended}
use Rattle.script_maker.proofs.generating.push_semantic.Given as goal

-- the lines of the numbers so far come behind the first one
abbrev pub invariant-loop-number : goal.invariant-loop-number
invariant-loop-number l =
    (1 ≤ l.number) × (l.script.items
    ≡ (l.fn.script.items ++ ended (codes "smkdir /s0 w0")) ++ flat_map ended (map semantic_line (range_with_len 1 (l.number - 1))))
