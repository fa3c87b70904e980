use Rattle.std.proofs.Common.{◌≡◌, ◌++◌, codes, map}
use Rattle.std.specs.List.{flat_map, range_with_len}
use Rattle.hac_model.specs.Script.Generator.{numbered}
use Rattle.hac_model.specs.Script.Printed.{ended}
use Rattle.script_maker.proofs.generating.push_plain.Given as goal

-- the lines of the numbers so far come behind what was there
abbrev pub invariant-loop-number : goal.invariant-loop-number
invariant-loop-number l =
    l.script.items ≡ l.fn.script.items ++ flat_map ended (map (numbered (codes "mkdir /d")) (range_with_len 0 l.number-counter))
