use Rattle.std.proofs.Common.{◌≡◌, take, drop}
use Rattle.hac_disk.specs.Parts.{contents}
use Rattle.hac_disk.proofs.parts.read_parts.Given as goal

abbrev pub invariant-loop-i : goal.invariant-loop-i
invariant-loop-i l = take l.i l.into ≡ take l.i (drop l.at (contents l.head l.gap l.tail))
