use Rattle.std.proofs.Common.{◌≡◌}
use Rattle.std.specs.Prelude.{take}
use Rattle.hac_model.specs.Tree.Limits.{text_size}
use Rattle.layout_check.specs.Bounded.{bounded}
use Rattle.layout_check.proofs.counting.text_size.Given as goal

-- the size of those seen
abbrev pub invariant-loop-entry : goal.invariant-loop-entry
invariant-loop-entry l = l.size ≡ bounded (text_size (take l.entry-index l.entries))
