use Rattle.std.proofs.Common.{◌≡◌}
use Rattle.hac_model.specs.Query.QueryReading as reading
use Rattle.query_text.proofs.joining.nots_part.Given as goal

-- what is still to be put before the part
abbrev pub invariant-loop-nots : goal.invariant-loop-nots
invariant-loop-nots l = reading.nots_part l.nots l.negated ≡ reading.nots_part l.fn.nots l.fn.part

abbrev pub decreases-loop-nots : goal.decreases-loop-nots
decreases-loop-nots l = l.nots
