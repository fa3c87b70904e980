use Rattle.std.proofs.Common.{◌≡◌}
use Rattle.std.specs.Prelude.{sum_by, take}
use Rattle.hac_model.specs.Tree.Limits as limits
use Rattle.layout_check.specs.Bounded.{bounded}
use Rattle.state_check.proofs.counting.answers_kept.Given as goal

-- as many as those seen have
abbrev pub invariant-loop-entry : goal.invariant-loop-entry
invariant-loop-entry l = l.count
    ≡ bounded (sum_by (λ entry. limits.answers_kept entry.body) (take l.entry-index l.entries))
