use Rattle.std.proofs.Common.{◌≤◌, ◌+◌, ◌-◌}
use Rattle.std.specs.Prelude.{replicate}
use Rattle.hac_model.specs.Tree.Costs.{costs}
use Rattle.hac_model.specs.declared.events.Event.TheVariants.{Step}
use Rattle.hac_top.proofs.StoringLemmas.{Stepped}
use Rattle.hac_top.proofs.storing.store_steps.Given as goal

-- all but `left` steps happened, and a crash since the call began leaves some of them
abbrev pub invariant-loop-left : goal.invariant-loop-left
invariant-loop-left g l =
    record {
      within : l.left ≤ l.fn.count;
      so_far : Stepped (g.D.Disk.seen l.fn.disk) (g.D.Disk.seen l.disk) l.fn.store l.store (l.fn.count - l.left) l.fn.count;
      asks : l.probes ≤ l.fn.probes + costs l.fn.store.setting.state (replicate (l.fn.count - l.left) Step);
    }

abbrev pub decreases-loop-left : goal.decreases-loop-left
decreases-loop-left g l = l.left
