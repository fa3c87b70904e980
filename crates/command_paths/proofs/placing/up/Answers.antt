use Rattle.std.proofs.Common.{◌+◌, ◌-◌, ℕ, ap, ◌∙◌}
use Rattle.command_paths.specs.Traces.{up}
use Rattle.command_paths.proofs.WalkedLemmas.{up-next}
use Rattle.command_paths.proofs.placing.up.Goals as goal

pub loop-preserved : goal.loop-preserved
loop-preserved c =
    let s = c.args.tree.now.state in
    ap (λ (d : ℕ). up (c.args.steps - (c.loop.counter + 1)) s d) c.parent-above.ensures
    ∙ up-next s c.args.steps c.loop.counter c.loop.above c.loop-test.true
    ∙ c.loop.invariant
