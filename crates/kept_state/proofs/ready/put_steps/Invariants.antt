use Rattle.std.proofs.Common.{◌≡◌, ◌-◌}
use Rattle.std.specs.Prelude.{replicate}
use Rattle.hac_model.specs.Laws.{AllHappen}
use Rattle.hac_model.specs.Tree.Events.{apply_all}
use Rattle.hac_model.specs.declared.events.Event.TheVariants.{Step}
use Rattle.kept_state.specs.Parts.{IsLinked, state_of}
use Rattle.kept_state.proofs.ready.put_steps.Given as goal

-- the steps to come can happen, and leave what all of them leave
abbrev pub invariant-steps : goal.invariant-steps
invariant-steps l =
    IsLinked l.kept × AllHappen (state_of l.kept) (replicate (l.count - l.counter) Step)
    × (apply_all (state_of l.kept) (replicate (l.count - l.counter) Step) ≡ apply_all (state_of l.fn.kept) (replicate l.count Step))
