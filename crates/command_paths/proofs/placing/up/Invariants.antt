use Rattle.std.proofs.Common.{◌≡◌, ◌-◌}
use Rattle.command_paths.specs.Traces.{up}
use Rattle.command_paths.proofs.placing.up.Given as goal

-- the steps that are left lead to the same directory
abbrev pub invariant-loop : goal.invariant-loop
invariant-loop l = up (l.steps - l.counter) l.tree.state l.above ≡ up l.fn.steps l.fn.tree.state l.fn.dir
