use Rattle.std.proofs.Common.{arith}
use Rattle.std.proofs.lemmas.List.{take_rest}
use Rattle.hac_outside.proofs.KnownLemmas.{Appends-take-more}
use Rattle.hac_outside.proofs.sinks.write_all.Goals as goal

pub loop-done-preserved : goal.loop-done-preserved
loop-done-preserved g c = record {
  within = omega (arith, c.in_ok-done.ensures.bound);
  written = Appends-take-more _ _ _ c.args.bytes.now c.loop-done.done c.in_ok-done.field-0 c.loop-done.invariant.written
      (rw take_rest at c.in_ok-done.ensures.bytes);
  held = omega (arith, c.loop-done.invariant.held, c.in_ok-done.ensures.held);
  faults = omega (arith, c.loop-done.invariant.faults, c.in_ok-done.ensures.cause.none);
}
