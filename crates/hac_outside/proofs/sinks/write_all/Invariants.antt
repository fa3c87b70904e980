use Rattle.std.proofs.Common.{◌≡◌, length, take, ◌+◌, ◌-◌, ◌≤◌}
use Rattle.std.specs.Io.KnownBytes.{Appends}
use Rattle.hac_outside.proofs.sinks.write_all.Given as goal

abbrev pub invariant-loop-done : goal.invariant-loop-done
invariant-loop-done g l =
    let old = g.K.Sink.seen l.initial.sink in
    let now = g.K.Sink.seen l.sink in
    record {
      within : l.done ≤ length l.bytes;
      written : Appends old.written now.written (take l.done l.bytes);
      held : now.held_back ≤ old.held_back + l.done;
      faults : now.faults ≡ old.faults;
    }

abbrev pub decreases-loop-done : goal.decreases-loop-done
decreases-loop-done g l = length l.bytes - l.done
