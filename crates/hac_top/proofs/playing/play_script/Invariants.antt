use Rattle.std.proofs.Common.{◌≡◌, ◌-◌}
use Rattle.hac_model.specs.declared.limits.TheConstants.{SCRIPT_LIMIT}
use Rattle.line_reader.specs.Reading.{given}
use Rattle.hac_top.specs.Run.{outside}
use Rattle.hac_top.proofs.GoesOn.{RunsOn}
use Rattle.hac_top.proofs.playing.play_script.Given as goal

abbrev pub invariant-lines : goal.invariant-lines
invariant-lines g l =
    record {
      on : RunsOn (g.D.Disk.seen l.fn.disk) (g.D.Disk.seen l.disk) l.fn.player.tick l.fn.player.store.setting
          (outside (g.S.Source.seen l.fn.input) (g.K.Sink.seen l.fn.output) l.fn.probes) (outside (g.S.Source.seen l.input) (g.K.Sink.seen l.output) l.probes) (g.P.Spaces.seen l.fn.spaces) (g.P.Spaces.seen l.spaces) l.reader l.player.store l.player.refused;
      tick : l.player.tick ≡ l.fn.player.tick;
    }

-- each line takes a byte of those that a script may have
abbrev pub decreases-lines : goal.decreases-lines
decreases-lines g l = SCRIPT_LIMIT - given l.reader
