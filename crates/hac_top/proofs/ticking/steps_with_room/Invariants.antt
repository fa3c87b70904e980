use Rattle.std.proofs.Common.{◌≡◌, ◌<◌, ◌≤◌, ◌-◌, false, replicate, true}
use Rattle.hac_model.specs.Run.Play.{have_room}
use Rattle.hac_model.specs.declared.events.Event.TheVariants.{Step}
use Rattle.hac_top.proofs.ticking.steps_with_room.Given as goal

-- the store has room for `fits` steps and for no `past`
abbrev pub invariant-loop-past : goal.invariant-loop-past
invariant-loop-past l =
    record {
      within : l.past ≤ l.fn.wanted;
      some : l.fits < l.past;
      room : have_room l.fn.store.setting (replicate l.fits Step) ≡ true;
      full : have_room l.fn.store.setting (replicate l.past Step) ≡ false;
    }

abbrev pub decreases-loop-past : goal.decreases-loop-past
decreases-loop-past l = l.past - l.fits
