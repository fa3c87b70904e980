use Rattle.std.proofs.Common.{rules}
use Rattle.hac_checkpoint.proofs.WriteLemmas.{within-run}
use Rattle.hac_checkpoint.specs.Flips.{other_slot}
use Rattle.hac_checkpoint.specs.Roots.{gate_of}
use Rattle.hac_checkpoint.proofs.flips.close_and_fill.Goals as goal

pub returns : goal.returns
returns g c =
    let seen = g.D.Disk.seen in
    record {
      filled = search rules;
      any_moment = search rules;
      elsewhere = within-run (gate_of (other_slot c.args.live.slot)) 17 (seen c.args.disk.now) (seen c.close_spare.new.disk) (seen c.fill_spare.new.disk) c.close_spare.ensures.elsewhere c.fill_spare.ensures.elsewhere;
      attached = search rules;
      cause = search rules;
    }
