use Rattle.std.proofs.Common.{arith, rules}
use Rattle.hac_store.proofs.CreateLemmas.{close-new}
use Rattle.hac_store.proofs.creating.close.Goals as goal

pub returns : goal.returns
returns g c =
    let seen = g.D.Disk.seen in
    record {
      becomes = search rules;
      settled = search rules;
      any_moment =
          close-new (seen c.args.disk.now) (seen c.read_at.new.self) (seen c.write_stable.new.disk) c.read_at.new.into
          (g.met.D.Disk.lawful c.args.disk.now) c.requires.settled c.requires.unheld c.requires.some c.read_at.ensures.quiet c.in_ok-read_at.ensures.read (omega arith) c.if-gate-ne-OPEN.false c.write_stable.ensures.any_moment;
      attached = search rules;
      cause = search rules;
    }
