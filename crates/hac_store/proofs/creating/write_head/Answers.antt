use Rattle.std.proofs.Common.{rules}
use Rattle.hac_store.proofs.CreateLemmas.{behind-new, first-new, ok-then, rest-ready}
use Rattle.hac_store.proofs.creating.write_head.Goals as goal

pub returns-then-branch-eq0 : goal.returns-then-branch-eq0
returns-then-branch-eq0 g c =
    let seen = g.D.Disk.seen in
    record {
      becomes = search rules;
      settled = search rules;
      any_moment =
          first-new (seen c.args.disk.now) (seen c.len.new.self) (seen c.write_stable.new.disk) c.in_ok-len.field-0
          (g.met.D.Disk.lawful c.args.disk.now) c.requires.settled c.requires.unheld c.len.ensures.quiet c.in_ok-len.ensures.len c.if-branch-eq0.true c.write_stable.ensures.any_moment;
      attached = search rules;
      cause = search rules;
    }

pub returns : goal.returns
returns g c =
    let seen = g.D.Disk.seen in
    let shut = rw c.len.ensures.quiet.same at c.in_ok-close.ensures.becomes in
    record {
      becomes = ok-then c.write_stable-2.result (rest-ready (seen c.args.disk.now).contents (seen c.close.new.disk).contents (seen c.write_stable-2.new.disk).contents shut) c.write_stable-2.ensures.written;
      settled = search rules;
      any_moment =
          behind-new (seen c.args.disk.now) (seen c.len.new.self) (seen c.close.new.disk) (seen c.write_stable-2.new.disk) _
          (g.met.D.Disk.lawful c.args.disk.now) c.requires.settled c.requires.unheld c.len.ensures.quiet c.close.ensures.any_moment c.in_ok-close.ensures.becomes c.in_ok-close.ensures.settled c.write_stable-2.ensures.any_moment;
      attached = search rules;
      cause = search rules;
    }
