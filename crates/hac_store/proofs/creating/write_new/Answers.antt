use Rattle.hac_store.proofs.CreateLemmas.{open-new, opened-place, opened-stands}
use Rattle.hac_store.proofs.creating.write_new.Goals as goal

pub returns-clause-stands : goal.returns-clause-stands
returns-clause-stands g c =
    let seen = g.D.Disk.seen in
    opened-stands _ (seen c.args.disk.now) (seen c.write_head.new.disk) (seen c.write_stable.new.disk)
    c.in_ok-write_head.ensures.becomes c.write_stable.ensures.written c.write_stable.ensures.settled

pub returns-clause-place : goal.returns-clause-place
returns-clause-place g c =
    let seen = g.D.Disk.seen in
    opened-place _ (seen c.args.disk.now) (seen c.write_head.new.disk) (seen c.write_stable.new.disk) c.in_ok-write_head.ensures.becomes c.write_stable.ensures.written

pub returns-clause-any_moment : goal.returns-clause-any_moment
returns-clause-any_moment g c =
    let seen = g.D.Disk.seen in
    open-new (seen c.args.disk.now) (seen c.write_head.new.disk) (seen c.write_stable.new.disk)
    c.write_head.ensures.any_moment c.in_ok-write_head.ensures.becomes c.in_ok-write_head.ensures.settled c.write_stable.ensures.any_moment
