use Rattle.std.proofs.Common.{length, refl}
use Rattle.hac_checkpoint.proofs.AreaLemmas.{area-written, first-within, second-within, third-within}
use Rattle.hac_checkpoint.proofs.areas.write_area.Goals as goal

pub returns-in_err-write_at-clause-elsewhere : goal.returns-in_err-write_at-clause-elsewhere
returns-in_err-write_at-clause-elsewhere g c =
    let seen = g.D.Disk.seen in
    first-within c.write_at.result c.args.at (length c.args.payload.now) c.record_head-head.result (seen c.args.disk.now) (seen c.write_at.new.self) c.record_head-head.ensures c.requires.place (g.met.D.Disk.lawful c.args.disk.now) (c.write_at.ensures.written, c.write_at.ensures.in_part) c.write_at.ensures.images c.write_at.ensures.time

pub returns-in_err-write_at-2-clause-elsewhere : goal.returns-in_err-write_at-2-clause-elsewhere
returns-in_err-write_at-2-clause-elsewhere g c =
    let seen = g.D.Disk.seen in
    second-within c.write_at.result c.args.at (length c.args.payload.now) c.record_head-head.result (seen c.args.disk.now) (seen c.write_at.new.self) c.record_head-head.ensures c.requires.place (g.met.D.Disk.lawful c.args.disk.now) (c.write_at.ensures.written, c.write_at.ensures.in_part) c.write_at.ensures.images c.write_at.ensures.time
    c.write_at-2.result c.args.payload.now (seen c.write_at-2.new.self) refl c.in_ok-write_at.ensures.written (g.met.D.Disk.lawful c.write_at.new.self) (c.write_at-2.ensures.written, c.write_at-2.ensures.in_part) c.write_at-2.ensures.images c.write_at-2.ensures.time

pub returns-in_err-write_stable-clause-elsewhere :
    goal.returns-in_err-write_stable-clause-elsewhere
returns-in_err-write_stable-clause-elsewhere g c =
    let seen = g.D.Disk.seen in
    third-within c.write_at.result c.args.at (length c.args.payload.now) c.record_head-head.result (seen c.args.disk.now) (seen c.write_at.new.self) c.record_head-head.ensures c.requires.place (g.met.D.Disk.lawful c.args.disk.now) (c.write_at.ensures.written, c.write_at.ensures.in_part) c.write_at.ensures.images c.write_at.ensures.time
    c.write_at-2.result c.args.payload.now (seen c.write_at-2.new.self) refl c.in_ok-write_at.ensures.written (g.met.D.Disk.lawful c.write_at.new.self) (c.write_at-2.ensures.written, c.write_at-2.ensures.in_part) c.write_at-2.ensures.images c.write_at-2.ensures.time
    c.write_stable.result (seen c.write_stable.new.disk) c.in_ok-write_at-2.ensures.written (c.write_stable.ensures.written, c.write_stable.ensures.in_part) c.write_stable.ensures.images c.write_stable.ensures.any_moment

pub returns-clause-written : goal.returns-clause-written
returns-clause-written g c =
    let seen = g.D.Disk.seen in
    area-written (seen c.args.disk.now).contents (seen c.write_at.new.self).contents (seen c.write_at-2.new.self).contents (seen c.write_stable.new.disk).contents c.args.at c.record_head-head.result c.args.payload.now
    c.requires.place c.record_head-head.ensures c.in_ok-write_at.ensures.written c.in_ok-write_at-2.ensures.written c.in_ok-write_stable.ensures.written

pub returns-clause-elsewhere : goal.returns-clause-elsewhere
returns-clause-elsewhere g c =
    let seen = g.D.Disk.seen in
    third-within c.write_at.result c.args.at (length c.args.payload.now) c.record_head-head.result (seen c.args.disk.now) (seen c.write_at.new.self) c.record_head-head.ensures c.requires.place (g.met.D.Disk.lawful c.args.disk.now) (c.write_at.ensures.written, c.write_at.ensures.in_part) c.write_at.ensures.images c.write_at.ensures.time
    c.write_at-2.result c.args.payload.now (seen c.write_at-2.new.self) refl c.in_ok-write_at.ensures.written (g.met.D.Disk.lawful c.write_at.new.self) (c.write_at-2.ensures.written, c.write_at-2.ensures.in_part) c.write_at-2.ensures.images c.write_at-2.ensures.time
    c.write_stable.result (seen c.write_stable.new.disk) c.in_ok-write_at-2.ensures.written (c.write_stable.ensures.written, c.write_stable.ensures.in_part) c.write_stable.ensures.images c.write_stable.ensures.any_moment
