use Rattle.std.proofs.Common.{length}
use Rattle.hac_disk.specs.Images.{TornFrom}
use Rattle.hac_disk.proofs.Moments.{started, then_write, then_quiet}
use Rattle.hac_disk.proofs.TornLemmas.{torn-from}
use Rattle.hac_disk.proofs.stable.write_stable.Goals as goal

pub returns-in_err-write_at-clause-any_moment : goal.returns-in_err-write_at-clause-any_moment
returns-in_err-write_at-clause-any_moment g c =
    let seen = g.D.Disk.seen in
    let old = seen c.args.disk.now in
    let torn = TornFrom c.args.at (length c.args.bytes.now) old.image in
    let begun = started old torn (λ i left. torn-from _ _ _ i ((g.met.D.Disk.lawful c.args.disk.now).only_now i left)) in
    then_write old old (seen c.write_at.new.self) torn begun c.write_at.ensures.time c.write_at.ensures.images

pub returns-clause-any_moment : goal.returns-clause-any_moment
returns-clause-any_moment g c =
    let seen = g.D.Disk.seen in
    let old = seen c.args.disk.now in
    let torn = TornFrom c.args.at (length c.args.bytes.now) old.image in
    let begun = started old torn (λ i left. torn-from _ _ _ i ((g.met.D.Disk.lawful c.args.disk.now).only_now i left)) in
    let written = then_write old old (seen c.write_at.new.self) torn begun c.write_at.ensures.time c.write_at.ensures.images in
    then_quiet old (seen c.write_at.new.self) (seen c.sync.new.self) torn written c.sync.ensures.quiet
