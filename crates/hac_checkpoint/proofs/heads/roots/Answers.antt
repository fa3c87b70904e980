use Rattle.std.proofs.Common.{arith}
use Rattle.std.proofs.lemmas.List.{length-take}
use Rattle.hac_checkpoint.proofs.HeadLemmas.{seen-ok, seen-short, seen-bad}
use Rattle.hac_checkpoint.proofs.heads.roots.Goals as goal

pub returns-in-Ok-clause-root : goal.returns-in-Ok-clause-root
returns-in-Ok-clause-root g c =
    let head = rw (c.in-Ok.is, c.in_ok-len.ensures.quiet.same) at c.in_ok-root.ensures.root in
    seen-ok (g.D.Disk.seen c.args.disk.now).contents _ c.in_ok-len.len c.in-Ok.root (simp length-take (omega arith)) c.in_ok-len.ensures.len head

pub returns-in-Err-Short-clause-root : goal.returns-in-Err-Short-clause-root
returns-in-Err-Short-clause-root g c =
    let head = rw (c.in-Err-Short.is, c.in-Err-Short.field-0-is, c.in_ok-len.ensures.quiet.same) at c.in_ok-root.ensures.root in
    seen-short (g.D.Disk.seen c.args.disk.now).contents _ c.in_ok-len.len (simp length-take (omega arith)) c.in_ok-len.ensures.len head

pub returns-in-Err-BadAt-clause-root : goal.returns-in-Err-BadAt-clause-root
returns-in-Err-BadAt-clause-root g c =
    let head = rw (c.in-Err-BadAt.is, c.in-Err-BadAt.field-0-is, c.in_ok-len.ensures.quiet.same) at c.in_ok-root.ensures.root in
    seen-bad (g.D.Disk.seen c.args.disk.now).contents _ c.in_ok-len.len c.in-Err-BadAt.at (simp length-take (omega arith)) c.in_ok-len.ensures.len head
