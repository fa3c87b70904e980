use Rattle.std.proofs.Common.{◌∙◌, subst}
use Rattle.hac_disk.specs.Contents.{Written}
use Rattle.hac_journal.specs.Records.{contents_of, log_of}
use Rattle.hac_journal.proofs.AppendLemmas.{behind-moments, both-moments}
use Rattle.hac_journal.proofs.CrashLemmas.{written-joined}
use Rattle.hac_journal.proofs.RecordLemmas.{log-rest}
use Rattle.hac_journal.proofs.appending.append.Goals as goal

pub returns-in_err-write_stable-clause-any_moment : goal.returns-in_err-write_stable-clause-any_moment
returns-in_err-write_stable-clause-any_moment g c =
    let seen = g.D.Disk.seen in
    behind-moments (seen c.args.disk.now) (seen c.write_stable.new.disk) c.args.end _ (log_of (contents_of c.args.payloads.now)) c.write_stable.ensures.any_moment

pub returns-in_err-write_stable-2-clause-any_moment : goal.returns-in_err-write_stable-2-clause-any_moment
returns-in_err-write_stable-2-clause-any_moment g c =
    let seen = g.D.Disk.seen in
    let log = log-rest c.args.payloads.now c.deref.result.now c.requires.some (c.deref.ensures.value ∙ c.in_ok-log.ensures) in
    both-moments (seen c.args.disk.now) (seen c.write_stable.new.disk) (seen c.write_stable-2.new.disk) (g.met.D.Disk.lawful c.args.disk.now) c.args.end _ _ (log_of (contents_of c.args.payloads.now)) log c.requires.place c.in_ok-write_stable.ensures.written c.in_ok-write_stable.ensures.settled c.write_stable.ensures.any_moment c.write_stable-2.ensures.any_moment

pub returns-clause-any_moment : goal.returns-clause-any_moment
returns-clause-any_moment g c =
    let seen = g.D.Disk.seen in
    let log = log-rest c.args.payloads.now c.deref.result.now c.requires.some (c.deref.ensures.value ∙ c.in_ok-log.ensures) in
    both-moments (seen c.args.disk.now) (seen c.write_stable.new.disk) (seen c.write_stable-2.new.disk) (g.met.D.Disk.lawful c.args.disk.now) c.args.end _ _ (log_of (contents_of c.args.payloads.now)) log c.requires.place c.in_ok-write_stable.ensures.written c.in_ok-write_stable.ensures.settled c.write_stable.ensures.any_moment c.write_stable-2.ensures.any_moment

pub returns-clause-written : goal.returns-clause-written
returns-clause-written g c =
    let seen = g.D.Disk.seen in
    let log = log-rest c.args.payloads.now c.deref.result.now c.requires.some (c.deref.ensures.value ∙ c.in_ok-log.ensures) in
    let joined = written-joined (seen c.args.disk.now).contents (seen c.write_stable.new.disk).contents (seen c.write_stable-2.new.disk).contents c.args.end _ c.requires.place c.in_ok-write_stable.ensures.written c.in_ok-write_stable-2.ensures.written in
    subst (λ l. Written (seen c.args.disk.now).contents c.args.end l (seen c.write_stable-2.new.disk).contents) log joined
