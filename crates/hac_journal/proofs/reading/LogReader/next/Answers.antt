use Rattle.std.proofs.Common.{subst, ◌+◌}
use Rattle.hac_journal.specs.declared.finding.Look.TheVariants.{Record, ClosedGate, Needs}
use Rattle.hac_journal.specs.declared.finding.Next.TheVariants.{Entry, End, Bad}
use Rattle.hac_journal.specs.Finding.{Shows, TellsAt}
use Rattle.hac_journal.proofs.WindowLemmas.{tells-record, tells-end, tells-bad}
use Rattle.hac_journal.proofs.reading.LogReader.next.Goals as goal

pub returns-in-Record-clause-next : goal.returns-in-Record-clause-next
returns-in-Record-clause-next g c =
    let seen = g.D.Disk.seen in
    let payload = c.in_ok-payload-in-Record.field-0 in
    let shows = subst (Shows (Record c.in-Record.size)) c.from.ensures c.in-Record.ensures in
    subst (TellsAt (Entry payload (c.args.at + 5 + c.in-Record.size)) c.args.at) c.loop-size.invariant.quiet.same
    (tells-record (seen c.loop-size.disk).contents c.loop-size.self c.args.at c.in-Record.size payload c.loop-size.invariant.held shows c.in_ok-payload-in-Record.ensures.payload)

pub returns-in-ClosedGate-clause-next : goal.returns-in-ClosedGate-clause-next
returns-in-ClosedGate-clause-next g c =
    let seen = g.D.Disk.seen in
    let shows = subst (Shows ClosedGate) c.from.ensures c.in-ClosedGate.ensures in
    subst (TellsAt End c.args.at) c.loop-size.invariant.quiet.same
    (tells-end (seen c.loop-size.disk).contents c.loop-size.self c.args.at c.loop-size.invariant.held shows)

pub returns-in-Some-clause-next : goal.returns-in-Some-clause-next
returns-in-Some-clause-next g c =
    let seen = g.D.Disk.seen in
    let shows = subst (Shows (Needs c.in-Needs.need)) c.from.ensures c.in-Needs.ensures in
    let filled = rw c.in-Some.is at c.in_ok-len-in-Needs.ensures.filled in
    subst (TellsAt (Bad c.in-Some.len) c.args.at) c.loop-size.invariant.quiet.same
    (tells-bad (seen c.loop-size.disk).contents c.loop-size.self c.args.at c.in-Needs.need c.in-Some.len c.loop-size.invariant.held shows filled.0 filled.1)
