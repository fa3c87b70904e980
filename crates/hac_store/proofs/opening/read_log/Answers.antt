use Rattle.std.proofs.Common.{◌≡◌, ◌∙◌, sym, subst, rules, Err, arith}
use Rattle.hac_store.proofs.LoadLemmas.{leaves-end, leaves-more, leaves-stop, leaves-within}
use Rattle.hac_store.proofs.ReadLemmas.{Reads, read-end, read-more, read-short, read-stop}
use Rattle.hac_store.proofs.opening.read_log.Goals as goal

pub returns-in_err-apply_payload-in-Entry-clause-log : goal.returns-in_err-apply_payload-in-Entry-clause-log
returns-in_err-apply_payload-in-Entry-clause-log g c =
    let seen = (g.D.Disk.seen c.args.disk.now).contents in
    let tells = rw (c.in-Entry.is, c.loop-reader.invariant.quiet.same) at c.in_ok-payload.ensures.next in
    let judges = rw c.deref.ensures.value at c.in_err-apply_payload-in-Entry.ensures.judges in
    let same : c.from_residual-in_err-apply_payload-in-Entry.result ≡ Err c.in_err-apply_payload-in-Entry.field-0.0 = search rules in
    subst (λ r. Reads r seen c.args.replay.now c.args.start c.apply_payload.new.replay) (sym same)
    (read-stop seen c.args.replay.now c.args.start c.loop-reader.replay c.apply_payload.new.replay c.loop-reader.at c.in-Entry.next c.in-Entry.payload c.in_err-apply_payload-in-Entry.field-0.0 c.loop-reader.invariant.read tells judges)

pub loop-reader-preserved : goal.loop-reader-preserved
loop-reader-preserved g c =
    let seen = (g.D.Disk.seen c.args.disk.now).contents in
    let tells = rw (c.in-Entry.is, c.loop-reader.invariant.quiet.same) at c.in_ok-payload.ensures.next in
    let judges = rw c.deref.ensures.value at c.in_ok-apply_payload-in-Entry.ensures.judges in
    record {
      held = c.next.ensures.held;
      ahead = omega (arith, c.loop-reader.invariant.ahead, rw c.in-Entry.is at c.in_ok-payload.ensures.ahead);
      read = read-more seen c.args.replay.now c.args.start c.loop-reader.replay c.apply_payload.new.replay c.loop-reader.at c.in-Entry.next c.in-Entry.payload c.loop-reader.invariant.read tells judges;
      quiet = search rules;
      attached = c.next.ensures.attached ∙ c.loop-reader.invariant.attached;
      faults = c.in_ok-payload.ensures.faults ∙ c.loop-reader.invariant.faults;
      asked =
          leaves-more seen c.args.replay.now c.args.start c.loop-reader.replay c.apply_payload.new.replay c.loop-reader.at c.in-Entry.next c.in-Entry.payload
          c.args.probes.now c.loop-reader.probes c.apply_payload.new.probes c.loop-reader.invariant.asked tells judges (rw c.deref.ensures.value at c.apply_payload.ensures.probes);
    }

pub returns-in-End-clause-log : goal.returns-in-End-clause-log
returns-in-End-clause-log g c =
    let seen = (g.D.Disk.seen c.args.disk.now).contents in
    let tells = rw (c.in-End.is, c.loop-reader.invariant.quiet.same) at c.in_ok-payload.ensures.next in
    read-end seen c.args.replay.now c.args.start c.loop-reader.replay c.loop-reader.at c.loop-reader.invariant.read tells

pub returns-in-Bad-clause-log : goal.returns-in-Bad-clause-log
returns-in-Bad-clause-log g c =
    let seen = (g.D.Disk.seen c.args.disk.now).contents in
    let tells = rw (c.in-Bad.is, c.loop-reader.invariant.quiet.same) at c.in_ok-payload.ensures.next in
    read-short seen c.args.replay.now c.args.start c.loop-reader.replay c.loop-reader.replay c.loop-reader.at c.in-Bad.at c.loop-reader.invariant.read tells

-- whatever ends the reading, no more was asked than the log may take
pub returns-in_err-payload-clause-probes : goal.returns-in_err-payload-clause-probes
returns-in_err-payload-clause-probes g c =
    leaves-within (g.D.Disk.seen c.args.disk.now).contents c.args.replay.now c.args.start c.loop-reader.replay c.loop-reader.at c.args.probes.now c.loop-reader.probes c.loop-reader.invariant.asked

pub returns-in-Bad-clause-probes : goal.returns-in-Bad-clause-probes
returns-in-Bad-clause-probes g c =
    leaves-within (g.D.Disk.seen c.args.disk.now).contents c.args.replay.now c.args.start c.loop-reader.replay c.loop-reader.at c.args.probes.now c.loop-reader.probes c.loop-reader.invariant.asked

pub returns-in-End-clause-probes : goal.returns-in-End-clause-probes
returns-in-End-clause-probes g c =
    leaves-within (g.D.Disk.seen c.args.disk.now).contents c.args.replay.now c.args.start c.loop-reader.replay c.loop-reader.at c.args.probes.now c.loop-reader.probes c.loop-reader.invariant.asked

pub returns-in-End-clause-opens : goal.returns-in-End-clause-opens
returns-in-End-clause-opens g c =
    let seen = (g.D.Disk.seen c.args.disk.now).contents in
    let tells = rw (c.in-End.is, c.loop-reader.invariant.quiet.same) at c.in_ok-payload.ensures.next in
    leaves-end seen c.args.replay.now c.args.start c.loop-reader.replay c.loop-reader.at c.args.probes.now c.loop-reader.probes c.loop-reader.invariant.asked tells

pub returns-in_err-apply_payload-in-Entry-clause-probes : goal.returns-in_err-apply_payload-in-Entry-clause-probes
returns-in_err-apply_payload-in-Entry-clause-probes g c =
    let seen = (g.D.Disk.seen c.args.disk.now).contents in
    let tells = rw (c.in-Entry.is, c.loop-reader.invariant.quiet.same) at c.in_ok-payload.ensures.next in
    leaves-stop seen c.args.replay.now c.args.start c.loop-reader.replay c.loop-reader.at c.in-Entry.next c.in-Entry.payload
    c.args.probes.now c.loop-reader.probes c.apply_payload.new.probes c.loop-reader.invariant.asked tells (rw c.deref.ensures.value at c.apply_payload.ensures.probes)
