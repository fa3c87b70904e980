use Rattle.std.proofs.Common.{rules, subst, sym}
use Rattle.line_reader.specs.Reading.{Reading, IsUnended, ReadsOn}
use Rattle.line_reader.proofs.ReaderLemmas.{reads-on, ended-unended, line-filled}
use Rattle.line_reader.proofs.reading.Reader.find_line.Goals as goal

pub loop-found-preserved : goal.loop-found-preserved
loop-found-preserved g c =
    let seen = g.S.Source.seen in
    let was = c.loop-found.invariant in
    let now = c.mark_scanned.new.self in
    let read = c.fill.ensures in
    let reads = subst (λ (r : Reading). ReadsOn c.args.self.now r (g.S.Source.seen c.args.source.now) (g.S.Source.seen c.loop-found.source)) (sym c.mark_scanned.ensures) was.reads in
    let unended = subst (λ (r : Reading). IsUnended r.buffered) (sym c.mark_scanned.ensures) c.in_default.ensures.none.2 in
    record {
      reads = reads-on c.args.self.now now c.fill.new.self (seen c.args.source.now) (seen c.loop-found.source) (seen c.fill.new.source) reads read.reads;
      source = line-filled now c.fill.new.self (seen c.loop-found.source) (seen c.fill.new.source) unended read.reads read.near read.end;
      unread = λ buffered. absurd (ended-unended c.args.self.now.buffered c.loop-found.self.buffered was.reads.buffered.0 buffered was.reads.buffered.1 c.in_default.ensures.none.2);
      faults = search rules;
    }

pub returns-in_err-fill-clause-unread : goal.returns-in_err-fill-clause-unread
returns-in_err-fill-clause-unread g c =
    λ buffered. absurd (ended-unended c.args.self.now.buffered c.loop-found.self.buffered c.loop-found.invariant.reads.buffered.0 buffered c.loop-found.invariant.reads.buffered.1 c.in_default.ensures.none.2)
