use Rattle.std.proofs.Common.{◌≡◌, true}
use Rattle.hac_model.specs.Script.{is_first_ended}
use Rattle.line_reader.specs.Reading.{IsReaderOf, ReadsOn}
use Rattle.line_reader.proofs.ReaderLemmas.{reads_left}
use Rattle.line_reader.proofs.reading.Reader.find_line.Given as goal

-- only reading was done, and no read failed
abbrev pub invariant-loop-found : goal.invariant-loop-found
invariant-loop-found g l =
    let seen = g.S.Source.seen in
    record {
      reads : ReadsOn l.fn.self l.self (seen l.fn.source) (seen l.source);
      source : IsReaderOf l.self (seen l.source);
      unread : is_first_ended l.fn.self.buffered ≡ true → l.source ≡ l.fn.source;
      faults : (seen l.source).faults ≡ (seen l.fn.source).faults;
    }

abbrev pub decreases-loop-found : goal.decreases-loop-found
decreases-loop-found g l = reads_left l.self
