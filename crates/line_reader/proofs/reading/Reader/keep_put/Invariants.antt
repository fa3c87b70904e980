use Rattle.std.proofs.Common.{◌≡◌, ◌≤◌}
use Rattle.line_reader.specs.Takes.{within}
use Rattle.line_reader.proofs.ReaderLemmas.{reads_left}
use Rattle.line_reader.proofs.TakeLemmas.{KeepsOn}
use Rattle.line_reader.proofs.reading.Reader.keep_put.Given as goal

-- only reading was done, and no read failed
abbrev pub invariant-bytes : goal.invariant-bytes
invariant-bytes g l =
    let seen = g.S.Source.seen in
    record {
      keeps : KeepsOn l.asked l.fn.self l.self (seen l.fn.source) (seen l.source);
      unread : l.asked ≤ within l.fn.self → (l.source ≡ l.fn.source) × (l.self ≡ l.fn.self);
      faults : (seen l.source).faults ≡ (seen l.fn.source).faults;
    }

abbrev pub decreases-bytes : goal.decreases-bytes
decreases-bytes g l = reads_left l.self
