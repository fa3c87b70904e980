use Rattle.std.proofs.Common.{◌≡◌, ◌<◌, ◌≤◌}
use Rattle.line_reader.specs.Takes.{within}
use Rattle.line_reader.proofs.ReaderLemmas.{reads_left}
use Rattle.line_reader.proofs.TakeLemmas.{DropsOn}
use Rattle.line_reader.proofs.reading.Reader.drop_put.Given as goal

-- some of the bytes that are asked for are gone, the others are still due, and no read failed
abbrev pub invariant-bytes : goal.invariant-bytes
invariant-bytes g l =
    let seen = g.S.Source.seen in
    record {
      drops : DropsOn l.asked l.due l.fn.self l.self (seen l.fn.source) (seen l.source);
      more : 0 < l.due;
      unread : l.asked ≤ within l.fn.self → (l.source ≡ l.fn.source) × (l.due ≤ within l.self);
      faults : (seen l.source).faults ≡ (seen l.fn.source).faults;
    }

abbrev pub decreases-bytes : goal.decreases-bytes
decreases-bytes g l = reads_left l.self
