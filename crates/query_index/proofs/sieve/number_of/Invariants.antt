use Rattle.std.proofs.Common.{◌≡◌, ◌<◌, take}
use Rattle.query_index.specs.Sieve.{number_of}
use Rattle.query_index.proofs.sieve.number_of.Given as goal

abbrev pub invariant-loop-byte : goal.invariant-loop-byte
invariant-loop-byte l =
    record {
      number : l.number ≡ number_of (take l.byte-index l.letters);
      below : l.number < 32768;
    }
