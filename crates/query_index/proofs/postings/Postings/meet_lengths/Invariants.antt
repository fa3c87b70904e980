use Rattle.std.proofs.Common.{◌≡◌, ◌<◌}
use Rattle.std.specs.Prelude.{take}
use Rattle.query_index.specs.Inner.{is_at}
use Rattle.query_index.specs.Numbers.{AddsAll, any_below}
use Rattle.query_index.specs.Sieve.{number_of}
use Rattle.query_index.proofs.postings.Postings.meet_lengths.Given as goal

abbrev pub invariant-loop-len : goal.invariant-loop-len
invariant-loop-len l =
    record {
      number : l.number ≡ number_of (take l.len l.word);
      below : l.number < 32768;
      met : AddsAll l.fn.met.items l.met.items (λ at. any_below l.len (λ len. is_at l.self (take len l.word) at));
    }
