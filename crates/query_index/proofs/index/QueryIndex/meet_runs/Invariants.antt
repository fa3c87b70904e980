use Rattle.std.specs.Prelude.{filter, length, not, take}
use Rattle.std.specs.List.{slice_split}
use Rattle.hac_model.specs.Query.Words.{has_bytes, is_word_byte}
use Rattle.query_index.specs.Inner.{Meets}
use Rattle.query_index.proofs.index.QueryIndex.meet_runs.Given as goal

abbrev pub invariant-loop-run : goal.invariant-loop-run
invariant-loop-run l = Meets l.self (filter has_bytes (take (length l.yielded) (slice_split (λ b. not (is_word_byte b)) l.text))) l.fn.met l.met
