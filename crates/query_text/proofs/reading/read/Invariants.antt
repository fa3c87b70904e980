use Rattle.std.proofs.Common.{◌≡◌, ◌+◌, drop}
use Rattle.hac_model.specs.Query.QueryReading.{read_on, fresh_reader}
use Rattle.query_text.proofs.reading.read.Given as goal

-- what is still to be read gives what all of it gives
abbrev pub invariant-loop-index : goal.invariant-loop-index
invariant-loop-index l = read_on (l.index + 1) (drop l.index l.bytes) l.reader ≡ read_on 1 l.fn.bytes fresh_reader
