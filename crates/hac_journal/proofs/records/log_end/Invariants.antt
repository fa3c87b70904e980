use Rattle.std.proofs.Common.{◌≡◌, ◌+◌, ◌-◌, ◌^◌, min, length, take}
use Rattle.hac_journal.specs.Records.{contents_of, records_of}
use Rattle.hac_journal.proofs.records.log_end.Given as goal

abbrev pub invariant-loop-payload : goal.invariant-loop-payload
invariant-loop-payload l = l.at ≡ min (l.end + length (records_of (contents_of (take l.payload-index l.payloads)))) (2 ^ 64 - 1)
