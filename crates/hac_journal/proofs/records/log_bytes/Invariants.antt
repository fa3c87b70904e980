use Rattle.std.proofs.Common.{◌≡◌, take}
use Rattle.hac_journal.specs.Records.{contents_of, records_of}
use Rattle.hac_journal.proofs.records.log_bytes.Given as goal

abbrev pub invariant-loop-payload : goal.invariant-loop-payload
invariant-loop-payload l = l.bytes.items ≡ records_of (contents_of (take l.payload-index l.payloads))
