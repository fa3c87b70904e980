use Rattle.event_codec.proofs.PayloadLemmas as payloads
use Rattle.event_codec.proofs.laws.written_is_read.Goals as goal

pub returns : goal.returns
returns c = payloads.written_is_read
