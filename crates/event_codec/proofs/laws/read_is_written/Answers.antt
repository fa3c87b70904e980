use Rattle.event_codec.proofs.PayloadLemmas as payloads
use Rattle.event_codec.proofs.laws.read_is_written.Goals as goal

pub returns : goal.returns
returns c = payloads.read_is_written
