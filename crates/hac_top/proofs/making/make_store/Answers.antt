use Rattle.hac_top.proofs.MakingLemmas.{makes-store}
use Rattle.hac_top.proofs.making.make_store.Goals as goal

pub returns : goal.returns
returns g c = rw c.end_status.ensures (makes-store c.tell_counts-told.result c.play_made-played.ensures c.tell_counts-told.ensures.tells c.tell_counts-told.ensures.probes)
