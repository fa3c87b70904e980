use Rattle.hac_store.proofs.BeginLemmas.{begins-closed, begins-short}
use Rattle.hac_store.proofs.LoadLemmas.{loads-closed}
use Rattle.hac_store.proofs.areas.begin.Goals as goal

pub returns-in-End-clause-area : goal.returns-in-End-clause-area
returns-in-End-clause-area g c =
    let tells = rw c.in-End.is at c.in_ok-payload.ensures.next in
    begins-closed (g.D.Disk.seen c.args.disk.now).contents c.args.start c.begin_empty.result tells c.begin_empty.ensures.begun c.begin_empty.ensures.memory

pub returns-in-Bad-clause-area : goal.returns-in-Bad-clause-area
returns-in-Bad-clause-area g c =
    let tells = rw c.in-Bad.is at c.in_ok-payload.ensures.next in
    begins-short (g.D.Disk.seen c.args.disk.now).contents c.args.start c.in-Bad.at tells

pub returns-in-End-clause-loads : goal.returns-in-End-clause-loads
returns-in-End-clause-loads g c =
    let tells = rw c.in-End.is at c.in_ok-payload.ensures.next in
    loads-closed (g.D.Disk.seen c.args.disk.now).contents c.args.start c.begin_empty.result tells c.begin_empty.ensures.begun
