-- The space is attached, so its documents are told where contents are.
use Rattle.hac_model.specs.Spaces.Catalogue.{names}
use Rattle.sem_mounts.proofs.GatherLemmas.{told}
use Rattle.sem_mounts.proofs.gathering.list_one.Goals as goal

pub returns-in-Ok-clause-said : goal.returns-in-Ok-clause-said
returns-in-Ok-clause-said g c =
    let given = c.in-Ok.ensures in
    rw c.new.ensures (told (g.P.Spaces.seen c.args.spaces.now) c.args.name.now names
    c.in-Ok.found.items (g.met.P.Spaces.told c.args.spaces.now) given.asked.absent given.said)
