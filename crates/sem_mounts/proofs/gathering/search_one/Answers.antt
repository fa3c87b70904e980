-- The space is attached, so its documents are told where contents are.
use Rattle.hac_model.specs.Spaces.Answering.{names_with}
use Rattle.sem_mounts.proofs.GatherLemmas.{told}
use Rattle.sem_mounts.proofs.gathering.search_one.Goals as goal

pub returns-in-Ok-clause-said : goal.returns-in-Ok-clause-said
returns-in-Ok-clause-said g c =
    let given = c.in-Ok.ensures in
    let question = c.args.question.now in
    rw c.new.ensures (told (g.P.Spaces.seen c.args.spaces.now) question.space (λ documents.
    names_with documents question.term) c.in-Ok.found.items (g.met.P.Spaces.told
    c.args.spaces.now) given.asked.absent given.said)
