-- The space is attached, so its documents are told where contents are.
use Rattle.std.specs.Option.{option_map}
use Rattle.hac_model.specs.Spaces.Answering.{text_at}
use Rattle.sem_mounts.proofs.GatherLemmas.{told}
use Rattle.sem_mounts.proofs.gathering.fetch_one.Goals as goal

pub returns-in-Ok-clause-said : goal.returns-in-Ok-clause-said
returns-in-Ok-clause-said g c =
    let given = c.in-Ok.ensures in
    let fetch = c.args.fetch.now in
    let text = option_map (λ text. text.items) c.in-Ok.bytes in
    rw c.text_of.ensures (told (g.P.Spaces.seen c.args.spaces.now) fetch.space (λ documents. text_at
    documents fetch.document) text (g.met.P.Spaces.told c.args.spaces.now) given.asked.absent
    given.said)
