-- The documents are found exactly where the space is attached.
use Rattle.std.proofs.Common.{◌∙◌, ap, sym}
use Rattle.std.specs.Option.{option_copied}
use Rattle.sem_mounts.proofs.SpaceLemmas.{not_there, there}
use Rattle.sem_mounts.proofs.files.attached.Goals as goal

pub returns-in-Some-clause-absent : goal.returns-in-Some-clause-absent
returns-in-Some-clause-absent c =
    there c.args.name.now c.args.spaces.now c.in-Some.documents.now (sym (rw c.as_bytes.ensures at
    c.find.ensures) ∙ ap option_copied c.in-Some.is)

pub returns-in-None-clause-absent : goal.returns-in-None-clause-absent
returns-in-None-clause-absent c =
    not_there c.args.name.now c.args.spaces.now (sym (rw c.as_bytes.ensures at c.find.ensures)
    ∙ ap option_copied c.in-None.is)
