-- The documents are found exactly where the space is attached.
use Rattle.std.proofs.Common.{◌∙◌, ap, sym}
use Rattle.std.specs.Prelude.{true, Contains}
use Rattle.std.specs.Option.{option_copied}
use Rattle.hac_outside.specs.Calls.{next_number}
use Rattle.sem_mounts.proofs.SpaceLemmas.{fails-nowhere, fails-there, not_there, there}
use Rattle.sem_mounts.proofs.memory.asked.Goals as goal

pub returns-in-Ok-clause-absent : goal.returns-in-Ok-clause-absent
returns-in-Ok-clause-absent c =
    there c.args.name.now c.args.spaces.now c.in-Some.documents.now (sym (rw c.as_bytes.ensures at
    c.find.ensures) ∙ ap option_copied c.in-Some.is)

pub returns-in-Err-clause-absent : goal.returns-in-Err-clause-absent
returns-in-Err-clause-absent c =
    there c.args.name.now c.args.spaces.now c.in-Some.documents.now (sym (rw c.as_bytes.ensures at
    c.find.ensures) ∙ ap option_copied c.in-Some.is)

pub returns-in-None-clause-absent : goal.returns-in-None-clause-absent
returns-in-None-clause-absent c =
    not_there c.args.name.now c.args.spaces.now (sym (rw c.as_bytes.ensures at c.find.ensures)
    ∙ ap option_copied c.in-None.is)

pub returns-in-Err-clause-fails : goal.returns-in-Err-clause-fails
returns-in-Err-clause-fails c =
    fails-there true (Contains c.args.calls.now.failing.items (next_number c.args.calls.now.made))
    c.args.name.now c.args.spaces.now c.in-Some.documents.now c.in-Err.ensures.fails
    (sym (rw c.as_bytes.ensures at c.find.ensures) ∙ ap option_copied c.in-Some.is)

pub returns-in-None-clause-fails : goal.returns-in-None-clause-fails
returns-in-None-clause-fails c =
    fails-nowhere (Contains c.args.calls.now.failing.items (next_number c.args.calls.now.made))
    c.args.name.now c.args.spaces.now
    (sym (rw c.as_bytes.ensures at c.find.ensures) ∙ ap option_copied c.in-None.is)
