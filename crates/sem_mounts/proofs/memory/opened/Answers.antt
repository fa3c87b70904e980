-- A file is found exactly where it is there.
use Rattle.std.proofs.Common.{◌∙◌, ap, sym}
use Rattle.std.specs.Prelude.{Contains}
use Rattle.std.specs.Option.{option_copied}
use Rattle.hac_outside.specs.Calls.{next_number}
use Rattle.sem_mounts.proofs.SpaceLemmas.{fails-missing, fails-opened}
use Rattle.sem_mounts.proofs.memory.opened.Goals as goal

pub returns-in-Some-clause-fails : goal.returns-in-Some-clause-fails
returns-in-Some-clause-fails c =
    fails-opened (Contains c.args.calls.now.failing.items (next_number c.args.calls.now.made))
    c.args.file.now c.args.files.now c.in-Some.bytes.now c.in_ok-begin.ensures.fails.1
    (sym (rw c.as_bytes.ensures.value at c.find.ensures) ∙ ap option_copied c.in-Some.is)

pub returns-in-None-clause-fails : goal.returns-in-None-clause-fails
returns-in-None-clause-fails c =
    fails-missing (Contains c.args.calls.now.failing.items (next_number c.args.calls.now.made))
    c.args.file.now c.args.files.now
    (sym (rw c.as_bytes.ensures.value at c.find.ensures) ∙ ap option_copied c.in-None.is)
