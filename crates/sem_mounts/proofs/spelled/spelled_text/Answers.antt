-- Where no byte begins an escape, each is itself.
use Rattle.std.proofs.Common.{Some, ◌∙◌, ap, sym}
use Rattle.sem_mounts.proofs.SpelledLemmas.{plain-text}
use Rattle.sem_mounts.proofs.spelled.spelled_text.Goals as goal

pub returns-in_ok-from_slice-in-None : goal.returns-in_ok-from_slice-in-None
returns-in_ok-from_slice-in-None c =
    plain-text c.args.bytes.now (rw c.in-None.is at c.find_byte.ensures)
    ∙ ap Some (sym c.in_ok-from_slice-in-None.ensures.items)
