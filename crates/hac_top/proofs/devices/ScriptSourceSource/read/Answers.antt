use Rattle.std.proofs.lemmas.List.{take_rest}
use Rattle.hac_outside.proofs.ReadLemmas.{Consumes-front}
use Rattle.hac_top.proofs.devices.ScriptSourceSource.read.Goals as goal

pub returns-clause-bytes : goal.returns-clause-bytes
returns-clause-bytes c =
    rw (← c.self.view_is)
    (Consumes-front c.self.inside.bytes.items c.give-count.new.into c.self.inside.given c.give-count.result
    (rw (take_rest, c.deref.ensures.value) at c.give-count.ensures.bytes)
    (λ none room. rw (take_rest, c.deref.ensures.value) at (c.give-count.ensures.end none room)))
