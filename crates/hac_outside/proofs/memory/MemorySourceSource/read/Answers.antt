use Rattle.std.proofs.lemmas.List.{take_rest}
use Rattle.hac_outside.proofs.ReadLemmas.{Consumes-front, cut_to-same}
use Rattle.hac_outside.proofs.memory.MemorySourceSource.read.Goals as goal

pub returns-clause-bytes : goal.returns-clause-bytes
returns-clause-bytes c =
    rw (← c.self.view_is)
    (Consumes-front c.self.inside.bytes.items c.give-count.new.into c.self.inside.given c.give-count.result
    (rw (take_rest, c.deref-2.ensures.value) at c.give-count.ensures.bytes)
    (λ none room. rw (take_rest, c.deref-2.ensures.value) at (c.give-count.ensures.end none room)))

pub returns-clause-count : goal.returns-clause-count
returns-clause-count c =
    rw (← c.self.view_is)
    (cut_to-same _ _ _ _ _ c.self.inside.given c.deref-2.result.now c.self.inside.bytes.items _
    c.give-count.ensures.count c.piece_at-piece.ensures c.deref.ensures.value c.deref-2.ensures.value)
