use Rattle.file_tree.proofs.LiveLemmas.{IsThrough}
use Rattle.kept_facts.proofs.FewLemmas.{IsTaking}
use Rattle.kept_state.specs.Parts.{state_of}
use Rattle.kept_state.proofs.room.room_in.Given as goal

abbrev pub invariant-entries : goal.invariant-entries
invariant-entries l = IsThrough (λ number. IsTaking (state_of l.kept) number l.room) l.kept.tree.state.entries l.kept.tree.state.next l.number-iterator.rest.items
