use Rattle.file_tree.proofs.LiveLemmas.{IsThrough}
use Rattle.kept_facts.specs.AnswersKept.{list_at}
use Rattle.kept_state.proofs.GainLemmas.{IsGaining}
use Rattle.kept_state.proofs.gains.lists_then.Given as goal

abbrev pub invariant-entries : goal.invariant-entries
invariant-entries l =
    IsThrough (λ number. IsGaining l.kept l.query l.told l.left number (λ mount. list_at l.lists mount))
    l.kept.tree.state.entries l.kept.tree.state.next l.number-iterator.rest.items
