use Rattle.std.proofs.Common.{◌≡◌, ◌++◌}
use Rattle.hac_model.specs.Tree.Mounts.{terms_in_use}
use Rattle.file_tree.proofs.LiveLemmas.{IsThrough}
use Rattle.kept_facts.proofs.UseLemmas.{rest_from}
use Rattle.kept_state.proofs.terms.terms_in_use.Given as goal

-- the terms that were taken, and those of the entries from here on, are all
abbrev pub invariant-entries : goal.invariant-entries
invariant-entries l =
    IsThrough (λ number. l.terms.items ++ terms_in_use (rest_from number l.tree.state.entries) ≡ terms_in_use l.tree.state.entries)
    l.tree.state.entries l.tree.state.next l.number-iterator.rest.items
