use Rattle.std.proofs.Common.{◌≡◌, [], drop}
use Rattle.hac_model.specs.Tree.Valid.{RiseFrom}
use Rattle.tree_answers.specs.Numbering.{document_with, numbered_by}
use Rattle.tree_answers.proofs.numbering.documents_named.Given as goal

-- the numbers rise, and with those of the names that are left they are all
abbrev pub invariant-names : goal.invariant-names
invariant-names l = record {
  rise : RiseFrom 0 l.numbers.items;
  so_far : numbered_by (document_with l.tree.state.entries l.mount) l.numbers.items (drop l.name-index l.names) ≡ numbered_by (document_with l.tree.state.entries l.mount) [] l.names;
}
