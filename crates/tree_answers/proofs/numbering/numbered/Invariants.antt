use Rattle.std.proofs.Common.{◌≡◌, [], drop}
use Rattle.hac_model.specs.Tree.Valid.{RiseFrom}
use Rattle.tree_answers.specs.Numbering.{listed_with, numbered_by}
use Rattle.tree_answers.proofs.numbering.numbered.Given as goal

-- the numbers rise, and with those of the names that are left they are all
abbrev pub invariant-names : goal.invariant-names
invariant-names l = record {
  rise : RiseFrom 0 l.found.items;
  so_far : numbered_by (listed_with l.list l.numbers) l.found.items (drop l.name-index l.names) ≡ numbered_by (listed_with l.list l.numbers) [] l.names;
}
