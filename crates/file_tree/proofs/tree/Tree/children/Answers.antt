use Rattle.std.proofs.Common.{ℕ, List, length, ap, sym, ◌∙◌}
use Rattle.std.specs.Prelude.{◌==◌}
use Rattle.file_tree.proofs.OrderLemmas.{bare-seen, children-seen}
use Rattle.file_tree.proofs.tree.Tree.children.Goals as goal

pub returns-clause-numbers : goal.returns-clause-numbers
returns-clause-numbers c = c.children_at.ensures ∙ sym (children-seen c.self.inside c.args.self.now c.self.view_is c.self.invariant.shaped c.args.dir)

pub returns-clause-bare : goal.returns-clause-bare
returns-clause-bare c = bare-seen c.self.inside c.args.self.now c.self.view_is c.self.invariant.shaped c.args.dir ∙ ap (λ (ns : List ℕ). length ns == 0) (sym c.children_at.ensures)
