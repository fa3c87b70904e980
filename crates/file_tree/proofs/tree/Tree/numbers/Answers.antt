use Rattle.file_tree.proofs.NumberedLemmas.{numbered}
use Rattle.file_tree.proofs.tree.Tree.numbers.Goals as goal

pub returns-clause-numbers : goal.returns-clause-numbers
returns-clause-numbers c = numbered c.self.inside c.args.self.now c.self.view_is c.self.invariant.shaped c.placed_numbers.ensures.unique c.in_ok-numbers.numbers.items c.sort_unstable.new.self.items c.in_ok-numbers.ensures.numbers c.sort_unstable.ensures.permutation c.sort_unstable.ensures.sorted
