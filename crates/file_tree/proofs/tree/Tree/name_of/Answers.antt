use Rattle.std.proofs.Common.{refl}
use Rattle.file_tree.proofs.ReadLemmas.{none-there, seen-none, seen-some}
use Rattle.file_tree.proofs.tree.Tree.name_of.Goals as goal

pub unreachable-requires : goal.unreachable-requires
unreachable-requires c = none-there (seen-none c.self.inside c.args.self.now c.self.view_is c.self.invariant.shaped c.args.entry c.entry_at.result c.entry_at.ensures c.in-None.is) c.requires

pub returns : goal.returns
returns c = rw (seen-some c.self.inside c.args.self.now c.self.view_is c.self.invariant.shaped c.args.entry c.entry_at.result c.entry_at.ensures c.in-Some.node c.in-Some.is) refl
