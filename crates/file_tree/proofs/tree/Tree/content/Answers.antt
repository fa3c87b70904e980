use Rattle.std.proofs.Common.{refl}
use Rattle.file_tree.proofs.ReadLemmas.{seen-none, seen-some}
use Rattle.file_tree.proofs.tree.Tree.content.Goals as goal

pub returns-in-Some : goal.returns-in-Some
returns-in-Some c = rw (seen-some c.self.inside c.args.self.now c.self.view_is c.self.invariant.shaped c.args.entry c.entry_at.result c.entry_at.ensures c.in-Some.node c.in-Some.is) refl

pub returns-in-None : goal.returns-in-None
returns-in-None c = rw (seen-none c.self.inside c.args.self.now c.self.view_is c.self.invariant.shaped c.args.entry c.entry_at.result c.entry_at.ensures c.in-None.is) refl
