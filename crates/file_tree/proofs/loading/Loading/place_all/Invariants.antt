use Rattle.std.specs.Vec.Iter.{into_iter_items}
use Rattle.file_tree.proofs.LoadLemmas.{AreLoaded}
use Rattle.file_tree.proofs.loading.Loading.place_all.Given as goal

-- the first ones are in the tree
abbrev pub invariant-loop-entry : goal.invariant-loop-entry
invariant-loop-entry l = AreLoaded l.fn.self.next l.fn.entries.items (into_iter_items l.entry-iterator) l.self
