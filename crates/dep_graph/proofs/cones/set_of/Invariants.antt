use Rattle.std.proofs.Common.{◌≡◌, ℕ, true, nat_eq}
use Rattle.std.specs.Prelude.{◌⊎◌, ◌↔◌, drop}
use Rattle.indexmap.specs.IndexSet.{contains}
use Rattle.hac_model.specs.Tree.Depends.{Among}
use Rattle.dep_graph.proofs.cones.set_of.Given as goal

-- what is in the set or left is all
abbrev pub invariant-loop-number : goal.invariant-loop-number
invariant-loop-number l = (q : ℕ) → (contains nat_eq l.set q ≡ true) ⊎ Among (drop l.number-index l.numbers) q ↔ Among l.numbers q
