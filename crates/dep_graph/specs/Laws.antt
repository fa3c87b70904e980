-- What holds after the edges of one directory are replaced, whatever the edges are.
use Rattle.std.specs.Prelude.{ℕ, suc, List}
use Rattle.hac_model.specs.Tree.Depends.{Among, Leads, Reaches, NeverReturns}
use Rattle.dep_graph.specs.Graphs.{replaced}

-- no number is reached from itself, if none was before and no new edge reaches the directory over the old edges
abbrev pub NewEdgesKeepOff : Type 0
NewEdgesKeepOff = (edges : ℕ → List ℕ) (dir : ℕ) (new : List ℕ) → NeverReturns edges → ((next : ℕ) → Among new next → ¬ Reaches edges next dir) → NeverReturns (replaced edges dir new)

-- if one does, the directory is reached from itself
abbrev pub NewEdgesReturn : Type 0
NewEdgesReturn = (edges : ℕ → List ℕ) (dir : ℕ) (new : List ℕ) (next : ℕ) → Among new next → Reaches edges next dir → (steps : ℕ) × Leads (replaced edges dir new) (suc steps) dir dir
