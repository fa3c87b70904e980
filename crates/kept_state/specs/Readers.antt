-- What the parts of a kept state tell of it.
use Rattle.std.specs.Prelude.{◌≡◌, ℕ, List, [], IsTrue, if◌then◌else◌}
use Rattle.hac_model.specs.Tree.Bare.{bare}
use Rattle.hac_model.specs.Tree.Depends.{depends}
use Rattle.hac_model.specs.Tree.Links.{answers_at, is_permanent, is_prohibited, is_semantic, permanent_at, prohibited_at}
use Rattle.hac_model.specs.Tree.Valid.{IsLayout, IsValid}
use Rattle.hac_model.specs.declared.marks.Kind.{Kind}
use Rattle.hac_model.specs.declared.marks.Kind.TheVariants.{Permanent, Prohibited, Unlinked}
use Rattle.hac_model.specs.declared.states.Answer.{Answer}
use Rattle.hac_model.specs.declared.states.State.{State}
use Rattle.dep_graph.specs.Graphs.{edges_of}
use Rattle.dep_graph.specs.Graphs as graph
use Rattle.link_kinds.specs.Seen.{Known, has_sets, lent_in, permanent_in, prohibited_in, transient_in}

-- it is the tree of the state, without marks, answers and sessions
pub record IsTreeOf (s tree : State) : Type 0 where
  pub bares : bare s ≡ bare tree
  pub layout : IsLayout tree
  pub sessions : tree.sessions ≡ []

-- the marks are those of the state. No link that was found is among them.
pub record AreMarksOf (s : State) (marks : Known) : Type 0 where
  pub permanent : (dir : ℕ) → permanent_in marks dir ≡ permanent_at s dir
  pub prohibited : (dir : ℕ) → prohibited_in marks dir ≡ prohibited_at s dir
  pub found : (dir : ℕ) → transient_in marks dir ≡ []

-- the graph has what each directory depends on
abbrev pub AreEdgesOf : State → graph.Seen → Type 0
AreEdgesOf s edges = (dir : ℕ) → edges_of edges dir ≡ depends s dir

-- the mark of an item in a directory
abbrev pub mark_at : State → ℕ → ℕ → Kind
mark_at s dir item = if is_permanent s dir item then Permanent else (if is_prohibited s dir item then Prohibited else Unlinked)

-- a tree, marks, answers of mounts and a graph are those of one valid state, which has no sessions
pub record ArePartsOf (s tree : State) (marks : Known) (answers : ℕ → List Answer) (edges : graph.Seen) : Type 0 where
  pub valid : IsValid s
  pub sessions : s.sessions ≡ []
  pub tree_is : tree ≡ bare s
  pub marks_are : AreMarksOf s marks
  pub lent : (dir : ℕ) → lent_in marks dir ≡ []
  pub sets : (dir : ℕ) → IsTrue (has_sets marks dir) → IsTrue (is_semantic s dir)
  pub answers_are : (mount : ℕ) → answers mount ≡ answers_at s mount
  pub edges_are : AreEdgesOf s edges
