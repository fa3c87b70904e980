-- A tree with the marks of its semantic directories, the answers of its mounts, what depends on what, and its sessions.
use Rattle.std.specs.Prelude.{◌≡◌, ℕ, ◌||◌, List, [], Option, Some, None, IsTrue}
use Rattle.hac_model.specs.Tree.Facts.{Facts, Marks, edges_to, facts_of, joined, with_mark}
use Rattle.hac_model.specs.Query.Formula.{Formula}
use Rattle.hac_model.specs.Tree.Links.{is_semantic, parent_of, query_at}
use Rattle.hac_model.specs.Tree.Valid.{IsValid}
use Rattle.hac_model.specs.Tree.{is_directory_at}
use Rattle.hac_model.specs.declared.marks.Mark.{Mark}
use Rattle.hac_model.specs.declared.states.State.{State}
use Rattle.dep_graph.specs.Graphs.{edges_of}
use Rattle.dep_graph.specs.Graphs as graph
use Rattle.dep_graph.specs.declared.graph.NewEdges.{NewEdges}
use Rattle.link_kinds.specs.Seen.{Known, SameKinds, has_sets, lent_in, permanent_in, prohibited_in, transient_in}
use Rattle.kept_facts.specs.Answers.{SameAnswers, answers_kept}
use Rattle.kept_state.specs.declared.parts.Parts.{Parts}

-- the marks of a directory
abbrev pub marks_kept : Known → ℕ → Marks
marks_kept links dir = record { permanent = permanent_in links dir; prohibited = prohibited_in links dir }

-- what is kept of each number beside the tree
abbrev pub facts_kept : Parts → ℕ → Facts
facts_kept kept number = record {
  marks = marks_kept kept.marks number;
  answers = answers_kept kept.answers number;
  edges = edges_of kept.graph number;
}

-- the state: the tree, in which each semantic directory has its marks and each mount its answers, and the sessions
abbrev pub state_of : Parts → State
state_of kept = joined (facts_kept kept) kept.sessions kept.tree.state

-- the tree, the marks, the answers, the graph and the sessions are those of one valid state
pub record IsLinked (kept : Parts) : Type 0 where
  pub valid : IsValid (state_of kept)
  -- nothing else is kept of any number
  pub own : (number : ℕ) → facts_of (state_of kept) number ≡ facts_kept kept number
  -- found links aren't kept, nor what is lent
  pub found : (dir : ℕ) → transient_in kept.marks dir ≡ []
  pub lent : (dir : ℕ) → lent_in kept.marks dir ≡ []
  -- only semantic directories have sets of marks
  pub sets : (dir : ℕ) → IsTrue (has_sets kept.marks dir) → IsTrue (is_semantic (state_of kept) dir)
  -- and the tree keeps no sessions
  pub alone : kept.tree.state.sessions ≡ []

-- the one has what the other has, and may be ready for something else, as a semantic directory for marks
pub record AreAlike (old new : Parts) : Type 0 where
  pub state : new.tree.state ≡ old.tree.state
  pub kinds : SameKinds old.marks new.marks
  pub sets : (dir : ℕ) → IsTrue (has_sets new.marks dir) → IsTrue (has_sets old.marks dir || is_semantic old.tree.state dir)
  pub edges : (dir : ℕ) → edges_of new.graph dir ≡ edges_of old.graph dir
  pub answers : SameAnswers old.answers new.answers
  pub sessions : new.sessions ≡ old.sessions

-- the same, and the tree, the marks and the answers are ready for what they were ready for
pub record KeepsTree (old new : Parts) : Type 0 where
  pub tree : new.tree ≡ old.tree
  pub marks : new.marks ≡ old.marks
  pub answers : new.answers ≡ old.answers
  pub edges : (dir : ℕ) → edges_of new.graph dir ≡ edges_of old.graph dir
  pub sessions : new.sessions ≡ old.sessions

-- the edges that a directory will have that stands in this one and has this query
abbrev pub edges_then : Parts → ℕ → ℕ → Option (Formula ℕ) → List ℕ
edges_then kept dir parent query = edges_to (is_directory_at kept.tree.state.entries) parent query (permanent_in kept.marks dir)

-- the edges that a directory will have once the mark is set
abbrev pub edges_marked : Parts → Mark → List ℕ
edges_marked kept mark =
    edges_to (is_directory_at kept.tree.state.entries) (parent_of kept.tree.state mark.dir) (query_at kept.tree.state mark.dir)
    (with_mark mark.kind mark.item (marks_kept kept.marks mark.dir)).permanent

-- the graph is ready for these edges of a directory
pub record AreEdges (ready_for : graph.Seen) (dir : ℕ) (wanted : List ℕ) (edges : NewEdges) : Type 0 where
  pub ready : ready_for.ready ≡ Some edges.dir
  pub dir_is : edges.dir ≡ dir
  pub edges_are : edges.edges.items ≡ wanted

-- the graph is ready for them, or the directory has them
abbrev pub WillHave : graph.Seen → ℕ → List ℕ → Option NewEdges → Type 0
WillHave ready_for dir wanted None = edges_of ready_for dir ≡ wanted
WillHave ready_for dir wanted (Some edges) = AreEdges ready_for dir wanted edges
