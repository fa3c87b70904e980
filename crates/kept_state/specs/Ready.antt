-- What a state is ready for: parts of it lie in the tree, the marks, the answers and the graph.
use Rattle.std.specs.Prelude.{◌≡◌, ⊤, ℕ, ◌<◌, List, [], ◌∷◌, Option, Some, length, replicate, IsTrue}
use Rattle.hac_model.specs.Query.Formula.{Formula}
use Rattle.hac_model.specs.Script.PathWords.{untested_word}
use Rattle.hac_model.specs.Tree.Events.{accepted, apply}
use Rattle.hac_model.specs.Tree.Facts.{bare_after}
use Rattle.hac_model.specs.Tree.Limits as limits
use Rattle.hac_model.specs.Tree.Links.{parent_of, query_at}
use Rattle.hac_model.specs.Tree.Mounting.{answers_to}
use Rattle.hac_model.specs.Tree.Mounts.{terms_to_ask}
use Rattle.hac_model.specs.Tree.Sessions.{is_stored, sessions_with}
use Rattle.hac_model.specs.declared.counts.Counts.{Counts}
use Rattle.hac_model.specs.declared.events.Event.{Event}
use Rattle.hac_model.specs.declared.events.Event.TheVariants.{Mkdir, NewFile, Rewrite, Ln, Smkdir, Setq, Mark, Mv, Smount, Ssync, Step, Cd}
use Rattle.dep_graph.specs.declared.graph.NewEdges.{NewEdges}
use Rattle.file_tree.specs.Changes.{MayBecome}
use Rattle.file_tree.specs.Documents.{numbers_for}
use Rattle.file_tree.specs.declared.ready.Ready.TheVariants as tree
use Rattle.hac_model.specs.declared.states.EntryKind.TheVariants as kind
use Rattle.link_kinds.specs.Seen.{has_sets}
use Rattle.kept_facts.specs.Answers.{WillReplace, answers_kept, answers_next}
use Rattle.kept_state.specs.Gains.{answers_then}
use Rattle.kept_state.specs.Parts.{IsLinked, WillHave, edges_marked, edges_then, state_of}
use Rattle.kept_state.specs.declared.parts.Parts.{Parts}
use Rattle.kept_state.specs.declared.ready.Ready.{Ready}
use Rattle.kept_state.specs.declared.ready.Ready.TheVariants.{Nothing, Change, Session, Steps}

-- a mount is ready for what its space told of the terms in use
abbrev pub AnswersReady : Parts → ℕ → List (List ℕ) → Type 0
AnswersReady kept mount told = WillReplace kept.answers mount (answers_to (terms_to_ask kept.tree.state.entries) told)

-- all mounts are ready for what they were told for a query
abbrev pub GainsReady : Parts → Formula ℕ → List (List ℕ) → Type 0
GainsReady kept query told = (mount : ℕ) → answers_next kept.answers mount ≡ answers_then (answers_kept kept.answers) query told kept.tree.state mount

-- the tree, the marks, the answers and the graph are ready for an event, with these edges
abbrev pub IsPreparedFor : Event → Option NewEdges → Parts → Type 0
IsPreparedFor (Mkdir dir name) edges kept = kept.tree.ready ≡ tree.Add dir kind.Dir
IsPreparedFor (NewFile dir name text) edges kept = kept.tree.ready ≡ tree.Add dir kind.File
IsPreparedFor (Rewrite file text) edges kept = kept.tree.ready ≡ tree.Text file
IsPreparedFor (Ln dir name target) edges kept = kept.tree.ready ≡ tree.Link dir (untested_word target)
IsPreparedFor (Smkdir dir name query told) edges kept =
    (kept.tree.ready ≡ tree.Add dir kind.Semantic)
    × WillHave kept.graph kept.tree.state.next (edges_then kept kept.tree.state.next dir (Some query)) edges
    × GainsReady kept query told
IsPreparedFor (Setq dir query told) edges kept =
    WillHave kept.graph dir (edges_then kept dir (parent_of kept.tree.state dir) (Some query)) edges × GainsReady kept query told
IsPreparedFor (Mark mark) edges kept =
    IsTrue (has_sets kept.marks mark.dir) × (0 < kept.marks.spare) × WillHave kept.graph mark.dir (edges_marked kept mark) edges
IsPreparedFor (Mv entry dir name) edges kept =
    (kept.tree.ready ≡ tree.Move dir)
    × WillHave kept.graph entry (edges_then kept entry dir (query_at kept.tree.state entry)) edges
IsPreparedFor (Smount dir name space documents told) edges kept =
    (kept.tree.ready ≡ tree.Mount dir (length documents)) × AnswersReady kept kept.tree.state.next told
IsPreparedFor (Ssync mount documents told) edges kept =
    (kept.tree.ready ≡ tree.Sync mount (numbers_for kept.tree.state mount documents)) × AnswersReady kept mount told
IsPreparedFor other edges kept = ⊤

-- the events that were prepared
abbrev pub ready_events : Ready → List Event
ready_events Nothing = []
ready_events (Change event edges counts) = event ∷ []
ready_events (Session session dir sessions) = Cd session dir ∷ []
ready_events (Steps count) = replicate count Step

-- the parts are ready for them, and the counts or the sessions are those of the state after the event
abbrev pub IsReady : Ready → Parts → Type 0
IsReady Nothing kept = ⊤
IsReady (Change event edges counts) kept =
    IsPreparedFor event edges kept × (counts ≡ limits.counts (apply (state_of kept) event)) × IsTrue (is_stored event)
IsReady (Session session dir sessions) kept = sessions ≡ sessions_with session dir kept.sessions
IsReady (Steps count) kept = ⊤

-- an event may be applied, and so to the tree, which then holds this much
pub record CanCommit (event : Event) (counts : Counts) (kept : Parts) : Type 0 where
  pub linked : IsLinked kept
  pub happens : IsTrue (accepted (state_of kept) event)
  pub tree : MayBecome (bare_after event kept.tree.state) counts

-- it is applied
pub record IsCommitted (event : Event) (old new : Parts) : Type 0 where
  pub state : state_of new ≡ apply (state_of old) event
  pub linked : IsLinked new
