-- What a state will be after the events that it is ready for.
use Rattle.std.specs.Prelude.{ℕ, Bool, true, false, List, Option, Some, None}
use Rattle.std.specs.List.{list_all}
use Rattle.hac_model.specs.Query.Formula.{Formula}
use Rattle.hac_model.specs.Tree.Events.{apply_all}
use Rattle.hac_model.specs.Tree.Facts.{put_at}
use Rattle.hac_model.specs.Tree.Links.{query_at}
use Rattle.hac_model.specs.declared.events.Event.{Event}
use Rattle.hac_model.specs.declared.events.Event.TheVariants.{Smkdir, Setq, Unq, Rmdir, Step, Cd}
use Rattle.hac_model.specs.declared.marks.Kind.{Kind}
use Rattle.hac_model.specs.declared.states.Answer.{Answer}
use Rattle.hac_model.specs.declared.states.State.{State}
use Rattle.dep_graph.specs.Graphs as graph
use Rattle.dep_graph.specs.Graphs.{edges_of}
use Rattle.link_kinds.specs.Seen.{Known, kind_at}
use Rattle.kept_facts.specs.After.{answers_after, edges_after, mark_after}
use Rattle.kept_facts.specs.Answers.{Answered, answers_kept}
use Rattle.kept_state.specs.Seen.{Seen}
use Rattle.kept_state.specs.declared.ready.Ready.{Ready}
use Rattle.kept_state.specs.declared.ready.Ready.TheVariants.{Change}

-- the next state: that after the events
abbrev pub next_state : Seen → State
next_state kept = apply_all kept.state kept.ready

-- the event is a step, or moves a session
abbrev pub is_quiet : Event → Bool
is_quiet Step = true
is_quiet (Cd session dir) = true
is_quiet other = false

-- all of them do no more
abbrev pub are_quiet : List Event → Bool
are_quiet events = list_all is_quiet events

-- the edges of each directory after all that is ready
abbrev pub edges_next : Ready → graph.Seen → ℕ → List ℕ
edges_next (Change event edges counts) known = edges_after event edges known
edges_next other known = edges_of known

-- the query of each directory after an event, by the tree before it
abbrev pub query_after : Event → State → ℕ → Option (Formula ℕ)
query_after (Smkdir dir name query told) tree = put_at (query_at tree) tree.next (Some query)
query_after (Setq dir query told) tree = put_at (query_at tree) dir (Some query)
query_after (Unq dir) tree = put_at (query_at tree) dir None
query_after (Rmdir dir) tree = put_at (query_at tree) dir None
query_after other tree = query_at tree

-- the same after all that is ready
abbrev pub query_next : Ready → State → ℕ → Option (Formula ℕ)
query_next (Change event edges counts) tree = query_after event tree
query_next other tree = query_at tree

-- the mark of an item in a directory after all that is ready, where the item is still there
abbrev pub mark_next : Ready → Known → ℕ → ℕ → Kind
mark_next (Change event edges counts) marks dir item = mark_after event marks dir item
mark_next other marks dir item = kind_at marks dir item

-- the answers of each mount after all that is ready
abbrev pub answers_next : Ready → Answered → ℕ → List Answer
answers_next (Change event edges counts) known = answers_after event known
answers_next other known = answers_kept known
