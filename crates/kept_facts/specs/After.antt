-- What depends on what, the marks and the answers after an event, by what was prepared for it.
use Rattle.std.specs.Prelude.{ℕ, ◌==◌, ◌&&◌, if◌then◌else◌, List, [], Option}
use Rattle.hac_model.specs.Tree.Facts.{put_at}
use Rattle.hac_model.specs.declared.events.Event.{Event}
use Rattle.hac_model.specs.declared.events.Event.TheVariants.{Smkdir, Setq, Unq, Mark, Mv, Rmdir, Smount, Ssync, Sumount}
use Rattle.hac_model.specs.declared.marks.Kind.{Kind}
use Rattle.hac_model.specs.declared.marks.Kind.TheVariants.{Unlinked}
use Rattle.hac_model.specs.declared.states.Answer.{Answer}
use Rattle.dep_graph.specs.Graphs as graph
use Rattle.dep_graph.specs.Graphs.{edges_of, edges_with, replaced}
use Rattle.dep_graph.specs.declared.graph.NewEdges.{NewEdges}
use Rattle.link_kinds.specs.Seen.{Known, kind_at}
use Rattle.kept_facts.specs.Answers.{Answered, answers_kept, answers_next}

-- the edges of each directory after an event, by those that were prepared for it
abbrev pub edges_after : Event → Option NewEdges → graph.Seen → ℕ → List ℕ
edges_after (Smkdir dir name query told) edges known = edges_with known edges
edges_after (Setq dir query told) edges known = edges_with known edges
edges_after (Mark mark) edges known = edges_with known edges
edges_after (Mv entry dir name) edges known = edges_with known edges
edges_after (Unq dir) edges known = replaced (edges_of known) dir []
edges_after (Rmdir dir) edges known = replaced (edges_of known) dir []
edges_after other edges known = edges_of known

-- the mark of an item in a directory after an event, where the item is still there
abbrev pub mark_after : Event → Known → ℕ → ℕ → Kind
mark_after (Mark mark) marks dir item = if dir == mark.dir && item == mark.item then mark.kind else kind_at marks dir item
mark_after (Unq bared) marks dir item = if dir == bared then Unlinked else kind_at marks dir item
mark_after (Rmdir bared) marks dir item = if dir == bared then Unlinked else kind_at marks dir item
mark_after other marks dir item = kind_at marks dir item

-- the answers of each mount after an event, by those that were prepared for it
abbrev pub answers_after : Event → Answered → ℕ → List Answer
answers_after (Smkdir dir name query told) known = answers_next known
answers_after (Setq dir query told) known = answers_next known
answers_after (Smount dir name space documents told) known = answers_next known
answers_after (Ssync mount documents told) known = answers_next known
answers_after (Sumount gone) known = put_at (answers_kept known) gone []
answers_after other known = answers_kept known
