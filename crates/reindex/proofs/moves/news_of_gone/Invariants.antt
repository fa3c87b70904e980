use Rattle.std.specs.Prelude.{drop}
use Rattle.reindex.proofs.GoneLemmas.{AreGone}
use Rattle.reindex.proofs.moves.news_of_gone.Given as goal

-- the directories so far say nothing more
abbrev pub invariant-loop-stop : goal.invariant-loop-stop
invariant-loop-stop l = AreGone l.past l.item (drop l.stop-index l.stop-items) l.news.items
