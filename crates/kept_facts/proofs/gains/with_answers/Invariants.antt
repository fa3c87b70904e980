use Rattle.std.proofs.Common.{vec_len}
use Rattle.kept_facts.proofs.GainLemmas.{IsPutting}
use Rattle.kept_facts.proofs.gains.with_answers.Given as goal

abbrev pub invariant-more : goal.invariant-more
invariant-more l = IsPutting l.fn.more.items l.answers l.more.items l.all.items

abbrev pub decreases-more : goal.decreases-more
decreases-more l = vec_len l.more
