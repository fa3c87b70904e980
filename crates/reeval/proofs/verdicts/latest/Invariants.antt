use Rattle.std.specs.Prelude.{◌≡◌, drop}
use Rattle.reeval.specs.Told.{latest}
use Rattle.reeval.proofs.verdicts.latest.Given as goal

-- what the rest of the news makes of the verdict so far is what all of them make of the first
abbrev pub invariant-loop-change : goal.invariant-loop-change
invariant-loop-change l = latest (drop l.change-index l.news) l.dir l.verdict ≡ latest l.news l.dir l.fn.had
