use Rattle.std.proofs.Common.{◌-◌, length}
use Rattle.hac_words.specs.Standing.{StandsNowhere}
use Rattle.hac_words.proofs.windows.has_word.Given as goal

abbrev pub invariant-loop-from : goal.invariant-loop-from
invariant-loop-from l = StandsNowhere l.text l.term 0 l.from

abbrev pub decreases-loop-from : goal.decreases-loop-from
decreases-loop-from l = length l.text - l.from
