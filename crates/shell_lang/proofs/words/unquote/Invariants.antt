use Rattle.std.proofs.Common.{◌≡◌, length}
use Rattle.hac_model.specs.Script.LineWords.{quoted}
use Rattle.shell_lang.proofs.QuoteLemmas.{followed}
use Rattle.shell_lang.proofs.words.unquote.Given as goal

-- the word so far, and the word that goes on in what is left, are the whole word
abbrev pub invariant-loop-rest : goal.invariant-loop-rest
invariant-loop-rest l = quoted l.bytes ≡ followed l.word.items (quoted l.rest)

-- what is left
abbrev pub decreases-loop-rest : goal.decreases-loop-rest
decreases-loop-rest l = length l.rest
