use Rattle.std.proofs.Common.{◌≡◌, length}
use Rattle.hac_model.specs.Script.LineWords.{quoted}
use Rattle.shell_lang.proofs.RawLemmas.{behind}
use Rattle.shell_lang.proofs.words.behind_quoted.Given as goal

-- what follows the word is what follows the word that goes on in what is left
abbrev pub invariant-loop-left : goal.invariant-loop-left
invariant-loop-left l = behind (quoted l.bytes) ≡ behind (quoted l.left)

-- what is left
abbrev pub decreases-loop-left : goal.decreases-loop-left
decreases-loop-left l = length l.left
