use Rattle.std.proofs.Common.{◌≡◌}
use Rattle.std.specs.Prelude.{drop}
use Rattle.hac_model.specs.Script.CommandLine.{each_space}
use Rattle.command_line.specs.Words.{spaces_asked}
use Rattle.command_line.proofs.WordSpaces.{before, texts}
use Rattle.command_line.proofs.words.each_space.Given as goal

-- the spaces so far and those of the words that are left are all
abbrev pub invariant-loop-word : goal.invariant-loop-word
invariant-loop-word l = before (spaces_asked l.spaces.items) (each_space (texts (drop l.word-index l.words))) ≡ each_space (texts l.words)
