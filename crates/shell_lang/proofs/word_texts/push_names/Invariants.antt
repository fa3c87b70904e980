-- the names that the loop has passed come behind what was there
use Rattle.std.proofs.Common.{◌≡◌, ◌++◌, take}
use Rattle.std.specs.List.{flat_map}
use Rattle.hac_model.specs.Tree.Paths.{slashed}
use Rattle.shell_lang.proofs.word_texts.push_names.Given as goal

abbrev pub invariant-loop-name : goal.invariant-loop-name
invariant-loop-name l = l.out.items ≡ l.initial.out.items ++ flat_map slashed (take l.name-index l.names)
