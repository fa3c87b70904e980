-- the steps that the loop has passed come behind what was there
use Rattle.std.proofs.Common.{◌≡◌, ◌++◌, codes, replicate}
use Rattle.std.specs.List.{flat_map}
use Rattle.hac_model.specs.Tree.Paths.{slashed}
use Rattle.shell_lang.proofs.word_texts.push_ups.Given as goal

abbrev pub invariant-loop : goal.invariant-loop
invariant-loop l = l.out.items ≡ l.initial.out.items ++ flat_map slashed (replicate l.counter (codes ".."))
