use Rattle.std.proofs.Common.{◌≡◌, ◌≤◌, length, drop}
use Rattle.hac_model.specs.Script.PathWords.{relative, parts}
use Rattle.hac_names.proofs.Walks.{led_on}
use Rattle.hac_names.proofs.reading.walk.Given as goal

-- the word so far, led on by the parts that are left, is the whole word
abbrev pub invariant-loop-part : goal.invariant-loop-part
invariant-loop-part l =
    record {
      ups : l.word.ups ≤ length l.yielded;
      whole : led_on l.word (relative (drop (length l.yielded) (parts l.bytes))) ≡ relative (parts l.bytes);
    }
