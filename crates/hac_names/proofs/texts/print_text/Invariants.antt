use Rattle.std.proofs.Common.{◌≡◌, take}
use Rattle.hac_model.specs.Script.Texts.{escaped_text}
use Rattle.hac_names.proofs.texts.print_text.Given as goal

-- the bytes so far, each as it is printed
abbrev pub invariant-loop-byte : goal.invariant-loop-byte
invariant-loop-byte l = l.printed.items ≡ escaped_text (take l.byte-index l.text)
