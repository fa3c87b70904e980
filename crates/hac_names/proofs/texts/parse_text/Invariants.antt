use Rattle.std.proofs.Common.{◌≡◌, ◌++◌, List, ℕ, length}
use Rattle.std.specs.Option.{option_map}
use Rattle.hac_model.specs.Script.Texts.{text_of}
use Rattle.hac_names.proofs.texts.parse_text.Given as goal

-- the text so far, and the text that what is left spells, are the whole text
abbrev pub invariant-loop-rest : goal.invariant-loop-rest
invariant-loop-rest l = text_of l.bytes ≡ option_map (λ (more : List ℕ). l.text.items ++ more) (text_of l.rest)

-- what is left
abbrev pub decreases-loop-rest : goal.decreases-loop-rest
decreases-loop-rest l = length l.rest
