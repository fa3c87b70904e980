-- Two digits and what follows them, or none where fewer bytes are left or they are no digits.
use Rattle.std.proofs.Common.{ℕ, drop, ap, sym, ◌∙◌, arith}
use Rattle.std.specs.Prelude.{Option}
use Rattle.std.proofs.lemmas.List.{length-drop, take_rest}
use Rattle.hac_model.specs.Script.Texts.{text_of, then_text}
use Rattle.hac_names.proofs.Spelled.{hex_of-none, hex_of-step}
use Rattle.hac_names.proofs.texts.numbered_byte.Goals as goal

pub returns-in_default : goal.returns-in_default
returns-in_default c = hex_of-none c.args.bytes.now c.in_default.len_below

pub returns-in_err-number-in-len2-up : goal.returns-in_err-number-in-len2-up
returns-in_err-number-in-len2-up c =
    rw c.from_residual.ensures (hex_of-step c.args.bytes.now c.in-len2-up.len_at_least
    ∙ ap (λ (b : Option ℕ). then_text b (text_of (drop 2 c.args.bytes.now))) (sym c.number.ensures ∙ c.in_err-number-in-len2-up.was))

pub returns-in_ok-number-in-len2-up : goal.returns-in_ok-number-in-len2-up
returns-in_ok-number-in-len2-up c =
    rw (take_rest c.args.bytes.now 2) (
      hex_of-step c.args.bytes.now c.in-len2-up.len_at_least
          ∙ ap (λ (b : Option ℕ). then_text b (text_of (drop 2 c.args.bytes.now))) (sym c.number.ensures ∙ c.in_ok-number-in-len2-up.was),
      omega (arith, length-drop 2 c.args.bytes.now, c.in-len2-up.len_at_least),
    )
