-- A number behind an `x`, or an escape of one byte, or none.
use Rattle.std.proofs.Common.{◌≡◌, ℕ, Bool, true, false, drop, ap, sym, ◌∙◌, arith, rules}
use Rattle.std.specs.Prelude.{◌==◌, if◌then◌else◌, slice_index, Option}
use Rattle.std.proofs.lemmas.List.{length-drop, take_rest}
use Rattle.hac_model.specs.Script.Texts.{escape_meaning, escape_of, hex_of, text_of, then_text}
use Rattle.hac_names.proofs.Spelled.{escape_of-none, escape_of-step, spells-behind}
use Rattle.hac_names.proofs.texts.escaped_byte.Goals as goal

pub returns-in-empty : goal.returns-in-empty
returns-in-empty c = escape_of-none c.args.bytes.now c.in-empty.len_below

pub returns-in-120 : goal.returns-in-120
returns-in-120 c =
    let bytes = c.args.bytes.now in
    let is : (slice_index bytes 0 == 120) ≡ true = search rules in
    spells-behind escape_of hex_of bytes _ c.in-120.len_at_least
    (escape_of-step bytes c.in-120.len_at_least
    ∙ ap (λ (b : Bool). if b then hex_of (drop 1 bytes) else then_text (escape_meaning (slice_index bytes 0)) (text_of (drop 1 bytes))) is)
    (rw (take_rest bytes 1) at c.numbered_byte.ensures)

pub returns-in_err-escape_meaning-in-len1-up : goal.returns-in_err-escape_meaning-in-len1-up
returns-in_err-escape_meaning-in-len1-up c =
    let bytes = c.args.bytes.now in
    let other : (slice_index bytes 0 == 120) ≡ false = search rules in
    rw c.from_residual.ensures (escape_of-step bytes c.in-len1-up.len_at_least
    ∙ ap (λ (b : Bool). if b then hex_of (drop 1 bytes) else then_text (escape_meaning (slice_index bytes 0)) (text_of (drop 1 bytes))) other
    ∙ ap (λ (b : Option ℕ). then_text b (text_of (drop 1 bytes))) (sym c.escape_meaning.ensures ∙ c.in_err-escape_meaning-in-len1-up.was))

pub returns-in_ok-escape_meaning-in-len1-up : goal.returns-in_ok-escape_meaning-in-len1-up
returns-in_ok-escape_meaning-in-len1-up c =
    let bytes = c.args.bytes.now in
    let other : (slice_index bytes 0 == 120) ≡ false = search rules in
    rw (take_rest bytes 1) (
      escape_of-step bytes c.in-len1-up.len_at_least
          ∙ ap (λ (b : Bool). if b then hex_of (drop 1 bytes) else then_text (escape_meaning (slice_index bytes 0)) (text_of (drop 1 bytes))) other
          ∙ ap (λ (b : Option ℕ). then_text b (text_of (drop 1 bytes))) (sym c.escape_meaning.ensures ∙ c.in_ok-escape_meaning-in-len1-up.was),
      omega (arith, length-drop 1 bytes, c.in-len1-up.len_at_least),
    )
