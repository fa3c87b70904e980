-- An escape, or a byte that is itself.
use Rattle.std.proofs.Common.{◌≡◌, Bool, true, false, drop, ap, ◌∙◌, arith, rules}
use Rattle.std.specs.Prelude.{if◌then◌else◌, slice_index}
use Rattle.std.proofs.lemmas.List.{length-drop, take_rest}
use Rattle.hac_model.specs.Bytes.{is_backslash}
use Rattle.hac_model.specs.Script.Texts.{escape_of, text_of, with_byte}
use Rattle.hac_names.proofs.Spelled.{spells-behind, text_of-step}
use Rattle.hac_names.proofs.texts.first_byte.Goals as goal

pub returns-in-92 : goal.returns-in-92
returns-in-92 c =
    let bytes = c.args.bytes.now in
    let is : is_backslash (slice_index bytes 0) ≡ true = search rules in
    spells-behind text_of escape_of bytes _ c.in-92.len_at_least
    (text_of-step bytes c.in-92.len_at_least
    ∙ ap (λ (b : Bool). if b then escape_of (drop 1 bytes) else with_byte (slice_index bytes 0) (text_of (drop 1 bytes))) is)
    (rw (take_rest bytes 1) at c.escaped_byte.ensures)

pub returns-in-len1-up : goal.returns-in-len1-up
returns-in-len1-up c =
    let bytes = c.args.bytes.now in
    let other : is_backslash (slice_index bytes 0) ≡ false = search rules in
    rw (take_rest bytes 1) (
      text_of-step bytes c.in-len1-up.len_at_least
          ∙ ap (λ (b : Bool). if b then escape_of (drop 1 bytes) else with_byte (slice_index bytes 0) (text_of (drop 1 bytes))) other,
      omega (arith, length-drop 1 bytes, c.in-len1-up.len_at_least),
    )
