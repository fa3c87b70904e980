-- An escape, or a byte that is itself, if no closing quote comes.
use Rattle.std.proofs.Common.{◌≡◌, Bool, true, false, drop, ap, ◌∙◌, arith, rules}
use Rattle.std.specs.Prelude.{if◌then◌else◌, slice_index}
use Rattle.std.proofs.lemmas.List.{length-drop, take_rest}
use Rattle.hac_model.specs.Bytes.{is_backslash}
use Rattle.hac_model.specs.Script.LineWords.{in_front, quoted, quoted_escape}
use Rattle.shell_lang.proofs.QuoteLemmas.{quoted-none, quoted-step, quotes-behind}
use Rattle.shell_lang.proofs.words.quoted_byte.Goals as goal

pub returns-in-empty : goal.returns-in-empty
returns-in-empty c = quoted-none c.args.bytes.now c.in-empty.len_below

pub returns-in-92 : goal.returns-in-92
returns-in-92 c =
    let bytes = c.args.bytes.now in
    let is : is_backslash (slice_index bytes 0) ≡ true = search rules in
    quotes-behind bytes _ c.in-92.len_at_least
    (quoted-step bytes c.in-92.len_at_least c.requires
    ∙ ap (λ (b : Bool). if b then quoted_escape (drop 1 bytes) else in_front (slice_index bytes 0) (quoted (drop 1 bytes))) is)
    (rw (take_rest bytes 1) at c.escaped_byte.ensures)

pub returns-in-len1-up : goal.returns-in-len1-up
returns-in-len1-up c =
    let bytes = c.args.bytes.now in
    let other : is_backslash (slice_index bytes 0) ≡ false = search rules in
    rw (take_rest bytes 1) (
      quoted-step bytes c.in-len1-up.len_at_least c.requires
          ∙ ap (λ (b : Bool). if b then quoted_escape (drop 1 bytes) else in_front (slice_index bytes 0) (quoted (drop 1 bytes))) other,
      omega (arith, length-drop 1 bytes, c.in-len1-up.len_at_least),
    )
