-- A quote or a backslash comes next, or anything else.
use Rattle.std.proofs.Common.{◌≡◌, true, arith, rules}
use Rattle.std.specs.Prelude.{◌||◌, slice_index}
use Rattle.std.proofs.lemmas.Bool.Decides.{nat_tests}
use Rattle.std.proofs.lemmas.List.{length-drop, take_rest}
use Rattle.hac_model.specs.Bytes.{is_backslash, is_quote}
use Rattle.shell_lang.proofs.QuoteLemmas.{escape-none, escape-step}
use Rattle.shell_lang.proofs.words.escaped_byte.Goals as goal

pub returns-in-34 : goal.returns-in-34
returns-in-34 c =
    let bytes = c.args.bytes.now in
    let meant : (is_quote (slice_index bytes 0) || is_backslash (slice_index bytes 0)) ≡ true = search rules in
    rw (take_rest bytes 1) (escape-step bytes c.in-34.len_at_least meant, omega (arith, length-drop 1 bytes, c.in-34.len_at_least))

pub returns-in_default : goal.returns-in_default
returns-in_default c = escape-none c.args.bytes.now (λ some. grind (arith, nat_tests))
