-- The word ends before the closing quote.
use Rattle.std.proofs.Common.{inr, arith, sym}
use Rattle.shell_lang.proofs.RawLemmas.{RawQuoted, quoted-bytes, quoted-length, raw-quoted}
use Rattle.shell_lang.proofs.words.raw_quoted.Goals as goal

found : (c : goal.Else-not-is_word_end) → RawQuoted c.args.bytes.now c.in_ok-rest.rest.now
found c = raw-quoted c.args.bytes.now c.in_ok-rest.rest.now c.in_ok-rest.ensures (sym c.if-not-is_word_end.ensures)

pub overflow_sub-end : goal.overflow_sub-end
overflow_sub-end c = omega (arith, quoted-length c.args.bytes.now c.in_ok-rest.rest.now (found c))

pub overflow_sub-end-2 : goal.overflow_sub-end-2
overflow_sub-end-2 c = omega (arith, quoted-length c.args.bytes.now c.in_ok-rest.rest.now (found c))

pub returns : goal.returns
returns c = ((found c).word, (inr (quoted-bytes c.args.bytes.now c.in_ok-rest.rest.now (found c)), (found c).reads))
