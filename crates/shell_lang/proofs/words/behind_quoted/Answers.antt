-- Byte by byte up to the closing quote.
use Rattle.std.proofs.Common.{◌≡◌, true, ap, sym, ◌∙◌, rules}
use Rattle.std.specs.Prelude.{slice_index}
use Rattle.hac_model.specs.Bytes.{is_quote}
use Rattle.hac_model.specs.Script.LineWords.{quoted}
use Rattle.shell_lang.proofs.RawLemmas.{behind, behind-closed, behind-front}
use Rattle.shell_lang.proofs.words.behind_quoted.Goals as goal

pub returns-in_err-behind : goal.returns-in_err-behind
returns-in_err-behind c = rw c.from_residual.ensures (sym (c.loop-left.invariant ∙ ap behind c.in_err-behind.ensures))

pub loop-left-preserved : goal.loop-left-preserved
loop-left-preserved c =
    c.loop-left.invariant ∙ ap behind c.in_ok-behind.ensures.0 ∙ behind-front c.in_ok-behind.field-0-0 (quoted c.in_ok-behind.behind.now)

pub loop-left-smaller : goal.loop-left-smaller
loop-left-smaller c = c.in_ok-behind.ensures.1

pub returns : goal.returns
returns c =
    let closed : is_quote (slice_index c.loop-left.left.now 0) ≡ true = search rules in
    rw c.skip_one.ensures (sym (c.loop-left.invariant ∙ behind-closed c.loop-left.left.now closed))
