-- At the closing quote the word so far is the whole word.
use Rattle.std.proofs.Common.{◌≡◌, List, ℕ, true, ap, ◌∙◌, rules}
use Rattle.std.specs.Prelude.{slice_index, Option}
use Rattle.std.specs.Option.{ok_or}
use Rattle.hac_model.specs.Bytes.{is_quote}
use Rattle.hac_model.specs.declared.replies.Refusal.TheVariants.{BadLine}
use Rattle.shell_lang.proofs.QuoteLemmas.{followed-closed}
use Rattle.shell_lang.proofs.words.unquote.Goals as goal

pub returns : goal.returns
returns c =
    let closed : is_quote (slice_index c.loop-rest.rest.now 0) ≡ true = search rules in
    rw c.skip_one.ensures (ap (λ (read : Option (List ℕ × List ℕ)). ok_or read BadLine)
    (c.loop-rest.invariant ∙ followed-closed c.loop-rest.word.items c.loop-rest.rest.now closed))
