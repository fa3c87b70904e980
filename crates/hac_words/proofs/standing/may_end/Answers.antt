use Rattle.std.proofs.Common.{◌≡◌, get_or, not, ap, sym, ◌∙◌, arith}
use Rattle.std.proofs.lemmas.Bool.{le-leb}
use Rattle.std.proofs.lemmas.List.{get_or_past}
use Rattle.hac_model.specs.Query.Words.{is_word_byte}
use Rattle.hac_words.specs.Standing.{may_end}
use Rattle.hac_words.proofs.standing.may_end.Goals as goal

pub returns-then-at-text : goal.returns-then-at-text
unfolding may_end is_word_byte
returns-then-at-text c =
    let past : get_or c.args.text.now c.args.at 0 ≡ 0 = get_or_past c.args.text.now c.args.at 0 (omega arith) in
    le-leb _ _ c.if-at-text.true ∙ sym (ap (λ b. not (is_word_byte b)) past)
