use Rattle.std.proofs.Common.{◌&&◌, ◌∙◌, not, rules, sym}
use Rattle.std.proofs.lemmas.Iterator.Search.{any_from_yields_List}
use Rattle.std.proofs.lemmas.Iterator.Splits.{YieldsList-from_slice_split}
use Rattle.hac_model.specs.Query.Words.{has_bytes, is_asked, is_word_byte, lower_case}
use Rattle.hac_words.proofs.RunLemmas.{has_term-parts}
use Rattle.hac_words.proofs.searching.has_run.Goals as goal

pub returns : goal.returns
returns c =
    any_from_yields_List (λ run. has_bytes run && is_asked c.args.term.now (lower_case run)) _ _ _ c.any.ensures.ran
    (YieldsList-from_slice_split _ (λ b. not (is_word_byte b)) c.args.text.now c.split.ensures.rest c.split.ensures.done c.split.ensures.closure (λ x b q k. search rules))
    (λ x b q k. search rules)
    ∙ sym (has_term-parts c.args.text.now c.args.term.now)
