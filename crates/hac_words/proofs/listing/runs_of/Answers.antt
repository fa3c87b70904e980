use Rattle.std.proofs.Common.{◌≡◌, not, rules, subst}
use Rattle.std.proofs.lemmas.Iterator.{YieldsList-from_map, items_from_collect}
use Rattle.std.proofs.lemmas.Iterator.Consumers.{YieldsList-at, YieldsList-from_filter}
use Rattle.std.proofs.lemmas.Iterator.Splits.{YieldsList-from_slice_split}
use Rattle.std.proofs.lemmas.List.{map-id}
use Rattle.std.specs.Result.{IfOk}
use Rattle.hac_model.specs.Query.Words.{has_bytes, is_word_byte, runs}
use Rattle.hac_words.proofs.listing.runs_of.Goals as goal

pub returns : goal.returns
returns c =
    let made = items_from_collect _ c.collect.ensures.ran
    (YieldsList-from_map _ (λ run. run)
    (YieldsList-at c.map.ensures.source
    (YieldsList-from_filter _ has_bytes
    (YieldsList-at c.filter.ensures.source
    (YieldsList-from_slice_split _ (λ b. not (is_word_byte b)) c.args.text.now c.split.ensures.rest c.split.ensures.done c.split.ensures.closure (λ x b q k. search rules)))
    c.filter.ensures.closure (λ x b q k. search rules)))
    c.map.ensures.closure (λ x b q k. search rules)) in
    subst (λ found. IfOk c.collect.result (λ items. items.items ≡ found)) (map-id (runs c.args.text.now)) made
