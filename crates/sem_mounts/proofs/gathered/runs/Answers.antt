-- The parts between other bytes, without those that have none.
use Rattle.std.proofs.Common.{not, rules}
use Rattle.std.proofs.lemmas.Iterator.Consumers.{YieldsList-at, YieldsList-from_filter}
use Rattle.std.proofs.lemmas.Iterator.Consumers.{map_from_collect}
use Rattle.std.proofs.lemmas.Iterator.Splits.{YieldsList-from_slice_split}
use Rattle.hac_model.specs.Query.Words.{has_bytes, is_word_byte}
use Rattle.sem_mounts.proofs.gathered.runs.Goals as goal

pub returns : goal.returns
returns c =
    map_from_collect _ c.collect.ensures.ran
    (YieldsList-from_filter _ has_bytes
    (YieldsList-at c.filter.ensures.source
    (YieldsList-from_slice_split _ (λ b. not (is_word_byte b)) c.args.text.now c.split.ensures.rest
    c.split.ensures.done c.split.ensures.closure (λ x b q k. search rules)))
    c.filter.ensures.closure (λ x b q k. search rules))
