-- `any` over the parts answers what `list_any` does.
use Rattle.std.proofs.Common.{rules, tests}
use Rattle.std.proofs.lemmas.Iterator.Search.{any_from_yields_List}
use Rattle.std.proofs.lemmas.Iterator.Splits.{YieldsList-from_slice_split}
use Rattle.hac_model.specs.Script.PathWords.{is_long}
use Rattle.hac_names.proofs.reading.has_long_part.Goals as goal

pub returns : goal.returns
returns c =
    any_from_yields_List is_long _ _ _ c.any.ensures.ran
    (YieldsList-from_slice_split _ _ c.args.bytes.now c.split.ensures.rest c.split.ensures.done c.split.ensures.closure (λ x r q k. search (rules, tests)))
    (λ x b q k. search (rules, tests))
