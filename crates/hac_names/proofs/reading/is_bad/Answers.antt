-- `all` over the parts answers what `list_all` does.
use Rattle.std.proofs.Common.{◌≡◌, rules, tests, arith}
use Rattle.std.proofs.lemmas.Bool.Decides.{nat_tests}
use Rattle.std.specs.List.{list_all}
use Rattle.std.proofs.lemmas.Iterator.Search.{all_from_yields_List}
use Rattle.std.proofs.lemmas.Iterator.Splits.{YieldsList-from_slice_split}
use Rattle.hac_model.specs.Script.PathWords.{is_part, parts}
use Rattle.hac_names.proofs.reading.is_bad.Goals as goal

pub returns-else-is_empty : goal.returns-else-is_empty
returns-else-is_empty c =
    let e : c.all.result ≡ list_all is_part (parts c.args.bytes.now) =
    all_from_yields_List is_part _ _ _ c.all.ensures.ran
    (YieldsList-from_slice_split _ _ c.args.bytes.now c.split.ensures.rest c.split.ensures.done c.split.ensures.closure (λ x r q k. search (rules, tests)))
    (λ x b q k. search (rules, tests)) in
    grind (arith, nat_tests, e)
