use Rattle.std.proofs.Common.{◌∙◌}
use Rattle.hac_model.proofs.SortedLemmas.{searched-has}
use Rattle.query_index.proofs.numbers.is_among.Goals as goal

pub returns : goal.returns
returns c = c.is_ok.ensures.value ∙ searched-has c.args.numbers.now c.args.number c.binary_search.result c.binary_search.ensures.position c.requires
