use Rattle.std.proofs.Common.{◌∙◌}
use Rattle.hac_model.proofs.SortedLemmas.{searched-has}
use Rattle.sorted_lists.proofs.numbers.has_number.Goals as goal

pub returns : goal.returns
returns c = λ rise. c.is_ok.ensures.value ∙ searched-has c.args.numbers.now c.args.number c.binary_search.result c.binary_search.ensures.position rise
