use Rattle.std.proofs.Common.{◌∙◌}
use Rattle.hac_model.proofs.NameOrderLemmas.{searched-among}
use Rattle.sorted_lists.proofs.names.has_name.Goals as goal

pub returns : goal.returns
returns c = λ rise. c.is_ok.ensures.value ∙ searched-among c.args.names.now c.args.name.now c.binary_search.result c.binary_search.ensures.position rise
