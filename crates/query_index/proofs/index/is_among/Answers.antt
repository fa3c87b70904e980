use Rattle.std.proofs.Common.{◌∙◌}
use Rattle.query_index.proofs.AskLemmas.{among}
use Rattle.query_index.proofs.index.is_among.Goals as goal

pub returns : goal.returns
returns c = c.is_ok.ensures.value ∙ among c.args.words.now c.args.word.now c.binary_search.result c.requires c.binary_search.ensures.bound c.binary_search.ensures.position
