use Rattle.reeval.proofs.LinkedLemmas.{links-told}
use Rattle.reeval.proofs.laws.told_links_are_kept.Goals as goal

pub returns : goal.returns
returns c = links-told
