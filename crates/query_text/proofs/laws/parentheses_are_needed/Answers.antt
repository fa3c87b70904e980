use Rattle.query_text.proofs.LeastLemmas.{fewest}
use Rattle.query_text.proofs.laws.parentheses_are_needed.Goals as goal

pub returns : goal.returns
returns c = fewest
