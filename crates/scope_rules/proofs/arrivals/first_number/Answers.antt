use Rattle.std.proofs.Common.{arith}
use Rattle.std.proofs.lemmas.Bool.Decides.{nat_tests}
use Rattle.hac_model.proofs.LimitLemmas.{limits-within, most-numbers}
use Rattle.scope_rules.proofs.arrivals.first_number.Goals as goal

pub returns-clause-small : goal.returns-clause-small
returns-clause-small c = grind (arith, nat_tests, c.get.ensures, c.next_number.ensures.number, most-numbers c.args.tree.now.state (limits-within c.args.tree.now.state c.next_number.ensures.layout.limits))
