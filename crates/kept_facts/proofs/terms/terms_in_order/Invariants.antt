use Rattle.std.proofs.Common.{vec_len}
use Rattle.kept_facts.proofs.UseLemmas.{IsOrdering}
use Rattle.kept_facts.proofs.terms.terms_in_order.Given as goal

abbrev pub invariant-terms : goal.invariant-terms
invariant-terms l = IsOrdering l.fn.terms.items l.terms.items l.ordered.items

abbrev pub decreases-terms : goal.decreases-terms
decreases-terms l = vec_len l.terms
