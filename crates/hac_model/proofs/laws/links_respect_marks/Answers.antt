use Rattle.hac_model.proofs.MarkLawLemmas.{added-provided, found-indexed, lent-provided, links-unmarked, removed-not_provided}
use Rattle.hac_model.proofs.laws.links_respect_marks.Goals as goal

pub returns-clause-unmarked : goal.returns-clause-unmarked
returns-clause-unmarked c = links-unmarked

pub returns-clause-found : goal.returns-clause-found
returns-clause-found c = found-indexed

pub returns-clause-added : goal.returns-clause-added
returns-clause-added c = added-provided

pub returns-clause-lent : goal.returns-clause-lent
returns-clause-lent c = lent-provided

pub returns-clause-removed : goal.returns-clause-removed
returns-clause-removed c = removed-not_provided
