use Rattle.std.proofs.Common.{◌∙◌}
use Rattle.tree_answers.specs.Asked.{atom_told}
use Rattle.tree_answers.proofs.FindingLemmas.{judged-as}
use Rattle.tree_answers.proofs.telling.satisfies_told.Goals as goal

pub returns-clause-satisfies : goal.returns-clause-satisfies
returns-clause-satisfies g c =
    let told = c.args.told.now in
    c.judge.ensures.meaning ∙ judged-as (atom_told told.linked.now.state told.questions.now told.documents.now) told.linked.now.state c.args.query.now c.args.item
