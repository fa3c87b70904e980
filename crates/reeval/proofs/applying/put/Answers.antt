use Rattle.std.proofs.Common.{subst}
use Rattle.hac_model.specs.declared.marks.Kind.{Kind}
use Rattle.link_kinds.specs.Kinds.{with_kind}
use Rattle.link_kinds.specs.Seen.{ChangesDir, lists_in}
use Rattle.reeval.proofs.ApplyLemmas.{verdict-put}
use Rattle.reeval.proofs.applying.put.Goals as goal

pub returns-clause-verdicts : goal.returns-clause-verdicts
returns-clause-verdicts c =
    verdict-put c.args.found.now c.set_kind.new.self c.set_lent.new.self c.args.change.now.dir c.args.change.now.item c.args.change.now.verdict
    (subst (λ (kind : Kind). ChangesDir c.args.found.now c.set_kind.new.self c.args.change.now.dir (with_kind kind c.args.change.now.item (lists_in c.args.found.now c.args.change.now.dir))) c.kind.ensures c.set_kind.ensures.lists)
    c.set_lent.ensures.lists
