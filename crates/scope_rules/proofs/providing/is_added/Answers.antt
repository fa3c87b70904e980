use Rattle.std.proofs.Common.{ap, sym, ◌∙◌}
use Rattle.hac_model.specs.Tree.Kinds.{is_permanent}
use Rattle.link_kinds.proofs.HasLemmas.{permanent-told}
use Rattle.scope_rules.proofs.providing.is_added.Goals as goal

pub returns : goal.returns
returns c = c.is_permanent.ensures ∙ ap is_permanent c.kind.ensures.kind ∙ sym (permanent-told c.args.marks.now c.kind.ensures.apart c.args.dir c.args.item)
