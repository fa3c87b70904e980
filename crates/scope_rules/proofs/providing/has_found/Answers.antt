use Rattle.std.proofs.Common.{ap, sym, ◌∙◌}
use Rattle.hac_model.specs.Tree.Kinds.{is_transient}
use Rattle.link_kinds.proofs.HasLemmas.{transient-told}
use Rattle.scope_rules.proofs.providing.has_found.Goals as goal

pub returns : goal.returns
returns c = c.is_transient.ensures ∙ ap is_transient c.kind.ensures.kind ∙ sym (transient-told c.args.found.now c.kind.ensures.apart c.args.dir c.args.item)
