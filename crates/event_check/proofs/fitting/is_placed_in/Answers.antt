use Rattle.std.proofs.Common.{ap, sym, ◌∙◌}
use Rattle.std.specs.Prelude.{nat_lt}
use Rattle.hac_model.specs.Tree.Events.{is_placed}
use Rattle.hac_model.specs.declared.counts.Counts.{Counts}
use Rattle.hac_model.proofs.EventLemmas.{due}
use Rattle.event_check.proofs.fitting.is_placed_in.Goals as goal

pub returns-in-Step : goal.returns-in-Step
returns-in-Step c =
    let s = c.args.tree.now.state in
    ap (λ (k : Counts). nat_lt 0 k.dirty) c.counts.ensures.counts ∙ sym (due s.entries) ∙ sym (ap (is_placed s) c.in-Step.is)
