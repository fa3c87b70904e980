use Rattle.std.proofs.Common.{subst, sym, ap, ◌∙◌}
use Rattle.hac_model.specs.Tree.Limits.{counts}
use Rattle.kept_state.specs.Parts.{state_of}
use Rattle.kept_state.proofs.StateLemmas.{kept-bares, same-counts}
use Rattle.kept_state.specs.Seen.{Seen}
use Rattle.hac_model.specs.Tree.Valid.{IsValid}
use Rattle.kept_state.proofs.kept.KeptState.counts.Goals as goal

pub returns-clause-counts : goal.returns-clause-counts
returns-clause-counts c =
    let parts = c.self.inside.parts in
    c.counts.ensures.counts ∙ sym (same-counts (state_of parts) parts.tree.state (kept-bares parts)) ∙ ap (λ (x : Seen). counts x.state) c.self.view_is

pub returns-clause-valid : goal.returns-clause-valid
returns-clause-valid c = subst (λ (x : Seen). IsValid x.state) c.self.view_is c.self.invariant.linked.valid
