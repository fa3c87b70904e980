use Rattle.std.proofs.Common.{subst}
use Rattle.kept_state.specs.Readers.{AreEdgesOf}
use Rattle.kept_state.proofs.KeptLemmas.{kept-edges}
use Rattle.kept_state.specs.Seen.{Seen}
use Rattle.hac_model.specs.Tree.Valid.{IsValid}
use Rattle.kept_state.proofs.kept.KeptState.graph.Goals as goal

pub returns-clause-edges : goal.returns-clause-edges
returns-clause-edges c = subst (λ (x : Seen). AreEdgesOf x.state c.self.inside.parts.graph) c.self.view_is (kept-edges c.self.inside.parts c.self.invariant.linked)

pub returns-clause-valid : goal.returns-clause-valid
returns-clause-valid c = subst (λ (x : Seen). IsValid x.state) c.self.view_is c.self.invariant.linked.valid
