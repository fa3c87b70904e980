use Rattle.std.proofs.Common.{◌≡◌, ℕ, subst}
use Rattle.hac_model.specs.declared.states.State.{State}
use Rattle.reeval.specs.Judging.{no_verdict, verdict_of}
use Rattle.reindex.proofs.UnjudgedLemmas.{said-none}
use Rattle.reindex.proofs.unjudged.Unjudged.know_none.Goals as goal

pub returns : goal.returns
returns c = subst (λ (u : State). (item dir : ℕ) → no_verdict ≡ verdict_of u item dir) c.self.view_is (said-none c.self.inside.kept.now.state c.self.invariant)
