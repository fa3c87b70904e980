use Rattle.std.proofs.Common.{subst}
use Rattle.kept_state.specs.Readers.{IsTreeOf}
use Rattle.kept_state.proofs.ReaderLemmas.{tree-of}
use Rattle.kept_state.specs.Seen.{Seen}
use Rattle.hac_model.specs.Tree.Valid.{IsValid}
use Rattle.kept_state.proofs.kept.KeptState.tree.Goals as goal

pub returns-clause-tree : goal.returns-clause-tree
returns-clause-tree c = subst (λ (x : Seen). IsTreeOf x.state c.self.inside.parts.tree.state) c.self.view_is (tree-of c.self.inside.parts c.self.invariant.linked)

pub returns-clause-valid : goal.returns-clause-valid
returns-clause-valid c = subst (λ (x : Seen). IsValid x.state) c.self.view_is c.self.invariant.linked.valid
