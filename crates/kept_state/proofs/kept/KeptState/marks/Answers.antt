use Rattle.std.proofs.Common.{subst}
use Rattle.kept_state.specs.Readers.{AreMarksOf}
use Rattle.kept_state.proofs.ReaderLemmas.{marks-of}
use Rattle.kept_state.specs.Seen.{Seen}
use Rattle.hac_model.specs.Tree.Valid.{IsValid}
use Rattle.kept_state.proofs.kept.KeptState.marks.Goals as goal

pub returns-clause-marks : goal.returns-clause-marks
returns-clause-marks c = subst (λ (x : Seen). AreMarksOf x.state c.self.inside.parts.marks) c.self.view_is (marks-of c.self.inside.parts c.self.invariant.linked)

pub returns-clause-valid : goal.returns-clause-valid
returns-clause-valid c = subst (λ (x : Seen). IsValid x.state) c.self.view_is c.self.invariant.linked.valid
