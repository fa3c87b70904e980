use Rattle.std.proofs.Common.{drop}
use Rattle.hac_model.specs.Tree.Mounting.{is_of_mount, is_such_at}
use Rattle.kept_state.proofs.ForgetLemmas.{IsForgetting}
use Rattle.kept_state.proofs.forgetting.forget_mount.Given as goal

abbrev pub invariant-documents : goal.invariant-documents
invariant-documents l =
    IsForgetting l.tree.state l.fn.mount (is_such_at (is_of_mount l.fn.mount) l.tree.state.entries) (drop l.place l.documents) l.fn.marks l.marks
