use Rattle.std.proofs.Common.{drop}
use Rattle.hac_model.specs.Tree.Mounting.{is_gone, is_such_at}
use Rattle.kept_state.proofs.ForgetLemmas.{IsForgetting}
use Rattle.kept_state.proofs.forgetting.forget_gone.Given as goal

abbrev pub invariant-documents : goal.invariant-documents
invariant-documents l =
    IsForgetting l.tree.state l.fn.mount (is_such_at (is_gone l.fn.mount l.fn.names) l.tree.state.entries) (drop l.place l.documents) l.fn.marks l.marks
