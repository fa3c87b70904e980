use Rattle.std.proofs.Common.{List, ℕ, ◌≡◌, IfOk, sym, subst}
use Rattle.tree_answers.proofs.QuestionLemmas.{same-named}
use Rattle.tree_answers.proofs.asking.documents_named.Goals as goal

pub returns : goal.returns
returns c =
    subst (λ (ns : List ℕ). IfOk c.documents_named.result (λ numbers. numbers ≡ ns))
    (sym (same-named c.args.kept.now.state c.tree.result.now.state c.tree.ensures.tree.bares c.args.mount c.args.names.now))
    c.documents_named.ensures
