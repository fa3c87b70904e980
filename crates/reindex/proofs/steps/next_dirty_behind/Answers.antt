use Rattle.std.proofs.Common.{sym, ◌∙◌}
use Rattle.file_tree.specs.Answers.{entries_behind}
use Rattle.hac_model.specs.Tree.Events.{next_dirty}
use Rattle.kept_state.proofs.StateLemmas.{alike}
use Rattle.reindex.proofs.StepLemmas.{next-bare, next-behind}
use Rattle.reindex.proofs.steps.next_dirty_behind.Goals as goal

pub returns : goal.returns
returns c =
    let s = c.args.kept.now.state in
    c.next_dirty_behind.ensures.next
    ∙ sym (alike s c.tree.result.now.state c.tree.ensures.tree.bares (λ s. next_dirty (entries_behind c.args.last s.entries)) (λ s. next-bare c.args.last s))
    ∙ sym (next-behind c.args.last s.entries)
