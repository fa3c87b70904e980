use Rattle.std.proofs.Common.{ap, ◌∙◌}
use Rattle.hac_model.specs.Tree.Events.{next_dirty}
use Rattle.file_tree.proofs.DirtyLemmas.{behind-root}
use Rattle.file_tree.proofs.tree.Tree.next_dirty.Goals as goal

pub returns-clause-next : goal.returns-clause-next
returns-clause-next c =
    let s = c.args.self.now.state in
    c.next_dirty_behind.ensures.next ∙ ap next_dirty (behind-root 0 s.entries s.next c.know_layout.ensures.layout.numbers)
