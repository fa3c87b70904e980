use Rattle.std.proofs.Common.{ap, sym, [], ◌++◌, ◌+◌, drop, map, ◌∙◌}
use Rattle.hac_model.specs.Run.Asks.{documents_named}
use Rattle.hac_model.specs.Tree.Mounting.{mounted}
use Rattle.tree_answers.proofs.NumberingLemmas.{mounted-named-alike}
use Rattle.tree_answers.proofs.LoopLemmas.{made-more}
use Rattle.tree_answers.proofs.mount_events.mounted_told.Goals as goal

pub loop-names-preserved : goal.loop-names-preserved
loop-names-preserved c dir name space =
    let s = c.args.kept.now.state in
    let t = c.tree-tree.result.now.state in
    let made = documents_named (mounted s dir name space [] c.args.list.now) s.next in
    (λ i. c.in_ok-push.ensures.items i ++ map made (drop (c.loop-names.names-index + 1) c.args.found.now))
    ∙ made-more made c.args.found.now c.loop-names.names-index c.loop-names.told.items c.names-item.result c.in_ok-mounted_named.field-0 c.loop-names-test.true c.names-item.is
    (c.in_ok-mounted_named.ensures dir name space
    ∙ ap (documents_named (mounted t dir name space [] c.args.list.now) t.next) c.as_slice.ensures
    ∙ sym (mounted-named-alike s t dir name space c.args.list.now c.names-item.result c.tree-tree.ensures.tree.bares))
    (c.loop-names.invariant dir name space)
