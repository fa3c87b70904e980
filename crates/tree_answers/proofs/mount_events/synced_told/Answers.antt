use Rattle.std.proofs.Common.{ap, sym, [], ◌++◌, ◌+◌, drop, map, ◌∙◌}
use Rattle.hac_model.specs.Run.Asks.{documents_named}
use Rattle.hac_model.specs.Tree.Mounting.{synced}
use Rattle.kept_state.proofs.StateLemmas.{same-mount}
use Rattle.tree_answers.proofs.NumberingLemmas.{synced-named-alike}
use Rattle.tree_answers.proofs.LoopLemmas.{made-more}
use Rattle.tree_answers.proofs.mount_events.synced_told.Goals as goal

pub synced_named-requires-clause-mount : goal.synced_named-requires-clause-mount
synced_named-requires-clause-mount c = sym (same-mount c.args.kept.now.state c.tree-tree.result.now.state c.tree-tree.ensures.tree.bares c.args.mount) ∙ c.requires.mount

pub loop-names-preserved : goal.loop-names-preserved
loop-names-preserved c =
    let s = c.args.kept.now.state in
    let t = c.tree-tree.result.now.state in
    let made = documents_named (synced s c.args.mount [] c.args.list.now) c.args.mount in
    (λ i. c.in_ok-push.ensures.items i ++ map made (drop (c.loop-names.names-index + 1) c.args.found.now))
    ∙ made-more made c.args.found.now c.loop-names.names-index c.loop-names.told.items c.names-item.result c.in_ok-synced_named.field-0 c.loop-names-test.true c.names-item.is
    (c.in_ok-synced_named.ensures
    ∙ ap (documents_named (synced t c.args.mount [] c.args.list.now) c.args.mount) c.as_slice.ensures
    ∙ sym (synced-named-alike s t c.args.mount c.args.list.now c.names-item.result c.tree-tree.ensures.tree.bares))
    c.loop-names.invariant
