use Rattle.std.proofs.Common.{sym, ◌∙◌}
use Rattle.hac_model.specs.Tree.{entry_at}
use Rattle.hac_model.specs.declared.states.EntryKind.TheVariants.{File, Dir, Symlink, Semantic, Mount, Document}
use Rattle.snapshots.proofs.PartLemmas.{of-kind, some-body}
use Rattle.snapshots.proofs.taking.body.Goals as goal

pub file-requires : goal.file-requires
file-requires c =
    of-kind c.args.kept.now.state c.tree.result.now.state c.tree.ensures.tree.bares c.args.number File
    (sym c.kind.ensures ∙ c.in-File.is)

pub symlink-requires : goal.symlink-requires
symlink-requires c =
    of-kind c.args.kept.now.state c.tree.result.now.state c.tree.ensures.tree.bares c.args.number Symlink
    (sym c.kind.ensures ∙ c.in-Symlink.is)

pub semantic-requires : goal.semantic-requires
semantic-requires c =
    of-kind c.args.kept.now.state c.tree.result.now.state c.tree.ensures.tree.bares c.args.number Semantic
    (sym c.kind.ensures ∙ c.in-Semantic.is)

pub mount-requires : goal.mount-requires
mount-requires c =
    of-kind c.args.kept.now.state c.tree.result.now.state c.tree.ensures.tree.bares c.args.number Mount
    (sym c.kind.ensures ∙ c.in-Mount.is)

pub returns-in-Dir : goal.returns-in-Dir
returns-in-Dir c =
    of-kind c.args.kept.now.state c.tree.result.now.state c.tree.ensures.tree.bares c.args.number Dir
    (sym c.kind.ensures ∙ c.in-Dir.is) (some-body (entry_at c.args.kept.now.state.entries c.args.number) c.requires)

pub returns-in-Document : goal.returns-in-Document
returns-in-Document c =
    of-kind c.args.kept.now.state c.tree.result.now.state c.tree.ensures.tree.bares c.args.number Document
    (sym c.kind.ensures ∙ c.in-Document.is)
