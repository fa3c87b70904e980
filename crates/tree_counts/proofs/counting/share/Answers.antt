use Rattle.std.proofs.Common.{[], refl, sym, ◌∙◌}
use Rattle.hac_model.specs.declared.states.Body.TheVariants as body
use Rattle.tree_counts.proofs.ShareLemmas.{file-kind, kind-of, kind-share, semantic-share}
use Rattle.tree_counts.proofs.counting.share.Goals as goal

pub share_of_file-requires : goal.share_of_file-requires
share_of_file-requires c = file-kind c.args.tree.now.state.entries c.args.entry (sym c.kind.ensures ∙ c.in-File.is)

pub returns-in-Dir : goal.returns-in-Dir
returns-in-Dir c = λ e found.
    c.of_directory.ensures.share
    ∙ kind-share body.Dir e.body (sym c.in-Dir.is ∙ c.kind.ensures ∙ kind-of c.args.tree.now.state.entries c.args.entry e found) refl

pub returns-in-Symlink : goal.returns-in-Symlink
returns-in-Symlink c = λ e found.
    c.of_symlink.ensures.share []
    ∙ kind-share (body.Symlink []) e.body (sym c.in-Symlink.is ∙ c.kind.ensures ∙ kind-of c.args.tree.now.state.entries c.args.entry e found) refl

pub returns-in-Semantic : goal.returns-in-Semantic
returns-in-Semantic c = λ e found.
    semantic-share e.body c.of_semantic.result (sym (kind-of c.args.tree.now.state.entries c.args.entry e found) ∙ sym c.kind.ensures ∙ c.in-Semantic.is) c.of_semantic.ensures.share

pub returns-in-Mount : goal.returns-in-Mount
returns-in-Mount c = λ e found.
    c.of_mount.ensures.share [] []
    ∙ kind-share (body.Mount [] []) e.body (sym c.in-Mount.is ∙ c.kind.ensures ∙ kind-of c.args.tree.now.state.entries c.args.entry e found) refl

pub returns-in-Document : goal.returns-in-Document
returns-in-Document c = λ e found.
    c.of_document.ensures.share
    ∙ kind-share body.Document e.body (sym c.in-Document.is ∙ c.kind.ensures ∙ kind-of c.args.tree.now.state.entries c.args.entry e found) refl
