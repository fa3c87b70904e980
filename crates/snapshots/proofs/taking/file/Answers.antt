use Rattle.std.proofs.Common.{◌≡◌, Some, sym, ◌∙◌}
use Rattle.std.specs.Prelude.{option_and_then}
use Rattle.hac_model.specs.Tree.{body_at, text_in}
use Rattle.hac_model.specs.declared.states.Body.TheVariants.{File}
use Rattle.kept_state.proofs.StateLemmas.{same-file, same-shown}
use Rattle.snapshots.proofs.PartLemmas.{file-body, same-dirty, same-text}
use Rattle.snapshots.proofs.taking.file.Goals as goal

pub text-requires : goal.text-requires
text-requires c =
    let s = c.args.kept.now.state in
    sym (same-file s c.tree-tree.result.now.state c.tree-tree.ensures.tree.bares c.args.file) ∙ c.requires

pub returns-in-Ok : goal.returns-in-Ok
returns-in-Ok c =
    let s = c.args.kept.now.state in
    let t = c.tree-tree.result.now.state in
    let bares = c.tree-tree.ensures.tree.bares in
    let n = c.args.file in
    let is : option_and_then text_in (body_at s.entries n) ≡ Some c.text.result.now =
    same-text s t bares n ∙ c.text.ensures in
    let dirty = same-dirty s t bares n ∙ sym c.dirty-dirty.ensures in
    let shown = same-shown s t bares n ∙ sym c.shown.ensures ∙ sym c.in-Ok.ensures in
    file-body (body_at s.entries n) c.text.result.now is
    ∙ (λ i. Some (File (sym c.in_ok-text.ensures i) (dirty i) (shown i)))
