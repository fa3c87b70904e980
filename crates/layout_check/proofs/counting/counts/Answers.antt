use Rattle.std.proofs.Common.{◌≡◌, List, ap, ◌∙◌}
use Rattle.hac_model.specs.Tree.Limits.{dirty_count, directory_count, file_count, item_count, long_paths}
use Rattle.hac_model.specs.Tree.Limits.{mount_count, semantic_count, symlink_count, text_size}
use Rattle.hac_model.specs.declared.states.Entry.{Entry}
use Rattle.layout_check.specs.Bounded.{bounded}
use Rattle.layout_check.proofs.counting.counts.Goals as goal

pub returns : goal.returns
returns c =
    let entries : List Entry = c.args.state.now.entries in
    let same : c.as_slice-entries.result.now ≡ entries = c.as_slice-entries.ensures in
    let bytes : c.text_size.result ≡ bounded (text_size entries) =
    c.text_size.ensures ∙ ap (λ (es : List Entry). bounded (text_size es)) same in
    let directories : c.directory_count.result ≡ directory_count entries =
    c.directory_count.ensures ∙ ap directory_count same in
    let semantics : c.semantic_count.result ≡ semantic_count entries =
    c.semantic_count.ensures ∙ ap semantic_count same in
    let mounts : c.mount_count.result ≡ mount_count entries = c.mount_count.ensures ∙ ap mount_count same in
    let symlinks : c.symlink_count.result ≡ symlink_count entries = c.symlink_count.ensures ∙ ap symlink_count same in
    let files : c.file_count.result ≡ file_count entries = c.file_count.ensures ∙ ap file_count same in
    let items : c.item_count.result ≡ item_count entries = c.item_count.ensures ∙ ap item_count same in
    let dirty : c.dirty_count.result ≡ dirty_count entries = c.dirty_count.ensures ∙ ap dirty_count same in
    let long_paths : c.long_paths.result ≡ long_paths entries = c.long_paths.ensures ∙ ap long_paths same in
    λ i. record {
      bytes = bytes i;
      directories = directories i;
      semantics = semantics i;
      mounts = mounts i;
      symlinks = symlinks i;
      files = files i;
      items = items i;
      dirty = dirty i;
      long_paths = long_paths i;
      next = c.get.ensures i;
    }
