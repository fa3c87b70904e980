use Rattle.std.proofs.Common.{sym, ◌∙◌}
use Rattle.entry_counts.proofs.CountingLemmas.{file-share}
use Rattle.tree_counts.proofs.ShareLemmas.{dirty-of, file-of}
use Rattle.tree_counts.proofs.counting.share_of_file.Goals as goal

pub returns : goal.returns
returns c = λ e found.
    let s = c.args.tree.now.state in
    let file = sym (file-of s.entries c.args.file e found) ∙ c.requires in
    let stale = sym (c.dirty.ensures ∙ dirty-of s.entries c.args.file e found) in
    file-share s c.args.file e c.text.result.now _ c.kept_bytes.result c.dirty.result c.of_file.result found file stale c.text.ensures c.shown.ensures c.kept_bytes.ensures.file_bytes c.of_file.ensures.share
