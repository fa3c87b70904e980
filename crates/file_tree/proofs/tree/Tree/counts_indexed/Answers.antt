use Rattle.std.proofs.Common.{refl, subst, sym, true}
use Rattle.hac_model.specs.Tree.Events.{indexed}
use Rattle.entry_counts.specs.Counting.{AreSmall}
use Rattle.entry_counts.proofs.CountingLemmas.{counts-small, file-share, part-told, told-edited}
use Rattle.file_tree.proofs.IndexedLemmas.{dirty-entry, indexed-share}
use Rattle.file_tree.proofs.tree.Tree.counts_indexed.Goals as goal
use Rattle.hac_model.proofs.KindLemmas.{role-indexed}

pub replaced-requires-clause-small : goal.replaced-requires-clause-small
replaced-requires-clause-small c = subst AreSmall (sym c.counts.ensures.counts) (counts-small c.args.self.now.state c.counts.ensures.layout)

pub replaced-requires-clause-part : goal.replaced-requires-clause-part
replaced-requires-clause-part c =
    let s = c.args.self.now.state in
    let (e, found, file, dirty) = dirty-entry s.entries c.args.file c.requires in
    let share = file-share s c.args.file e c.text.result.now _ c.kept_bytes.result true c.of_file-old.result found file dirty c.text.ensures c.shown.ensures c.kept_bytes.ensures.file_bytes c.of_file-old.ensures.share in
    part-told s c.counts.ensures.layout c.args.file e found c.counts.result c.of_file-old.result c.counts.ensures.counts share

pub returns : goal.returns
returns c =
    let s = c.args.self.now.state in
    let (e, found, file, dirty) = dirty-entry s.entries c.args.file c.requires in
    let share = file-share s c.args.file e c.text.result.now _ c.kept_bytes.result true c.of_file-old.result found file dirty c.text.ensures c.shown.ensures c.kept_bytes.ensures.file_bytes c.of_file-old.ensures.share in
    told-edited s c.counts.ensures.layout c.args.file e found c.counts.result c.of_file-old.result c.counts.ensures.counts share
    indexed c.replaced.result c.of_file.result role-indexed (indexed-share s.entries c.args.file e c.text.result.now _ c.of_file.result found file c.text.ensures refl c.of_file.ensures.share) c.replaced.ensures
