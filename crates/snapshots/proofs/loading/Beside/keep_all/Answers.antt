use Rattle.std.proofs.Common.{◌≡◌, ◌+◌, ◌∷◌, ◌++◌, ℕ, List, drop, ap, subst, ◌∙◌}
use Rattle.hac_model.specs.Tree.{is_directory_at}
use Rattle.hac_model.specs.declared.states.Entry.{Entry}
use Rattle.hac_model.proofs.SortedLemmas.{drop-next}
use Rattle.layout_check.specs.Rising.{DoRise}
use Rattle.snapshots.specs.Loading.{AreSoundMarks}
use Rattle.snapshots.proofs.BesideLemmas.{kept-more, next-new}
use Rattle.snapshots.proofs.loading.Beside.keep_all.Goals as goal

pub loop-entry-preserved : goal.loop-entry-preserved
loop-entry-preserved c =
    let all : List Entry = c.args.entries.now in
    let h = c.loop-entry.invariant in
    let i : ℕ = c.loop-entry.entry-index in
    let e : Entry = c.entry-item.result in
    let split : all ≡ h.taken ++ e ∷ drop (i + 1) all = h.split ∙ ap (λ (es : List Entry). h.taken ++ es) (drop-next all i e c.loop-entry-test.true c.entry-item.is) in
    kept-more (is_directory_at all) all (drop (i + 1) all) e c.keep.new.self h.taken split
    (c.in_ok-keep.ensures h.taken
    (next-new h.taken (drop (i + 1) all) e (subst (λ (es : List Entry). DoRise es) split c.requires.rise) (subst (λ (es : List Entry). AreSoundMarks es) split c.requires.sound)) h.kept)
