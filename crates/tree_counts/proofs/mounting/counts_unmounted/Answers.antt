use Rattle.std.proofs.Common.{◌≡◌, ℕ, [], length, ap, sym, ◌∙◌}
use Rattle.std.proofs.lemmas.List.{length-map}
use Rattle.std.specs.Prelude.{filter, ◌==◌}
use Rattle.hac_model.specs.Tree.Limits.{counts}
use Rattle.hac_model.specs.Tree.Listing.{children}
use Rattle.hac_model.specs.Tree.Mounting.{is_of_mount, without_such}
use Rattle.hac_model.specs.declared.counts.Counts.{Counts}
use Rattle.hac_model.specs.declared.states.Body.TheVariants.{Mount}
use Rattle.hac_model.specs.declared.states.Entry.{Entry}
use Rattle.entry_counts.specs.Counting.{plus, share_of}
use Rattle.entry_counts.proofs.CountingLemmas.{same-part}
use Rattle.tree_counts.proofs.TallyLemmas.{count, counts-unmounted, order-length}
use Rattle.tree_counts.proofs.mounting.counts_unmounted.Goals as goal

pub minus-requires : goal.minus-requires
minus-requires c =
    let s = c.args.tree.now.state in
    let h = c.small_counts.ensures.layout in
    let long : c.len-items.result ≡ count s h c.args.mount c.requires =
    c.len-items.ensures ∙ ap length c.children.ensures.numbers ∙ length-map (children s c.args.mount) (λ (e : Entry). e.number) ∙ order-length (filter (λ (e : Entry). e.parent == c.args.mount) s.entries) in
    let rest = counts (without_such (is_of_mount c.args.mount) s) in (
      rest,
      c.small_counts.ensures.counts ∙ sym (counts-unmounted s h c.args.mount c.requires)
          ∙ ap (λ (part : Counts). plus rest part) (sym (
          ap (λ (part : Counts). record part { items = c.len-items.result }) (c.of_mount.ensures.share [] [])
          ∙ ap (λ (k : ℕ). record (share_of (Mount [] [])) { items = k }) long)),
    )

pub returns : goal.returns
returns c =
    let s = c.args.tree.now.state in
    let h = c.small_counts.ensures.layout in
    let long : c.len-items.result ≡ count s h c.args.mount c.requires =
    c.len-items.ensures ∙ ap length c.children.ensures.numbers ∙ length-map (children s c.args.mount) (λ (e : Entry). e.number) ∙ order-length (filter (λ (e : Entry). e.parent == c.args.mount) s.entries) in
    let rest = counts (without_such (is_of_mount c.args.mount) s) in
    same-part c.minus.result rest (record c.of_mount.result { items = c.len-items.result }) (
    c.minus.ensures ∙ c.small_counts.ensures.counts ∙ sym (counts-unmounted s h c.args.mount c.requires)
    ∙ ap (λ (part : Counts). plus rest part) (sym (
    ap (λ (part : Counts). record part { items = c.len-items.result }) (c.of_mount.ensures.share [] [])
    ∙ ap (λ (k : ℕ). record (share_of (Mount [] [])) { items = k }) long)))
