use Rattle.std.proofs.Common.{◌++◌, flat_map, ℕ, List, ap, ◌∙◌}
use Rattle.std.specs.Vec.Iter.{into_iter_items}
use Rattle.hac_model.specs.Payload.States.{snapshot_of}
use Rattle.hac_model.specs.declared.snapshots.StoredEntry.{StoredEntry}
use Rattle.snapshots.specs.Taking.{stored_at}
use Rattle.snapshots.proofs.TakingLemmas.{stored-all}
use Rattle.snapshots.proofs.taking.stored_entries.Goals as goal

pub loop-number-init : goal.loop-number-init
unfolding snapshot_of
loop-number-init c =
    let s = c.args.kept.now.state in
    let left : List ℕ = into_iter_items c.into_iter-number-iterator.result in
    ap (λ (xs : List StoredEntry). xs ++ flat_map (stored_at s) left) c.new-entries.ensures.items
    ∙ ap (λ (ns : List ℕ). flat_map (stored_at s) ns)
    (c.into_iter-number-iterator.ensures.into_iter_gives.0 ∙ c.in_ok-number-items.ensures)
    ∙ stored-all s c.know_valid.ensures.layout.numbers
