use Rattle.std.proofs.Common.{◌⊎◌, [], ◌∷◌, subst}
use Rattle.hac_disk.specs.Contents.{RangeWithin}
use Rattle.hac_checkpoint.specs.Flips.{HasRoot, IsFilled, next_root, other_slot}
use Rattle.hac_checkpoint.specs.Roots.{gate_of}
use Rattle.hac_checkpoint.proofs.FlipLemmas.{opened, opening}
use Rattle.hac_checkpoint.proofs.WriteLemmas.{stable-leaves, stable-settles}
use Rattle.hac_checkpoint.proofs.flips.open_root.Goals as goal

pub returns-clause-opened : goal.returns-clause-opened
returns-clause-opened g c start high settled =
    let seen = g.D.Disk.seen in
    let live = c.args.live in
    stable-settles c.write_stable.result (IsFilled live start) (HasRoot (next_root live start)) (gate_of (other_slot live.slot)) (1 ∷ []) (seen c.args.disk.now) (seen c.write_stable.new.disk) settled
    (λ file is filled. opened live file (subst (λ s. RangeWithin s 0 64) is c.requires) start high filled) (rw (c.gate_place.ensures.place, c.other.ensures) at c.write_stable.ensures.written) c.write_stable.ensures.settled

pub returns-clause-any_moment : goal.returns-clause-any_moment
returns-clause-any_moment g c start high settled =
    let seen = g.D.Disk.seen in
    let live = c.args.live in
    stable-leaves (IsFilled live start) (λ i. HasRoot live i ⊎ HasRoot (next_root live start) i) (gate_of (other_slot live.slot)) 1 (seen c.args.disk.now) (seen c.write_stable.new.disk) settled
    (λ file i is filled torn. opening live file (subst (λ s. RangeWithin s 0 64) is c.requires) start i high filled torn) (rw (c.gate_place.ensures.place, c.other.ensures) at c.write_stable.ensures.any_moment)
