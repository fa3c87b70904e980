use Rattle.std.proofs.Common.{◌+◌, ◌∙◌, ap, subst, arith, rules}
use Rattle.hac_disk.specs.Contents.{RangeWithin}
use Rattle.hac_checkpoint.specs.Flips.{HasRoot, HasSpareSlot, IsFilled, other_slot}
use Rattle.hac_checkpoint.specs.Roots.{gate_of}
use Rattle.hac_checkpoint.proofs.FlipLemmas.{filled, filling, length-body}
use Rattle.hac_checkpoint.proofs.WriteLemmas.{stable-leaves, stable-settles, starts-head, within-stable}
use Rattle.hac_checkpoint.proofs.flips.fill_spare.Goals as goal

pub returns : goal.returns
returns g c =
    let seen = g.D.Disk.seen in
    let live = c.args.live in
    let gate = gate_of (other_slot live.slot) in
    let long = length-body live.generation c.args.start c.slot_body-body.result c.slot_body-body.ensures in
    let written = rw (c.gate_place.ensures.place, c.other.ensures) at c.write_stable.ensures.written in
    let run = rw (c.gate_place.ensures.place, c.other.ensures, long) at c.write_stable.ensures.any_moment in
    let place = c.gate_place.ensures.place ∙ ap gate_of c.other.ensures in
    let low = c.gate_place.ensures.most in
    record {
      filled = λ settled.
          stable-settles c.write_stable.result (HasSpareSlot live) (IsFilled live c.args.start) (gate + 1) c.slot_body-body.result (seen c.args.disk.now) (seen c.write_stable.new.disk) settled
          (λ file is has. filled live file (subst (λ s. RangeWithin s 0 64) is c.requires.head) c.args.start c.slot_body-body.result c.requires.generation c.ranges.start.fits c.slot_body-body.ensures has) written c.write_stable.ensures.settled;
      any_moment = λ settled.
          stable-leaves (HasSpareSlot live) (HasRoot live) (gate + 1) 16 (seen c.args.disk.now) (seen c.write_stable.new.disk) settled
          (λ file i is has torn. filling live file (subst (λ s. RangeWithin s 0 64) is c.requires.head) i has torn) run;
      elsewhere =
          within-stable c.write_stable.result (c.gate_place.result + 1) gate 17 c.slot_body-body.result (seen c.args.disk.now) (seen c.write_stable.new.disk)
          (omega (arith, place)) (omega (arith, place, long)) (starts-head (seen c.args.disk.now).contents (c.gate_place.result + 1) c.requires.head (omega (arith, low)))
          c.write_stable.ensures.written c.write_stable.ensures.in_part c.write_stable.ensures.images c.write_stable.ensures.any_moment;
      attached = search rules;
      cause = search rules;
    }
