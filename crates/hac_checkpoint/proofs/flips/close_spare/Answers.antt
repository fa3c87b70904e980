use Rattle.std.proofs.Common.{◌≡◌, true, IfSome, rules, [], ◌∷◌, sym, ◌∙◌, ap, subst, arith}
use Rattle.hac_disk.specs.Contents.{RangeWithin}
use Rattle.hac_disk.proofs.Moments.{then_run}
use Rattle.hac_checkpoint.specs.Flips.{HasRoot, HasSpareSlot, other_slot}
use Rattle.hac_checkpoint.specs.Roots.{gate_of, is_open}
use Rattle.hac_checkpoint.proofs.FlipLemmas.{closed, closing, read-open}
use Rattle.hac_checkpoint.proofs.WriteLemmas.{quiet-leaves, quiet-settled, stable-leaves, stable-settles, starts-head, within-quiet, within-run, within-stable}
use Rattle.hac_checkpoint.proofs.flips.close_spare.Goals as goal

pub returns : goal.returns
returns g c =
    let seen = g.D.Disk.seen in
    let live = c.args.live in
    let quiet = c.reads_open.ensures.quiet in
    let gate = gate_of (other_slot live.slot) in
    let opened : IfSome (seen c.args.disk.now).contents (λ f. true ≡ is_open (other_slot live.slot) f) = search rules in
    let written = rw (c.gate_place.ensures.place, c.other-slot.ensures) at c.write_stable.ensures.written in
    let run = rw (c.gate_place.ensures.place, c.other-slot.ensures) at c.write_stable.ensures.any_moment in
    let place = c.gate_place.ensures.place ∙ ap gate_of c.other-slot.ensures in
    let low = c.gate_place.ensures.most in
    record {
      filled = λ settled.
          stable-settles c.write_stable.result (HasRoot live) (HasSpareSlot live) gate (0 ∷ []) (seen c.reads_open.new.disk) (seen c.write_stable.new.disk)
          (quiet-settled (HasRoot live) (seen c.args.disk.now) (seen c.reads_open.new.disk) settled quiet)
          (λ file is has. let was = sym quiet.same ∙ is in closed live file (subst (λ s. RangeWithin s 0 64) was c.requires) has (read-open (other_slot live.slot) (seen c.args.disk.now).contents file was opened)) written c.write_stable.ensures.settled;
      any_moment = λ settled.
          then_run (seen c.args.disk.now) (seen c.reads_open.new.disk) (seen c.write_stable.new.disk) (HasRoot live)
          (quiet-leaves (HasRoot live) (seen c.args.disk.now) (seen c.reads_open.new.disk) (g.met.D.Disk.lawful c.args.disk.now) settled quiet)
          (stable-leaves (HasRoot live) (HasRoot live) gate 1 (seen c.reads_open.new.disk) (seen c.write_stable.new.disk)
          (quiet-settled (HasRoot live) (seen c.args.disk.now) (seen c.reads_open.new.disk) settled quiet)
          (λ file i is has torn. let was = sym quiet.same ∙ is in closing live file (subst (λ s. RangeWithin s 0 64) was c.requires) i has (read-open (other_slot live.slot) (seen c.args.disk.now).contents file was opened) torn) run);
      elsewhere =
          within-run gate 17 (seen c.args.disk.now) (seen c.reads_open.new.disk) (seen c.write_stable.new.disk)
          (within-quiet gate 17 (seen c.args.disk.now) (seen c.reads_open.new.disk) (g.met.D.Disk.lawful c.args.disk.now) quiet)
          (within-stable c.write_stable.result c.gate_place.result gate 17 (0 ∷ []) (seen c.reads_open.new.disk) (seen c.write_stable.new.disk)
          (omega (arith, place)) (omega (arith, place)) (starts-head (seen c.reads_open.new.disk).contents c.gate_place.result (rw quiet.same c.requires) (omega (arith, low)))
          c.write_stable.ensures.written c.write_stable.ensures.in_part c.write_stable.ensures.images c.write_stable.ensures.any_moment);
      attached = search rules;
      cause = search rules;
    }
