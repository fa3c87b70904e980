-- What a crash at any moment leaves, as one call after another goes on.
use Rattle.std.proofs.Common.{inl, inr, ⊎_elim, ℕ, List, ◌∙◌, arith}
use Rattle.hac_disk.specs.Images.{Elapses, IsQuiet, LeavesOnly}
use Rattle.hac_disk.specs.Seen.{DiskSeen}

-- before the first call
pub started : (old : DiskSeen) (P : List ℕ → Type 0) → ((c : List ℕ) → old.image_since old.moment c → P c) → LeavesOnly old old P
started old P here = record { later = omega arith; each = here; before = λ t c le left. inl left }

-- one write more, after which an image has P
pub then_write : (old mid new : DiskSeen) (P : List ℕ → Type 0) → LeavesOnly old mid P → Elapses mid new
    → ((c : List ℕ) → new.image c → P c) → LeavesOnly old new P
then_write old mid new P so_far time here = record {
  later = omega (arith, so_far.later, time.later);
  each = λ c left. ⊎_elim (so_far.each c) (here c) (time.nothing_else old.moment c so_far.later left);
  before = λ t c le left. ⊎_elim (so_far.before t c le) (λ now. inr (here c now)) (time.nothing_else t c (omega (arith, le, so_far.later)) left);
}

-- one quiet call more
pub then_quiet : (old mid new : DiskSeen) (P : List ℕ → Type 0) → LeavesOnly old mid P → IsQuiet mid new → LeavesOnly old new P
then_quiet old mid new P so_far quiet = record {
  later = omega (arith, so_far.later, quiet.later);
  each = λ c left. so_far.each c (quiet.past old.moment c so_far.later left);
  before = λ t c le left. so_far.before t c le (quiet.past t c (omega (arith, le, so_far.later)) left);
}

-- one run after another
pub then_run : (old mid new : DiskSeen) (P : List ℕ → Type 0) → LeavesOnly old mid P → LeavesOnly mid new P → LeavesOnly old new P
then_run old mid new P first second = record {
  later = omega (arith, first.later, second.later);
  each = λ c left. ⊎_elim (first.each c) (λ p. p) (second.before old.moment c first.later left);
  before = λ t c le left. ⊎_elim (first.before t c le) (λ p. inr p) (second.before t c (omega (arith, le, first.later)) left);
}

-- what has P has Q
pub weaken : (old new : DiskSeen) (P Q : List ℕ → Type 0) → ((c : List ℕ) → P c → Q c) → LeavesOnly old new P → LeavesOnly old new Q
weaken old new P Q then_q run = record {
  later = run.later;
  each = λ c left. then_q c (run.each c left);
  before = λ t c le left. ⊎_elim (λ past. inl past) (λ p. inr (then_q c p)) (run.before t c le left);
}

-- two quiet calls are one
pub quiet_twice : (old mid new : DiskSeen) → IsQuiet old mid → IsQuiet mid new → IsQuiet old new
quiet_twice old mid new first second = record {
  same = second.same ∙ first.same;
  images = λ c left. first.images c (second.images c left);
  later = omega (arith, first.later, second.later);
  past = λ t c le left. first.past t c le (second.past t c (omega (arith, le, first.later)) left);
  keeps = λ t c le left. second.keeps t c (omega (arith, le, first.later)) (first.keeps t c le left);
}

-- one quiet call, where an image at its begin has P
pub quiet_leaves : (old new : DiskSeen) (P : List ℕ → Type 0) → ((c : List ℕ) → old.image_since old.moment c → P c) → IsQuiet old new → LeavesOnly old new P
quiet_leaves old new P here quiet = then_quiet old old new P (started old P here) quiet
