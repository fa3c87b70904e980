use Rattle.std.proofs.Common.{◌≡◌, ◌+◌, ◌≤◌, ℕ, false, drop}
use Rattle.std.specs.Prelude.{◌==◌}
use Rattle.link_kinds.specs.Seen.{SameLinks, lists_in}
use Rattle.snapshots.specs.Loading.{marked_all}
use Rattle.snapshots.proofs.loading.mark_all.Given as goal

-- the marks so far, and those that are left
abbrev pub invariant-loop-number : goal.invariant-loop-number
invariant-loop-number l = record {
  here : marked_all l.kind (drop l.number-index l.numbers) (lists_in l.marks l.dir) ≡ marked_all l.kind l.numbers (lists_in l.initial.marks l.dir);
  others : (d : ℕ) → (d == l.dir) ≡ false → lists_in l.marks d ≡ lists_in l.initial.marks d;
  sets : SameLinks l.initial.marks l.marks;
  room : l.initial.marks.spare ≤ l.marks.spare + l.number-index;
}
