use Rattle.std.proofs.Common.{◌≡◌, ◌<◌, ◌||◌, ℕ, drop, length}
use Rattle.std.specs.Prelude.{nat_eq}
use Rattle.std.specs.List.{list_any}
use Rattle.sem_mounts.specs.WordLists.{is_marked}
use Rattle.sem_mounts.proofs.word_lists.mark.Given as goal

-- the marks so far, and those of the numbers that are left
abbrev pub invariant-loop-number : goal.invariant-loop-number
invariant-loop-number l =
    (length l.marks.items ≡ length l.initial.marks.items)
    × ((n : ℕ) → n < length l.initial.marks.items →
    (list_any (nat_eq n) (drop l.number-index l.numbers) || is_marked l.marks.items n)
    ≡ (list_any (nat_eq n) l.numbers || is_marked l.initial.marks.items n))
