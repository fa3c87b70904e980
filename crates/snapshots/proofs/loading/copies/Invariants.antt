use Rattle.std.proofs.Common.{◌≡◌, ◌++◌, drop}
use Rattle.snapshots.proofs.loading.copies.Given as goal

-- the copies so far, and the answers that are left
abbrev pub invariant-answers : goal.invariant-answers
invariant-answers l = l.copies.items ++ drop l.answer-index l.answers ≡ l.answers
