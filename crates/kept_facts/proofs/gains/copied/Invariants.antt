use Rattle.std.proofs.Common.{◌≡◌, ◌++◌, drop}
use Rattle.kept_facts.proofs.gains.copied.Given as goal

-- the copies so far, and what is still to be copied, are all
abbrev pub invariant-answers : goal.invariant-answers
invariant-answers l = l.copies.items ++ drop l.answer-index l.answers ≡ l.fn.answers
