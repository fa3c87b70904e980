use Rattle.std.proofs.Common.{◌≡◌, length}
use Rattle.std.specs.Prelude.{sum_by, take}
use Rattle.layout_check.specs.Bounded.{bounded}
use Rattle.state_check.proofs.counting.documents_in.Given as goal

-- as many as those seen have
abbrev pub invariant-loop-answer : goal.invariant-loop-answer
invariant-loop-answer l = l.count ≡ bounded (sum_by (λ answer. length answer.documents) (take l.answer-index l.answers))
