use Rattle.std.specs.Prelude.{filter, not, take}
use Rattle.query_index.specs.Asking.{is_listed}
use Rattle.query_index.specs.Inner.{Meets}
use Rattle.query_index.proofs.index.QueryIndex.meet_beyond.Given as goal

abbrev pub invariant-loop-word : goal.invariant-loop-word
invariant-loop-word l = Meets l.self (filter (λ word. not (is_listed l.others word)) (take l.word-index l.words)) l.fn.met l.met
