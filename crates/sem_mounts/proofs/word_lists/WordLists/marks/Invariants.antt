use Rattle.std.proofs.Common.{drop}
use Rattle.sem_mounts.proofs.OrderLemmas.{IsMarking}
use Rattle.sem_mounts.proofs.word_lists.WordLists.marks.Given as goal

-- the marks so far, and those of the words that are left
abbrev pub invariant-loop-word : goal.invariant-loop-word
invariant-loop-word l = IsMarking l.term l.count l.self (drop l.word-index l.word-items) l.marks.items
