use Rattle.std.proofs.Common.{◌≡◌, ◌+◌, drop}
use Rattle.kept_facts.specs.Room.{documents_in}
use Rattle.kept_facts.proofs.room.documents_in.Given as goal

-- the documents so far, and those of the answers from here on, are all
abbrev pub invariant-answers : goal.invariant-answers
invariant-answers l = l.count + documents_in (drop l.answer-index l.answers) ≡ documents_in l.answers
