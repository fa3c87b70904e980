use Rattle.std.proofs.Common.{◌≡◌, ◌+◌, drop}
use Rattle.kept_facts.specs.Room.{numbers_in}
use Rattle.kept_facts.proofs.room.hold_few.Given as goal

-- what is left is the most without the numbers so far
abbrev pub invariant-lists : goal.invariant-lists
invariant-lists l = l.left + numbers_in l.lists ≡ l.most + numbers_in (drop l.list-index l.lists)
