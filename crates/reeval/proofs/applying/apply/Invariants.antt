use Rattle.std.specs.Prelude.{◌≡◌, ℕ, drop}
use Rattle.link_kinds.specs.Seen.{SameLinks}
use Rattle.reeval.specs.Settled.{HasRoom, verdict_in}
use Rattle.reeval.specs.Told.{news_on, told}
use Rattle.reeval.proofs.applying.apply.Given as goal

-- the rest makes of the links so far what all make of the first, and has room
abbrev pub invariant-loop-change : goal.invariant-loop-change
invariant-loop-change l =
    ((item dir : ℕ) → told (news_on item (drop l.change-index l.delta)) (verdict_in l.found item) dir ≡ told (news_on item l.delta) (verdict_in l.fn.found item) dir)
    × HasRoom l.found (drop l.change-index l.delta)
    × SameLinks l.fn.found l.found
