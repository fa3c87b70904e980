-- Theorems over the definitions alone.
use Rattle.std.specs.Prelude.{◌≡◌, ◌||◌, ℕ, false, true, IsTrue}
use Rattle.hac_model.specs.Tree.Events.{accepted, apply}
use Rattle.hac_model.specs.Tree.Links.{is_semantic}
use Rattle.hac_model.specs.Tree.Touched.{begins, is_the, tied, touches}
use Rattle.hac_model.specs.Tree.Valid.{IsValid}
use Rattle.hac_model.specs.declared.events.Event.{Event}
use Rattle.hac_model.specs.declared.states.State.{State}
use Rattle.link_kinds.specs.Seen.{Known, LinkListsRise}
use Rattle.reeval.specs.Settled.{AreLinksOf, verdict_in}
use Rattle.reeval.specs.Judging.{AreJudged, LeavesAlike, TiesAlike, is_linked, judgement, verdict_of}
use Rattle.reeval.specs.declared.verdicts.Verdict.{Verdict}

-- the links of a valid state are its judgements by these links
abbrev pub LinksAreJudged : Type 0
LinksAreJudged = (s : State) → IsValid s → (item : ℕ) → AreJudged s item

-- and no other verdicts on an item are
abbrev pub VerdictsAreOnly : Type 0
VerdictsAreOnly =
    (s : State) → IsValid s → (item : ℕ) (verdicts : ℕ → Verdict) → ((dir : ℕ) → verdicts dir ≡ judgement s (is_linked verdicts) item dir)
    → (dir : ℕ) → verdicts dir ≡ verdict_of s item dir

-- links that say of each item what those of a valid state do are those of the state
abbrev pub ToldLinksAreKept : Type 0
ToldLinksAreKept =
    (s : State) (known : Known) → IsValid s → LinkListsRise known → ((item dir : ℕ) → verdict_in known item dir ≡ verdict_of s item dir) → AreLinksOf s known

-- what is semantic neither before nor after says nothing of any item, and depends on nothing
abbrev pub TouchedLeaveAlike : Type 0
TouchedLeaveAlike = (s t : State) (item : ℕ) → LeavesAlike s t (λ dir. is_semantic s dir || is_semantic t dir) item

-- an event changes what a directory says of an item only where it touches the item, where judging begins, or where a
-- directory on which that one depends provides another item
abbrev pub EventsLeaveAlike : Type 0
EventsLeaveAlike =
    (s : State) (event : Event) → IsValid s → IsTrue (accepted s event) → (item : ℕ) → touches s event item ≡ false →
    LeavesAlike s (apply s event) (begins s event) item

-- the directory to which an event adds another, or from which it takes one, finds what it found as long as those on which it
-- depends provide what they did
abbrev pub TiesLeaveAlike : Type 0
TiesLeaveAlike =
    (s : State) (event : Event) → IsValid s → IsTrue (accepted s event) → (item : ℕ) → touches s event item ≡ false →
    (dir : ℕ) → is_the (tied s event) dir ≡ true → TiesAlike s (apply s event) (begins s event) item dir
