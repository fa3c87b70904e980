-- What becomes of a store and of its disk as turns are stored and answered.
use Rattle.std.specs.Prelude.{◌≡◌, ◌⊎◌, ◌||◌, ◌≤◌, ◌+◌, ⊤, ℕ, Bool, false, List, [], ◌∷◌, length, Option, Result, Ok, Err, IfOk, IfErr, OnOk}
use Rattle.std.specs.Option.{IfSome}
use Rattle.hac_disk.specs.Images.{IsQuiet, IsSettled, LeavesOnly}
use Rattle.hac_disk.specs.Seen.{DiskSeen}
use Rattle.hac_outside.specs.Causes.{ReportsFault}
use Rattle.hac_outside.specs.Seen.{SinkSeen}
use Rattle.hac_model.specs.Run.Costs.{answering_line, lines_cost}
use Rattle.hac_model.specs.Run.Play.{AreAskable, MayFail, Setting, Turn, after_events, all_events, has_refusal, item_turn, left_by, turns, turns_text}
use Rattle.hac_model.specs.Script.Lines.{Item}
use Rattle.sem_mounts.specs.Seen.{Contents, SpacesSeen}
use Rattle.hac_top.specs.Asking.{HaveAsked, given_by}
use Rattle.hac_model.specs.Tree.Costs.{costs}
use Rattle.hac_model.specs.Tree.Events.{apply_all}
use Rattle.hac_model.specs.Tree.Sessions.{stored}
use Rattle.hac_model.specs.declared.events.Event.{Event}
use Rattle.hac_model.specs.declared.limits.LimitWord.TheVariants.{Store}
use Rattle.hac_model.specs.declared.replies.Refusal.TheVariants.{Limit}
use Rattle.hac_model.specs.declared.replies.Reply.{Reply}
use Rattle.hac_model.specs.declared.replies.Reply.TheVariants.{Lines, Refused}
use Rattle.hac_store.specs.Stores.{Bears, Seen, Stands}
use Rattle.hac_store.specs.declared.fault.StoreFault.{StoreFault}
use Rattle.hac_store.specs.declared.fault.StoreFault.TheVariants as fault
use Rattle.hac_top.specs.Crashes.{Holds, IsTreeAfter, IsTreeOfAnswered}
use Rattle.hac_top.specs.Ends.{is_disk_fault, met_disk_fault, store_status, reports_disk}
use Rattle.hac_top.specs.Replies.{CutsWriting, WritesAll}
use Rattle.hac_top.specs.Ticking.{command_events}
use Rattle.hac_top.specs.Writes.{GrowsBy, StoresNothing}
use Rattle.hac_top.specs.declared.status.Status.{Status}
use Rattle.hac_top.specs.declared.status.Status.TheVariants.{WriteFault, DiskFault, Memory}

-- the reply to a command whose events were to be stored, given how that ended
abbrev pub storing_reply : Result Unit StoreFault → Result Reply Status
storing_reply (Ok _) = Ok (Lines [])
storing_reply (Err fault.Full) = Ok (Refused (Limit Store))
storing_reply (Err reason) = Err (store_status reason)

-- What became of the disk while a store went on by events to this setting, or stopped on the way: a crash at any moment
-- leaves the tree after some of them. Where nothing is to be stored, nothing was written. A call of the disk that failed
-- is reported, and no other; and nothing is pending if none failed and nothing was.
pub record Stores (old new : DiskSeen) (setting last : Setting) (events : List Event) (failed : Bool) : Type 0 where
  pub moments : Stands old setting →
      LeavesOnly old new (Holds (IsTreeAfter (stored setting.state) events))
  pub idle : StoresNothing setting last events → IsQuiet old new
  pub settled : failed ≡ false → IsSettled old → IsSettled new
  pub names : new.attached ≡ old.attached
  pub reported : ReportsFault failed old.faults new.faults

-- index steps are stopped by the disk, or because memory ran out: none is tried for which there is no room
abbrev pub StopsSteps : StoreFault → Type 0
StopsSteps fault.Disk = ⊤
StopsSteps fault.Memory = ⊤
StopsSteps other = ⊥

-- a command is stopped by the disk, or because memory ran out
abbrev pub StopsCommand : Status → Type 0
StopsCommand DiskFault = ⊤
StopsCommand Memory = ⊤
StopsCommand other = ⊥

-- the store can go on: no write of it failed, and the disk bears it
pub record IsUsable (disk : DiskSeen) (store : Seen) : Type 0 where
  pub intact : store.broken ≡ false
  pub place : Bears disk store

-- The store has gone on to this setting by these events. It can go on as before, and if the disk stood for what it was,
-- the disk stands for what it is.
pub record HasGoneOn (old new : DiskSeen) (before after : Seen) (next : Setting) (events : List Event) : Type 0 where
  pub setting : after.setting ≡ next
  pub intact : after.broken ≡ before.broken
  pub place : Bears new after
  pub stands : Stands old before.setting → Stands new after.setting
  pub grows : GrowsBy old.contents new.contents before.setting next events

-- the store has gone on by a turn, which has this reply
pub record HasStored (old new : DiskSeen) (before after : Seen) (turn : Turn) (reply : Reply) : Type 0 where
  pub reply_is : reply ≡ turn.reply
  pub on : HasGoneOn old new before after turn.after turn.events

-- what storing a turn does
pub record StoresTurn (old new : DiskSeen) (before after : Seen) (turn : Turn)
    (result : Result Reply Status) : Type 0 where
  pub ok : IfOk result (HasStored old new before after turn)
  pub err : IfErr result StopsCommand
  pub stores : Stores old new before.setting turn.after (all_events (turn ∷ [])) (reports_disk result)

-- a line was answered: the replies of its turns were written, and the store has gone on by them
pub record AnswersLine (old new : DiskSeen) (before after : Seen) (sink sink_after : SinkSeen)
    (answered : List Turn) : Type 0 where
  pub replies : WritesAll sink sink_after (turns_text answered)
  pub on : HasGoneOn old new before after (left_by before.setting answered) (all_events answered)
  pub stores : Stores old new before.setting (left_by before.setting answered) (all_events answered) false

-- What storing the index steps behind a command does: all of them are stored, or the disk failed or memory ran out.
pub record StoresSteps (old new : DiskSeen) (before after : Seen) (steps : List Event)
    (result : Result Unit StoreFault) : Type 0 where
  pub ok : OnOk result (HasGoneOn old new before after (after_events before.setting steps) steps)
  pub err : IfErr result StopsSteps
  pub stores : Stores old new before.setting (after_events before.setting steps) steps (met_disk_fault result)

-- An answer stopped before its reply was written whole and passed on, and no step follows it. If the sink failed, the
-- events of the command were stored before.
pub record StopsReply (old new : DiskSeen) (setting : Setting) (sink sink_after : SinkSeen) (answered : List Turn)
    (status : Status) : Type 0 where
  pub replies : CutsWriting status sink sink_after (turns_text answered)
  pub stored : status ≡ WriteFault → Stands old setting → (c : List ℕ) → new.image c →
      Holds (λ now. now ≡ apply_all (stored setting.state) (command_events answered)) c
  pub stores : Stores old new setting (left_by setting answered) (command_events answered) (is_disk_fault status)

-- An answer stopped behind its reply, which was written whole and passed on. The events of the command were stored
-- before, and some of the steps behind it may be, the first ones in order.
pub record StopsBehind (old new : DiskSeen) (setting : Setting) (sink sink_after : SinkSeen)
    (answered : List Turn) (status : Status) : Type 0 where
  pub why : StopsCommand status
  pub replies : WritesAll sink sink_after (turns_text answered)
  pub left : Stands old setting → (c : List ℕ) → new.image c →
      Holds (IsTreeOfAnswered (stored setting.state) answered (length answered)) c
  pub stores : Stores old new setting (left_by setting answered) (all_events answered) (is_disk_fault status)

-- an answer stopped, at its reply or behind it
abbrev pub StopsAnswer : (old new : DiskSeen) (setting : Setting) (sink sink_after : SinkSeen)
    (answered : List Turn) (status : Status) → Type 0
StopsAnswer old new setting sink sink_after answered status =
    StopsReply old new setting sink sink_after answered status
    ⊎ StopsBehind old new setting sink sink_after answered status

-- a turn that has no steps behind it, and leaves what its events make of the state
pub record IsBare (setting : Setting) (turn : Turn) : Type 0 where
  pub own : all_events (turn ∷ []) ≡ turn.events
  pub leads : stored turn.after.state ≡ apply_all (stored setting.state) turn.events

-- this is the turn of a line, whose command met this fault or none
pub record IsTurnOf (contents : Contents) (fault : Option (List ℕ)) (setting : Setting) (item : Item)
    (turn : Turn) : Type 0 where
  pub is : turn ≡ item_turn (given_by contents (fault ∷ []) 0) setting item
  pub may : MayFail (given_by contents (fault ∷ []) 0) setting.state item fault

-- What storing a line does: the spaces were asked, and then a turn was stored. It is that of the line where the contents
-- of the spaces are told. No more terms are asked of items than the line's data lines and the turn's events may take.
pub record StoresItem (old new : DiskSeen) (spaces left : SpacesSeen)
    (before after : Seen) (item : Item) (probes probes_now : ℕ) (result : Result Reply Status) : Type 0 where
  pub fault : Option (List ℕ)
  pub asked : HaveAsked spaces left (fault ∷ [])
  pub turn : Turn
  pub bare : IsBare before.setting turn
  pub told : IfSome spaces.contents (λ contents. IsTurnOf contents fault before.setting item turn)
  pub stores : StoresTurn old new before after turn result
  pub asks : probes_now ≤ probes + (answering_line before.setting.state item + costs before.setting.state turn.events)

-- these are the turns of lines, whose commands met these faults; no more terms are asked than the lines may take
pub record AreTurns (contents : Contents) (met : List (Option (List ℕ))) (tick : ℕ) (setting : Setting)
    (items : List Item) (answered : List Turn)
    (probes probes_now : ℕ) : Type 0 where
  pub are : answered ≡ turns (given_by contents met tick) setting items
  pub count : length met ≡ length items
  pub askable : AreAskable (given_by contents met tick) setting items
  pub asks : probes_now ≤ probes + lines_cost (given_by contents met tick) setting items

-- What answering the lines of a piece does: at most one turn was answered, or its answer stopped. It is that of the
-- piece where the contents of the spaces are told.
pub record AnswersItems (old new : DiskSeen) (spaces left : SpacesSeen) (tick : ℕ)
    (before after : Seen) (sink sink_after : SinkSeen) (items : List Item) (was now : Bool) (probes probes_now : ℕ)
    (result : Result Unit Status) : Type 0 where
  pub met : List (Option (List ℕ))
  pub asked : HaveAsked spaces left met
  pub answered : List Turn
  pub few : length answered ≤ 1
  pub leads : stored (left_by before.setting answered).state ≡ apply_all (stored before.setting.state) (all_events answered)
  pub told : IfSome spaces.contents (λ contents. AreTurns contents met tick before.setting items answered probes probes_now)
  pub refused : OnOk result (now ≡ (was || has_refusal answered))
  pub ok : OnOk result (AnswersLine old new before after sink sink_after answered)
  pub err : IfErr result (StopsAnswer old new before.setting sink sink_after answered)
