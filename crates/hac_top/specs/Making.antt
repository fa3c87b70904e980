-- A run that draws its script from a number, and then tells what that left.
use Rattle.std.specs.Prelude.{◌≡◌, ◌≤◌, ℕ, Bool, false, List, [], ◌∷◌, Option, Some, Result, Ok, Err}
use Rattle.std.specs.Option.{IfSome}
use Rattle.hac_disk.specs.Seen.{DiskSeen}
use Rattle.hac_outside.specs.Causes.{ReportsFault}
use Rattle.hac_outside.specs.Seen.{SinkSeen}
use Rattle.hac_model.specs.Run.Play.{Setting, data_lines, left_by, no_answers, play}
use Rattle.hac_model.specs.Script.CommandLine.{Options}
use Rattle.hac_model.specs.Script.Generator.{generated}
use Rattle.hac_model.specs.Script.Printed.{text}
use Rattle.hac_model.specs.declared.replies.Reply.{Reply}
use Rattle.hac_model.specs.declared.replies.Reply.TheVariants.{Lines}
use Rattle.hac_model.specs.declared.resolved.Resolved.TheVariants.{Counts}
use Rattle.hac_model.specs.declared.states.State.{State}
use Rattle.sem_mounts.specs.Seen.{SpacesSeen}
use Rattle.hac_top.specs.Asking.{given_by}
use Rattle.hac_top.specs.Ends.{IsOpenStatus, end_status, is_disk_fault, is_read_fault, is_write_fault}
use Rattle.hac_top.specs.Replies.{StopsWriting, WritesAll}
use Rattle.hac_top.specs.Run.{Outside, PlaysOn, PlaysStore, RunsAnd}
use Rattle.hac_top.specs.declared.status.Status.{Status}
use Rattle.hac_top.specs.declared.status.Status.TheVariants.{Done, SomeRefused, WriteFault, Memory}

-- the reply to `counts`
abbrev pub counts_reply : State → Reply
counts_reply s = Lines (data_lines no_answers s Counts)

-- what is written of it
abbrev pub counts_text : State → List ℕ
counts_text s = text (counts_reply s ∷ [])

-- the reply was written and passed on, unless the sink failed or memory ran out before
abbrev pub TellsEnd : Status → Status → State → SinkSeen → SinkSeen → Type 0
TellsEnd played WriteFault s before after = StopsWriting WriteFault before after (counts_text s)
TellsEnd played Memory s before after = after ≡ before
TellsEnd played status s before after = (status ≡ played) × WritesAll before after (counts_text s)

-- What a run tells of the state that its script left, and how the run ends, given how the play of the script ended. Where
-- that stopped before the script's end, nothing is told.
abbrev pub Tells : Status → Status → State → SinkSeen → SinkSeen → Type 0
Tells Done status s before after = TellsEnd Done status s before after
Tells SomeRefused status s before after = TellsEnd SomeRefused status s before after
Tells played status s before after = (status ≡ played) × (after ≡ before)

-- The devices of a script that is drawn from a number, before it was played and behind: a source that had the script, and
-- a sink. They are the run's own and didn't fail. All terms that the run asked of items were asked so.
pub record OwnDevices (number probes probes_now : ℕ) : Type 0 where
  pub before : Outside
  pub after : Outside
  pub script_is : before.source.left ≡ Some (generated number)
  pub reads : after.source.faults ≡ before.source.faults
  pub writes : after.sink.faults ≡ before.sink.faults
  pub begins : before.probes ≡ probes
  pub asks : probes_now ≤ after.probes

-- the script of a number was played to some end by devices of its own; nothing was taken of the source that the run was
-- given
pub record Makes (number : ℕ) (before after : Outside) (Says : Status → Outside → Outside → Type 0) : Type 0 where
  pub played : Status
  pub own : OwnDevices number before.probes after.probes
  pub unread : after.source ≡ before.source
  pub says : Says played own.before own.after

-- the words, if they are known, and the number from which the script is to be drawn, where they have one
abbrev pub IfMakes : Option Options → (Options → ℕ → Type 0) → Type 0
IfMakes words P = IfSome words (λ asked. IfSome asked.make (P asked))

-- how the script of a number is played on a store that was opened, by devices of its own
pub record PlaysMade (old new : DiskSeen) (tick : ℕ) (setting : Setting) (number : ℕ) (spaces left : SpacesSeen) (probes probes_now : ℕ)
    (result : Result Bool Status) (kept : Setting) : Type 0 where
  pub own : OwnDevices number probes probes_now
  pub unread : is_read_fault (end_status result) ≡ false
  pub unwritten : is_write_fault (end_status result) ≡ false
  pub on : PlaysOn old new tick setting own.before own.after spaces left result kept

-- what is told of the state that a script left, where it was played to its end
abbrev pub TellsLeft : Result Bool Status → Result Bool Status → State → SinkSeen → SinkSeen → Type 0
TellsLeft (Err stop) result s before after = (result ≡ Err stop) × (after ≡ before)
TellsLeft (Ok refused) (Ok now) s before after = (now ≡ refused) × WritesAll before after (counts_text s)
TellsLeft (Ok refused) (Err status) s before after = StopsWriting status before after (counts_text s)

-- How the script of a number is played on a store that was opened, and what is then told. A fault of the sink or of the
-- disk is reported, and no other.
pub record MakesStore (old new : DiskSeen) (tick : ℕ) (setting : Setting) (number : ℕ) (before after : SinkSeen) (spaces left : SpacesSeen)
    (probes probes_now : ℕ) (status : Status) : Type 0 where
  pub played : Status
  pub own : OwnDevices number probes probes_now
  pub plays : PlaysStore old new tick setting own.before own.after spaces left played
  pub tells : IfSome spaces.contents (λ contents.
      Tells played status (left_by setting (play (given_by contents plays.met tick) setting (generated number))).state before after)
  pub opened : IsOpenStatus status
  pub reported : ReportsFault (is_disk_fault status) old.faults new.faults
  pub unread : is_read_fault status ≡ false
  pub wrote : ReportsFault (is_write_fault status) before.faults after.faults
  pub passed : (status ≡ WriteFault → ⊥) → before.held_back ≡ 0 → after.held_back ≡ 0

-- What is said of a run whose script is drawn, which its own devices were for `own` to `own_after`, and so ended: it runs
-- on them as any run does, and then it tells what the script left, with this status.
abbrev pub RunsMade : (old new : DiskSeen) (spaces left : SpacesSeen) (asked : Options) (premise : Type 0) (status : Status) (before after : SinkSeen)
    (played : Status) (own own_after : Outside) → Type 0
RunsMade old new spaces left asked premise status before after played own own_after =
    RunsAnd old new spaces left asked premise own own_after played
    (λ given setting script. Tells played status (left_by setting (play given setting script)).state before after)
