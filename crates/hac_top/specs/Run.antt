-- What a run promises. Most of it depends on the script, which its source may tell.
use Rattle.std.specs.Prelude.{◌≡◌, ◌⊎◌, ℕ, ◌+◌, ◌<◌, ◌≤◌, ⊤, Bool, true, false, List, [], ◌++◌, length, map, take, drop, codes, Option, None, Some, Result, IfOk, IfErr, OnOk}
use Rattle.std.specs.Option.{IfSome}
use Rattle.std.specs.Prelude.{String, string_bytes}
use Rattle.std.specs.Io.KnownBytes.{Appends}
use Rattle.hac_outside.specs.Causes.{Rose, ReportsFault}
use Rattle.hac_outside.specs.Known.{Known}
use Rattle.hac_outside.specs.Seen.{SourceSeen, SinkSeen}
use Rattle.hac_disk.specs.Images.{IsSettled, LeavesOnly}
use Rattle.hac_disk.specs.Seen.{DiskSeen}
use Rattle.hac_model.specs.Script.CommandLine.{Options, options}
use Rattle.hac_model.specs.Run.Costs.{lines_cost}
use Rattle.hac_model.specs.Run.Play.{AreAskable, Given, Setting, Turn, all_events, given_behind, has_refusal, left_by, play, stored_setting, turns}
use Rattle.hac_model.specs.Tree.Sessions.{stored}
use Rattle.hac_model.specs.Script.Printed.{ended}
use Rattle.hac_model.specs.Script.{after_item, first_items, script, whole}
use Rattle.hac_model.specs.declared.limits.TheConstants.{SCRIPT_LIMIT}
use Rattle.hac_model.specs.declared.states.State.{State}
use Rattle.hac_store.specs.Held.{held}
use Rattle.hac_store.specs.Loading.{loading}
use Rattle.hac_store.specs.Stores.{IsHeldAs, Stands}
use Rattle.hac_top.specs.Crashes.{Holds, IsTreeAfter, IsTreeOfAnswered, Reopens, opening_outcome}
use Rattle.hac_top.specs.Ends.{IsFinished, IsOpenStatus, end_status, finished_status, is_bad_space, is_disk_fault, is_read_fault, is_write_fault}
use Rattle.hac_top.specs.Replies.{WritesReplies}
use Rattle.hac_top.specs.Asking.{HaveAsked, IfTold, given_by}
use Rattle.hac_top.specs.Takes.{Takes}
use Rattle.hac_top.specs.Writes.{WritesTurns}
use Rattle.sem_mounts.specs.Seen.{SpacesSeen}
use Rattle.hac_top.specs.declared.status.Status.{Status}
use Rattle.hac_top.specs.declared.status.Status.TheVariants.{Done, SomeRefused, Usage, ReadFault, WriteFault, DiskFault, Memory, TooLong}
use Rattle.line_reader.specs.Reading.{piece_size}

-- what a run works on, as it is seen, and how many questions for terms it has asked
pub record Outside : Type 0 where
  pub source : SourceSeen
  pub sink : SinkSeen
  pub probes : ℕ

abbrev pub outside : SourceSeen → SinkSeen → ℕ → Outside
outside source sink probes = record { source = source; sink = sink; probes = probes }

-- the same once a store is open, where opening it may take so many questions
abbrev pub once_open : ℕ → Outside → Outside
once_open opening before = record before { probes = before.probes + opening }

-- what the words of the program ask for, if they are words that it takes
abbrev pub options_in : {Z : Type 0} → List (String Z) → Option Options
options_in words = options (map string_bytes words)

-- what is written where the words of the program are none that it takes
abbrev pub usage_line : List ℕ
usage_line = ended (codes "usage: hac [--new] [--tick N] [--make NUMBER] STORE [NAME=FILE]...")

-- known bytes grow by some beginning of these bytes
abbrev pub AppendsSome : Option (List ℕ) → Option (List ℕ) → List ℕ → Type 0
AppendsSome old new bytes = (n : ℕ) × Appends old new (take n bytes)

-- words are refused: nothing is read or asked, and the usage is written or the sink fails, unless memory runs out
pub record RefusesWords (status : Status) (before after : Outside) : Type 0 where
  pub status_is : (status ≡ Usage) ⊎ ((status ≡ WriteFault) ⊎ (status ≡ Memory))
  pub unread : after.source ≡ before.source
  pub unasked : after.probes ≡ before.probes
  pub usage : status ≡ Usage → Appends before.sink.written after.sink.written usage_line
  pub some : AppendsSome before.sink.written after.sink.written usage_line

-- at most one byte more than the limit of a script was taken
abbrev pub TakesWithin : Option (List ℕ) → Option (List ℕ) → Type 0
TakesWithin old new = Known (λ before after. length before ≤ length after + (SCRIPT_LIMIT + 1)) old new

-- What any run says of its source and sink. A fault that happened is reported, and no other is. Unless the sink failed,
-- it has passed on all that it was written, if it had before.
pub record Ends (status : Status) (before after : Outside) : Type 0 where
  pub reads : ReportsFault (is_read_fault status) before.source.faults after.source.faults
  pub writes : ReportsFault (is_write_fault status) before.sink.faults after.sink.faults
  pub within : TakesWithin before.source.left after.source.left
  pub passed : (status ≡ WriteFault → ⊥) → before.sink.held_back ≡ 0 → after.sink.held_back ≡ 0

-- what is given to the commands behind these turns
abbrev pub given_after : Given → List Turn → Given
given_after given turns = given_behind (length turns) given

-- the script was read to its end, and each reply was written: no more and no less
pub record AnswersAll (given : Given) (status : Status) (setting : Setting) (script : List ℕ) (done : ℕ)
    (left : Option (List ℕ)) : Type 0 where
  pub read : left ≡ Some []
  pub within : length script ≤ SCRIPT_LIMIT
  pub status_is : status ≡ finished_status (has_refusal (play given setting script))
  pub all : done ≡ length (play given setting script)

-- a part of the script was taken, and each whole line of it was answered
pub record AnswersTaken (given : Given) (setting : Setting) (script : List ℕ) (done : ℕ)
    (left : Option (List ℕ)) : Type 0 where
  pub taken : List ℕ
  pub rest : List ℕ
  pub script_is : script ≡ taken ++ rest
  pub left_is : left ≡ Some rest
  pub all : take done (play given setting script) ≡ play given setting (whole taken)

-- the script is longer than a script may be, so much of it and one byte were taken, and each line within the limit was
-- answered
pub record AnswersWithin (given : Given) (setting : Setting) (script : List ℕ) (done : ℕ)
    (left : Option (List ℕ)) : Type 0 where
  pub longer : SCRIPT_LIMIT < length script
  pub left_is : left ≡ Some (drop (SCRIPT_LIMIT + 1) script)
  pub all : take done (play given setting script) ≡ play given setting (whole (take SCRIPT_LIMIT script))

-- Of what was taken, all was answered but one line with the bytes that belong to it, and less than one piece behind
-- them. So no read goes beyond the piece in which an unanswered line ends, with its bytes. Of that line's replies the
-- first k were written, and of nothing behind it.
pub record AnswersPromptly (given : Given) (setting : Setting) (script : List ℕ) (done : ℕ)
    (left : Option (List ℕ)) : Type 0 where
  pub answered : List ℕ
  pub line : List ℕ
  pub behind : List ℕ
  pub rest : List ℕ
  pub script_is : script ≡ answered ++ (line ++ (behind ++ rest))
  pub left_is : left ≡ Some rest
  pub whole_is : whole answered ≡ answered
  pub one : after_item line ≡ []
  pub near : length behind < piece_size
  pub all : (k : ℕ) × (take done (play given setting script) ≡ play given setting answered ++ take k
      (turns (given_after given (play given setting answered)) (left_by setting (play given setting answered)) (first_items line)))

-- which replies were written, by how the run ended
abbrev pub AnswersBy : Given → Status → Setting → List ℕ → ℕ → Option (List ℕ) → Type 0
AnswersBy given Done setting script done left = AnswersAll given Done setting script done left
AnswersBy given SomeRefused setting script done left = AnswersAll given SomeRefused setting script done left
AnswersBy given ReadFault setting script done left = AnswersTaken given setting script done left
AnswersBy given TooLong setting script done left = AnswersWithin given setting script done left
AnswersBy given other setting script done left = ⊤

-- However the run ends, the replies are those of the plain tree, none ahead of time and none late. A reply is cut off
-- only where the sink failed. No more is asked than the lines may take that were answered, and the one in hand.
pub record Plays (given : Given) (status : Status) (setting : Setting) (bytes : List ℕ)
    (before after : Outside) : Type 0 where
  pub replies : WritesReplies (play given setting bytes) before.sink after.sink
  pub whole : (status ≡ WriteFault → ⊥) → replies.cut ≡ []
  pub prompt : AnswersPromptly given setting bytes replies.done after.source.left
  pub answers : AnswersBy given status setting bytes replies.done after.source.left
  pub asks : after.probes ≤ before.probes + lines_cost given setting (take (replies.done + 1) (script bytes))

-- How a script is played from a store. Its replies are those of the plain tree. Where nothing was pending on
-- the disk as it began, a crash leaves the tree with the events of each answered command, and at most those of the
-- command in hand besides; and where the script has ended, it leaves what is stored of what the last command left. What
-- was written is said by how many replies were.
pub record Played (fresh : Bool) (given : Given) (status : Status) (setting : Setting) (script : List ℕ)
    (before after : Outside)
    (stood : Type 0) (image : List ℕ → Type 0) (writes : ℕ → Type 0) : Type 0 where
  pub plays : Plays given status setting script before after
  pub wrote : writes plays.replies.done
  pub reopens : stood → (c : List ℕ) → image c → Reopens fresh (IsTreeOfAnswered (stored setting.state)
      (play given setting script) plays.replies.done) c
  pub kept : stood → IsFinished status → (c : List ℕ) → image c →
      IsHeldAs c (stored_setting (left_by setting (play given setting script)))

-- the run has begun: a byte of the script was taken, or one of a reply was written, or the script has ended
abbrev pub HasBegun : Status → Outside → Outside → Type 0
HasBegun status before after =
    (after.source.left ≡ before.source.left → ⊥) ⊎
    ((after.sink.written ≡ before.sink.written → ⊥) ⊎ IsFinished status)

-- without a fault a script within the limit is read to its end, and a longer one is reported as such, unless memory
-- runs out
pub record Completes (status : Status) (script : List ℕ) : Type 0 where
  pub within : length script ≤ SCRIPT_LIMIT → IsFinished status ⊎ (status ≡ Memory)
  pub past : SCRIPT_LIMIT < length script → (status ≡ TooLong) ⊎ (status ≡ Memory)

-- what was stored, after some of the events of a script, the first ones in order
abbrev pub IsTreeOf : Given → Setting → List ℕ → State → Type 0
IsTreeOf given setting script now = IsTreeAfter (stored setting.state) (all_events (play given setting script)) now

-- How a script that is told is played from a store that was opened, given what its commands met. A crash at each moment
-- leaves the tree after some of the events.
pub record PlaysTold (given : Given) (old new : DiskSeen) (setting : Setting) (bytes : List ℕ) (before after : Outside)
    (status : Status) : Type 0 where
  pub askable : AreAskable given setting (script bytes)
  pub played : Played false given status setting bytes before after (Stands old setting) new.image
      (WritesTurns old new status setting (play given setting bytes))
  pub moments : Stands old setting → LeavesOnly old new (Holds (IsTreeOf given setting bytes))

-- How the script is played from a store that was opened, whatever source, disk and spaces tell. A call of the disk that
-- failed is reported, and no other. The spaces met these faults as they were asked.
pub record PlaysStore (old new : DiskSeen) (tick : ℕ) (setting : Setting) (before after : Outside)
    (spaces left : SpacesSeen) (status : Status) : Type 0 where
  pub opened : IsOpenStatus status
  pub met : List (Option (List ℕ))
  pub asked : HaveAsked spaces left met
  pub told : IfSome spaces.contents (λ contents. IfSome before.source.left (λ bytes.
      PlaysTold (given_by contents met tick) old new setting bytes before after status))
  pub takes : Takes status before.source.left after.source.left
  pub ends : Ends status before after
  pub names : new.attached ≡ old.attached
  pub reported : ReportsFault (is_disk_fault status) old.faults new.faults

-- The same of the player that plays it: it has gone on to what the script left, unless it stopped before its end.
pub record PlaysOn (old new : DiskSeen) (tick : ℕ) (setting : Setting) (before after : Outside)
    (spaces left : SpacesSeen) (result : Result Bool Status) (kept : Setting) : Type 0 where
  pub plays : PlaysStore old new tick setting before after spaces left (end_status result)
  pub leaves : OnOk result (IfSome spaces.contents (λ contents. IfSome before.source.left (λ bytes.
      kept ≡ left_by setting (play (given_by contents plays.met tick) setting bytes))))
  pub stops : IfErr result (λ status. IsFinished status → ⊥)

-- The outcome of a run that goes on from a store. Where nothing was pending on the disk as it began, a crash at each
-- moment leaves that tree after some of the events of the script; once it has begun to take the script, a crash leaves
-- a store. On a store that was there, nothing was written but what its commands store. Without a fault the script is
-- played, unless memory runs out.
pub record Ran (fresh : Bool) (given : Given) (status : Status) (setting : Setting) (script : List ℕ)
    (before after : Outside) (old new : DiskSeen) (faultless : Type 0) : Type 0 where
  pub played : Played fresh given status setting script before after (IsSettled old) new.image
      (λ done. fresh ≡ false → WritesTurns old new status setting (play given setting script) done)
  pub moments : IsSettled old → LeavesOnly old new (Reopens fresh (IsTreeOf given setting script))
  pub begun : IsSettled old → HasBegun status before after → (c : List ℕ) → new.image c →
      Holds (IsTreeOf given setting script) c
  pub complete : faultless → Completes status script

-- the file and the script, if they are known, how many questions opening the store may take, and what the run then goes
-- on from
abbrev pub IfOpened : Options → Option (List ℕ) → Option (List ℕ) → (ℕ → Setting → List ℕ → Type 0) → Type 0
IfOpened asked seen left P =
    IfSome seen (λ file. IfSome left (λ script.
    IfOk (opening_outcome asked.fresh (held file)) (λ setting. P (loading file) setting script)))

-- how many questions finding that may take, if the file is known and holds no store to open
abbrev pub IfUnopened : Bool → Option (List ℕ) → (ℕ → Type 0) → Type 0
IfUnopened fresh seen P = IfSome seen (λ file. IfErr (opening_outcome fresh (held file)) (λ _. P (loading file)))

-- no call of the source, the sink or the disk failed, given the faults of the disk
abbrev pub IsFaultless : Outside → Outside → ℕ → ℕ → Type 0
IsFaultless before after was now =
    (Rose before.source.faults after.source.faults → ⊥) ×
    (Rose before.sink.faults after.sink.faults → ⊥) × (Rose was now → ⊥)

-- What is said of a run that its words ask for, which found `before` and left `after`, and so ended. Where the disk, the
-- source and the spaces tell what they hold, and the file holds a store, or none and a new one is asked for, the script
-- was played from there as `Ran` says, given the spaces and the faults that its commands met; and of these it says `Also`.
-- The script is played without a fault if moreover the premise holds.
abbrev pub RunsAnd : (old new : DiskSeen) (spaces left : SpacesSeen) (asked : Options) (premise : Type 0)
    (before after : Outside) (status : Status) (Also : Given → Setting → List ℕ → Type 0) → Type 0
RunsAnd old new spaces left asked premise before after status Also =
    IfOpened asked old.contents before.source.left (λ opening setting script.
    IfTold spaces left asked.tick setting script (λ given.
    Ran asked.fresh given status setting script (once_open opening before) after old new
    (premise × IsFaultless before after old.faults new.faults)
    × Also given setting script))

-- the same, and nothing else
abbrev pub RunsFrom : (old new : DiskSeen) (spaces left : SpacesSeen) (asked : Options) (premise : Type 0) (before after : Outside) (status : Status) → Type 0
RunsFrom old new spaces left asked premise before after status =
    RunsAnd old new spaces left asked premise before after status (λ given setting script. ⊤)

-- the words, if they are known, where no script is to be drawn
abbrev pub IfPlays : Option Options → (Options → Type 0) → Type 0
IfPlays words P = IfSome words (λ asked. asked.make ≡ None → P asked)

-- a run that no store is open for ends so, unless a space can't be attached, a call of the disk fails or memory runs
-- out before
abbrev pub EndsSo : Status → Status → Type 0
EndsSo wanted status =
    (status ≡ wanted) ⊎ ((is_bad_space status ≡ true) ⊎ ((status ≡ DiskFault) ⊎ (status ≡ Memory)))
