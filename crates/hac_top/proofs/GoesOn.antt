-- What stays true of a run from line to line: the lines so far were answered, and what is pending is to come.
use Rattle.std.proofs.Common.{◌≡◌, ℕ, ◌+◌, ◌≤◌, false, Bool, List, [], ◌++◌, length, take, Option}
use Rattle.std.specs.Option.{IfSome}
use Rattle.std.specs.Io.KnownBytes.{Appends}
use Rattle.hac_disk.specs.Images.{IsQuiet, IsSettled, LeavesOnly}
use Rattle.hac_disk.specs.Seen.{DiskSeen}
use Rattle.hac_outside.specs.Known.{Known}
use Rattle.hac_outside.specs.Seen.{SinkSeen}
use Rattle.hac_model.specs.Run.Costs.{lines_cost}
use Rattle.hac_model.specs.Run.Play.{AreAskable, Given, Setting, Turn, all_events, has_refusal, left_by, play, turns, turns_text}
use Rattle.hac_model.specs.Script.{first_items, script, whole}
use Rattle.hac_model.specs.Tree.Events.{apply_all}
use Rattle.hac_model.specs.Tree.Sessions.{stored}
use Rattle.sem_mounts.specs.Seen.{Contents, SpacesSeen}
use Rattle.hac_store.specs.Stores.{Seen, Stands}
use Rattle.line_reader.specs.Reading.{IsReaderOf, Reading, pending}
use Rattle.hac_top.specs.Asking.{HaveAsked, given_by}
use Rattle.hac_top.specs.Crashes.{Holds, IsTreeAfter}
use Rattle.hac_top.specs.Run.{Outside, given_after}
use Rattle.hac_top.specs.Storing.{IsUsable}
use Rattle.hac_top.specs.TakenLines.{IsLine, LeavesSource}
use Rattle.hac_top.specs.Writes.{AreIdle, GrowsBy}

-- the turns of whole lines, and of one line behind them
abbrev pub turns_of : Given → Setting → List ℕ → List ℕ → List Turn
turns_of given first played last =
    play given first played ++ turns (given_after given (play given first played)) (left_by first (play given first played)) (first_items last)

-- The script is whole lines that were played, the line that was played last, and what is pending. All of the lines were
-- answered. What is given to them is known, and what is to what is pending.
pub record Goes (given pending_given : Given) (first : Setting) (script pending : List ℕ) (ended : Bool) (setting : Setting) (refused : Bool) (before now : SinkSeen) : Type 0 where
  pub played : List ℕ
  pub last : List ℕ
  pub script_is : script ≡ played ++ (last ++ pending)
  pub lines : whole played ≡ played
  pub line_is : IsLine ended last pending
  pub given_is : pending_given ≡ given_after given (turns_of given first played last)
  pub left_is : setting ≡ left_by first (turns_of given first played last)
  pub written : Appends before.written now.written (turns_text (turns_of given first played last))
  pub refused_is : refused ≡ has_refusal (turns_of given first played last)

-- a reader that holds nothing yet
abbrev pub fresh_reader : Reading
fresh_reader = record { buffered = []; taken = 0; ended = false }

-- The lines so far are those that were played, and their commands met these faults. No more terms are asked than they may
-- take.
pub record IsPlayed (contents : Contents) (met : List (Option (List ℕ))) (tick : ℕ) (first : Setting) (bytes pending : List ℕ) (ended : Bool) (setting : Setting) (refused : Bool) (before now : Outside) (answered : List Turn) : Type 0 where
  pub goes : Goes (given_by contents met tick) (given_by contents [] tick) first bytes pending ended setting refused before.sink now.sink
  pub answered_is : answered ≡ turns_of (given_by contents met tick) first goes.played goes.last
  pub count : length met ≡ length answered
  pub askable : AreAskable (given_by contents met tick) first (script goes.played ++ first_items goes.last)
  pub asks : now.probes ≤ before.probes + lines_cost (given_by contents met tick) first (take (length answered) (script bytes))

-- what was taken of the bytes of a source, the first ones
abbrev pub TookFirst : List ℕ → List ℕ → Type 0
TookFirst bytes pending = (taken : List ℕ) × (bytes ≡ taken ++ pending)

-- Between two lines no call of the source, the sink or the disk has failed, and all was passed on. The disk stands for
-- what the lines so far left, and a crash since the run began leaves the tree after some of the events of their turns.
pub record RunsOn (old disk : DiskSeen) (tick : ℕ) (first : Setting) (before now : Outside) (spaces spaces_now : SpacesSeen) (reader : Reading) (store : Seen) (refused : Bool) : Type 0 where
  pub met : List (Option (List ℕ))
  pub asked : HaveAsked spaces spaces_now met
  pub answered : List Turn
  pub leads : stored store.setting.state ≡ apply_all (stored first.state) (all_events answered)
  pub goes : IfSome spaces.contents (λ contents.
      Known (λ bytes pending. IsPlayed contents met tick first bytes pending reader.ended store.setting refused before now answered) before.source.left (pending reader now.source.left))
  pub took : Known TookFirst before.source.left (pending reader now.source.left)
  pub reads : IsReaderOf reader now.source
  pub source : LeavesSource false fresh_reader reader before.source now.source
  pub passed : before.sink.held_back ≡ 0 → now.sink.held_back ≡ 0
  pub wrote : now.sink.faults ≡ before.sink.faults
  pub usable : IsUsable disk store
  pub setting_is : store.setting ≡ left_by first answered
  pub grows : GrowsBy old.contents disk.contents first (left_by first answered) (all_events answered)
  pub still : AreIdle first answered → IsQuiet old disk
  pub settled : IsSettled old → IsSettled disk
  pub stands : Stands old first → Stands disk store.setting
  pub moments : Stands old first → LeavesOnly old disk (Holds (IsTreeAfter (stored first.state) (all_events answered)))
  pub names : disk.attached ≡ old.attached
  pub quiet : disk.faults ≡ old.faults
