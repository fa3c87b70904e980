-- What a run writes on its disk: the records of events behind the log of its store, and nothing else as long as it begins
-- no new area.
use Rattle.std.specs.Prelude.{◌≡◌, ◌⊎◌, ℕ, ◌+◌, ◌≤◌, List, [], ◌∷◌, map, take, drop, Option}
use Rattle.std.specs.List.{flat_map}
use Rattle.hac_disk.specs.Contents.{Written}
use Rattle.hac_disk.specs.Images.{IsQuiet, IsSettled}
use Rattle.hac_disk.specs.Seen.{DiskSeen}
use Rattle.hac_journal.specs.Records.{log_of}
use Rattle.hac_model.specs.Payload.Payloads.{event_text}
use Rattle.hac_model.specs.Run.Play.{Setting, Turn, all_events, end_behind, left_by}
use Rattle.hac_model.specs.declared.events.Event.{Event}
use Rattle.hac_model.specs.declared.versions.Version.{Version}
use Rattle.hac_top.specs.Ends.{IsBetween}
use Rattle.hac_top.specs.declared.status.Status.{Status}
use Rattle.hac_top.specs.declared.status.Status.TheVariants.{DiskFault}

-- the records of events were written behind a log that ended here, some by one append, and then the next ones
abbrev pub Appended : Version → ℕ → List (List Event) → Option (List ℕ) → Option (List ℕ) → Type 0
Appended version end [] old new = new ≡ old
Appended version end (events ∷ more) old new =
    (between : Option (List ℕ)) × Written old end (log_of (map (event_text version) events)) between
    × Appended version (end_behind version end events) more between new

-- the records of these events were written behind the log of a store, and nothing else was
abbrev pub WritesEvents : Setting → List Event → Option (List ℕ) → Option (List ℕ) → Type 0
WritesEvents setting events old new =
    (parts : List (List Event)) × (flat_map (λ part. part) parts ≡ events) × Appended setting.state.version setting.end parts old new

-- no new area was begun in between
abbrev pub SameArea : Setting → Setting → Type 0
SameArea first last = last.generation ≡ first.generation

-- nothing is stored from one setting to another: there are no events, and no new area
abbrev pub StoresNothing : Setting → Setting → List Event → Type 0
StoresNothing first last events = SameArea first last × (events ≡ [])

-- turns that store nothing: they read, they are refused, or they move a session
abbrev pub AreIdle : Setting → List Turn → Type 0
AreIdle setting turns = StoresNothing setting (left_by setting turns) (all_events turns)

-- What a read gives of a disk whose store goes on by events. As long as no new area was begun, their records were written
-- behind its log, and nothing else was.
pub record GrowsBy (old new : Option (List ℕ)) (first last : Setting) (events : List Event) : Type 0 where
  pub later : first.generation ≤ last.generation
  pub version : SameArea first last → last.state.version ≡ first.state.version
  pub end : SameArea first last → last.end ≡ end_behind first.state.version first.end events
  pub written : SameArea first last → WritesEvents first events old new

-- What a run has written, of whose turns `done` were answered. So many were stored whole, and at most the next one in
-- part; none was in part where the run ended between two lines. Where that one stores nothing, the records of the events
-- of those before it were written behind the log, and nothing else was, as long as none began a new area. Where none of
-- them stores anything either, nothing was written: a read gives what it gave, and at no moment might a crash have left
-- anything else. Unless the disk failed, nothing is pending if nothing was.
pub record WritesTurns (old new : DiskSeen) (status : Status) (setting : Setting) (turns : List Turn) (done : ℕ) : Type 0 where
  pub stored : ℕ
  pub near : (stored ≡ done) ⊎ ((stored + 1 ≡ done) × (IsBetween status → ⊥))
  pub written : IsBetween status ⊎ AreIdle (left_by setting (take stored turns)) (take 1 (drop stored turns)) →
      SameArea setting (left_by setting (take stored turns)) → WritesEvents setting (all_events (take stored turns)) old.contents new.contents
  pub quiet : IsBetween status ⊎ AreIdle (left_by setting (take stored turns)) (take 1 (drop stored turns)) →
      AreIdle setting (take stored turns) → IsQuiet old new
  pub settled : (status ≡ DiskFault → ⊥) → IsSettled old → IsSettled new
