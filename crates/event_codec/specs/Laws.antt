-- Theorems over the definitions of hac_model, each proved as the contract of a function of the module `laws`.
use Rattle.std.specs.Prelude.{◌≡◌, ℕ, ◌<◌, List, slice_index, IsTrue, Ok}
use Rattle.hac_model.specs.Payload.Payloads.{event_text, is_spellable, spelled}
use Rattle.hac_model.specs.Payload.States.{is_spellable_snapshot, snapshot_text, spelled_snapshot}
use Rattle.hac_model.specs.declared.events.Event.{Event}
use Rattle.hac_model.specs.declared.snapshots.Snapshot.{Snapshot}
use Rattle.hac_model.specs.declared.versions.Version.{Version}

-- the numbers are bytes
abbrev pub AreBytes : List ℕ → Type 0
AreBytes bytes = (i : ℕ) → slice_index bytes i < 256

-- what is written is read back, in each version
abbrev pub WrittenIsRead : Type 0
WrittenIsRead = (version : Version) (event : Event) → IsTrue (is_spellable version event) → spelled version (event_text version event) ≡ Ok event

-- what is read is an event that has a spelling, and the bytes are that spelling
abbrev pub ReadIsWritten : Type 0
ReadIsWritten = (version : Version) (bytes : List ℕ) (event : Event) → AreBytes bytes → spelled version bytes ≡ Ok event → IsTrue (is_spellable version event) × (bytes ≡ event_text version event)

-- so is a snapshot that is written, its version too
abbrev pub SnapshotIsRead : Type 0
SnapshotIsRead = (s : Snapshot) → IsTrue (is_spellable_snapshot s) → spelled_snapshot (snapshot_text s) ≡ Ok s

-- and a snapshot that is read has a spelling, and the bytes are that spelling
abbrev pub ReadIsSnapshot : Type 0
ReadIsSnapshot = (bytes : List ℕ) (s : Snapshot) → AreBytes bytes → spelled_snapshot bytes ≡ Ok s → IsTrue (is_spellable_snapshot s) × (bytes ≡ snapshot_text s)
