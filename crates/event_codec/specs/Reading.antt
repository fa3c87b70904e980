-- What calls answer that read a payload.
use Rattle.std.specs.Prelude.{◌≡◌, ⊤, ℕ, Result, Err}
use Rattle.hac_model.specs.Run.Answers as gives
use Rattle.hac_model.specs.declared.events.Event.{Event}
use Rattle.hac_model.specs.declared.snapshots.Snapshot.{Snapshot}
use Rattle.event_codec.specs.declared.faults.CodecFault.{CodecFault}
use Rattle.event_codec.specs.declared.faults.CodecFault.TheVariants as codec

-- the fault is for what the payload says
abbrev pub IsPayloadFault : {A : Type 0} → CodecFault → Result A ℕ → Type 0
IsPayloadFault codec.Memory wanted = ⊤
IsPayloadFault (codec.Bad at) wanted = wanted ≡ Err at

-- the call gave the event that the payload says, or the place of the fault
abbrev pub ReadsEvent : Result Event CodecFault → Result Event ℕ → Type 0
ReadsEvent result wanted = gives.Gives IsPayloadFault result wanted

-- the call gave the snapshot that the payload says, or the place of the fault
abbrev pub ReadsSnapshot : Result Snapshot CodecFault → Result Snapshot ℕ → Type 0
ReadsSnapshot result wanted = gives.Gives IsPayloadFault result wanted
