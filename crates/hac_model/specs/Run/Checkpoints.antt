-- What a checkpoint does to a store: its whole state is written as a new area of version 2, which then is the live one.
use Rattle.std.specs.Prelude.{ℕ, ◌+◌, ◌-◌, ◌^◌, nat_le, nat_lt, if◌then◌else◌, Bool, true, false, List, length, Option, None, Some}
use Rattle.hac_model.specs.Payload.States.{snapshot_of, snapshot_text}
use Rattle.hac_model.specs.Run.Settings.{Setting}
use Rattle.hac_model.specs.Tree.{raised}
use Rattle.hac_model.specs.declared.limits.TheConstants.{STORE_LIMIT}
use Rattle.hac_model.specs.declared.resolved.Resolved.{Resolved}
use Rattle.hac_model.specs.declared.resolved.Resolved.TheVariants.{Checkpoint}
use Rattle.hac_model.specs.declared.states.State.{State}

-- the command writes an area
abbrev pub is_checkpoint : Resolved → Bool
is_checkpoint Checkpoint = true
is_checkpoint other = false

-- the payload of a whole state
abbrev pub state_text : State → List ℕ
state_text s = snapshot_text (snapshot_of s)

-- where an area of this many bytes goes: before the live one, else behind it and within the limit of a store of version 2, else nowhere
abbrev pub free_place : Setting → ℕ → Option ℕ
free_place setting size =
    if nat_le (64 + size) setting.start then Some 64
    else if nat_le (setting.end + 1 + size) STORE_LIMIT then Some (setting.end + 1) else None

-- where an area goes that has one record, with a payload of this size: nowhere where no generation is left
abbrev pub place_of : Setting → ℕ → Option ℕ
place_of setting size = if nat_lt setting.generation (2 ^ 64 - 1) then free_place setting (size + 6) else None

-- where the next area of a store goes
abbrev pub next_place : Setting → Option ℕ
next_place setting = place_of setting (length (state_text (raised setting.state)))

-- the setting once the live area is the one at this place, which holds the state and nothing behind that
abbrev pub checkpointed : Setting → ℕ → Setting
checkpointed setting at = record {
  state = raised setting.state;
  start = at;
  end = at + 5 + length (state_text (raised setting.state));
  generation = setting.generation + 1;
}
