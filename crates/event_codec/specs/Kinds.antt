-- What a payload is for, by the byte of its kind.
use Rattle.std.specs.Prelude.{ℕ, Bool, ◌==◌, ◌||◌, if◌then◌else◌, List, [], ◌∷◌}
use Rattle.event_codec.specs.declared.kinds.PayloadKind.{PayloadKind}
use Rattle.event_codec.specs.declared.kinds.PayloadKind.TheVariants.{State, Event}
use Rattle.hac_model.specs.Payload.Payloads.{event_kind}
use Rattle.hac_model.specs.Payload.States.{state_kind}
use Rattle.hac_model.specs.declared.versions.Version.TheVariants.{One, Two}

-- the kind is that of a whole state
abbrev pub is_state_kind : ℕ → Bool
is_state_kind kind = kind == state_kind One || kind == state_kind Two

-- a whole state, or an event of a version. A payload of no kind is taken for an event of version 2, where it is wrong.
abbrev pub kind_of : List ℕ → PayloadKind
kind_of [] = Event Two
kind_of (kind ∷ rest) = if is_state_kind kind then State else Event (if kind == event_kind One then One else Two)
