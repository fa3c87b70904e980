-- What calls answer that read a part of a payload.
use Rattle.std.specs.Prelude.{◌≡◌, ⊤, ℕ, ◌+◌, ◌&&◌, if◌then◌else◌, nat_le, List, length, take, drop, Option, None, Some, Result, Err}
use Rattle.std.specs.Int.{Width, byte_len, from_le_bytes}
use Rattle.hac_model.specs.Run.Answers as gives
use Rattle.payload_fields.specs.declared.faults.Fault.{Fault}
use Rattle.payload_fields.specs.declared.faults.Fault.TheVariants as fault

-- the fault is for what is read; memory may run out in place of anything
abbrev pub Fails : {A : Type 0} → Fault → Result A ℕ → Type 0
Fails fault.Memory read = ⊤
Fails (fault.Bad left) read = read ≡ Err left

-- the call gave what is read, a value and the bytes behind it, or the fault
abbrev pub GivesField : {A : Type 0} → Result A Fault → List ℕ → Result (A × List ℕ) ℕ → Type 0
GivesField result rest read = gives.GivesSeen (λ value. (value, rest)) Fails result read

-- the same, where a value of the call is seen by a view
abbrev pub GivesSeen : {A B : Type 0} → (A → B) → Result A Fault → List ℕ → Result (B × List ℕ) ℕ → Type 0
GivesSeen view result rest read = gives.GivesSeen (λ value. (view value, rest)) Fails result read

-- the bytes behind their own number, if all are there and they are at most this many
abbrev pub run_in : Width → ℕ → List ℕ → Option (List ℕ)
run_in width most bytes =
    let count = from_le_bytes width (take (byte_len width) bytes) in
    if nat_le (byte_len width + count) (length bytes) && nat_le count most then Some (take count (drop (byte_len width) bytes)) else None
