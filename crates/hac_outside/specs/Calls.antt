-- Calls by number, from 1: which of them are to fail.
use Rattle.std.specs.Prelude.{◌⊎◌, ℕ, ◌+◌, ◌-◌, ◌^◌, ◌≤◌, min, List, Contains}

-- the number after this one, or the last number of its type
abbrev pub next_number : ℕ → ℕ
next_number n = min (n + 1) (2 ^ 64 - 1)

-- after this many calls the next one fails: the room for calls is used up, or the next one is to fail
abbrev pub IsFailingCall : ℕ → List ℕ → ℕ → Type 0
IsFailingCall last_call failing calls = (last_call ≤ calls) ⊎ Contains failing (calls + 1)
