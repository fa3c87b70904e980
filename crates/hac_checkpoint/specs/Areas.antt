-- Areas: where a new one goes, and what a file has in one.
use Rattle.std.specs.Prelude.{◌≡◌, ◌⊎◌, ℕ, ◌+◌, ◌-◌, ◌<◌, ◌≤◌, nat_le, if◌then◌else◌, List, [], ◌∷◌, take, drop, None, Some}
use Rattle.std.specs.declared.option.Option.{Option}
use Rattle.hac_journal.specs.Records.{log_of}
use Rattle.hac_checkpoint.specs.declared.areas.Area.{Area}

-- an area with this one record
abbrev pub area_of : List ℕ → List ℕ
area_of payload = log_of (payload ∷ [])

-- where an area of this many bytes goes: before the live one, else behind it and within the limit, else nowhere
abbrev pub place_for : ℕ → Area → ℕ → Option ℕ
place_for limit live size =
    if nat_le (64 + size) live.start then Some 64 else if nat_le (live.end + 1 + size) limit then Some (live.end + 1) else None

-- two files have the same bytes in an area, its closed gate included
abbrev pub HaveSame : Area → List ℕ → List ℕ → Type 0
HaveSame area c d = take (area.end + 1 - area.start) (drop area.start c) ≡ take (area.end + 1 - area.start) (drop area.start d)

-- the n bytes from this place on lie before an area, or behind its closed gate
abbrev pub IsApart : ℕ → ℕ → Area → Type 0
IsApart at n area = (at + n ≤ area.start) ⊎ (area.end < at)
