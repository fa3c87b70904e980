-- What holds of records wherever they are.
use Rattle.std.specs.Prelude.{◌≡◌, ℕ, ◌+◌, ◌^◌, ◌<◌, ◌≤◌, List, [], ◌∷◌, length, take, Some}
use Rattle.hac_journal.specs.Appending.{ClosedAt, HoldsAt}
use Rattle.hac_journal.specs.Finding.{Whole, Closed, found_at}
use Rattle.hac_journal.specs.Logs.{as_records, behind_records, gate_behind, log_at}
use Rattle.hac_journal.specs.Records.{AreShort, log_of}

-- of records, the first is found, and the others follow it
abbrev pub RecordsAreFound : Type 0
RecordsAreFound = (at : ℕ) (payload : List ℕ) (payloads : List (List ℕ)) (file : List ℕ) → length payload < 2 ^ 32 → HoldsAt at (log_of (payload ∷ payloads)) file
    → (found_at at file ≡ Whole payload (at + 5 + length payload)) × HoldsAt (at + 5 + length payload) (log_of payloads) file

-- where there is no record, there is a closed gate
abbrev pub NoneIsClosed : Type 0
NoneIsClosed = (at : ℕ) (file : List ℕ) → HoldsAt at (log_of []) file → ClosedAt at file

-- the log ends at a gate that isn't open, and nowhere else
abbrev pub ClosedIsFound : Type 0
ClosedIsFound = (at : ℕ) (file : List ℕ) → ClosedAt at file → found_at at file ≡ Closed

abbrev pub FoundIsClosed : Type 0
FoundIsClosed = (at : ℕ) (file : List ℕ) → found_at at file ≡ Closed → ClosedAt at file

-- a record that is found ends behind its gate, its length and its payload, and the next gate is there
abbrev pub FoundIsWhole : Type 0
FoundIsWhole = (at next : ℕ) (payload file : List ℕ) → found_at at file ≡ Whole payload next → (next ≡ at + 5 + length payload) × (next < length file)

-- it is found too in each file that agrees up to the next gate, and has one
abbrev pub FoundAlong : Type 0
FoundAlong = (at next : ℕ) (payload c d : List ℕ) → found_at at d ≡ Whole payload next → take next c ≡ take next d → next < length c → found_at at c ≡ Whole payload next

-- a log that ends at a gate is read in each file that agrees up to there, and goes on from there
abbrev pub LogsGoOn : Type 0
LogsGoOn = (at end : ℕ) (d c : List ℕ) → (log_at at d).end ≡ Some end → take end c ≡ take end d → end < length c
    → log_at at c ≡ behind_records (log_at at d).records (log_at end c)

-- that gate is closed, and not before the log
abbrev pub LogsEndClosed : Type 0
LogsEndClosed = (at end : ℕ) (d : List ℕ) → (log_at at d).end ≡ Some end → ClosedAt end d × (at ≤ end)

-- payloads that were written are the records of a log
abbrev pub LogsAreRead : Type 0
LogsAreRead = (at : ℕ) (payloads : List (List ℕ)) (file : List ℕ) → AreShort payloads → HoldsAt at (log_of payloads) file
    → log_at at file ≡ record { records = as_records at payloads; end = Some (gate_behind at payloads) }
