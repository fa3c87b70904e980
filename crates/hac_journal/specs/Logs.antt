-- A log, as a file has it: its records, and how it ends.
use Rattle.std.specs.Prelude.{ℕ, zero, suc, ◌+◌, List, [], ◌∷◌, ◌++◌, length, map, Some, None}
use Rattle.std.specs.declared.option.Option.{Option}
use Rattle.hac_journal.specs.Finding.{Found, Whole, Closed, Short, found_at}

-- a record of a file: the place of its gate, and its payload
pub record Record : Type 0 where
  pub at : ℕ
  pub payload : List ℕ

-- a log: its records in order, and the place of the closed gate behind them; none, where the file ends before one
pub record Log : Type 0 where
  pub records : List Record
  pub end : Option ℕ

-- a log behind a record, and behind several
abbrev pub behind_record : Record → Log → Log
behind_record first log = record log { records = first ∷ log.records }

abbrev pub behind_records : List Record → Log → Log
behind_records records log = record log { records = records ++ log.records }

-- a log from a gate on, given what is found there and how it goes on behind a record
abbrev pub log_with : ℕ → Found → (ℕ → Log) → Log
log_with at Short next = record { records = []; end = None }
log_with at Closed next = record { records = []; end = Some at }
log_with at (Whole payload behind) next = behind_record (record { at = at; payload = payload }) (next behind)

-- a log from a gate on, at most this many records
unfoldable pub log_from : ℕ → ℕ → List ℕ → Log
log_from zero at file = record { records = []; end = None }
log_from (suc n) at file = log_with at (found_at at file) (λ behind. log_from n behind file)

-- a log from a gate on; a file has fewer records than bytes
abbrev pub log_at : ℕ → List ℕ → Log
log_at at file = log_from (length file) at file

abbrev pub payloads_of : List Record → List (List ℕ)
payloads_of records = map (λ one. one.payload) records

-- payloads as the records that a file has from a gate on
abbrev pub as_records : ℕ → List (List ℕ) → List Record
as_records at [] = []
as_records at (payload ∷ payloads) = record { at = at; payload = payload } ∷ as_records (at + 5 + length payload) payloads

-- where the gate behind them is
abbrev pub gate_behind : ℕ → List (List ℕ) → ℕ
gate_behind at [] = at
gate_behind at (payload ∷ payloads) = gate_behind (at + 5 + length payload) payloads

-- the place of the gate of the record behind so many
abbrev pub place_of : List Record → ℕ → ℕ
place_of [] count = 0
place_of (first ∷ records) zero = first.at
place_of (first ∷ records) (suc count) = place_of records count
