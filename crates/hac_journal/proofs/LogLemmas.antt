-- Logs, by their records.
use Rattle.std.proofs.Common.{◌≡◌, ℕ, zero, suc, ◌+◌, ◌<◌, ◌≤◌, List, [], ◌∷◌, length, take, None, Some, refl, sym, ◌∙◌, ap, subst, arith}
use Rattle.std.proofs.lemmas.List.{drop_all}
use Rattle.hac_journal.specs.Appending.{ClosedAt}
use Rattle.hac_journal.specs.Finding.{Found, Whole, Closed, Short, found_at, found_in}
use Rattle.hac_journal.specs.Laws.{LogsAreRead, LogsEndClosed, LogsGoOn}
use Rattle.hac_journal.specs.Logs.{Log, Record, behind_record, behind_records, log_at, log_from, log_with}
use Rattle.hac_journal.proofs.CrashLemmas.{front-less}
use Rattle.hac_journal.proofs.LawLemmas.{closed-is-found, found-along, found-is-closed, found-is-whole, none-is-closed, records-are-found}

-- one record of a log that is read
log-step : (n at : ℕ) (file : List ℕ) → log_from (suc n) at file ≡ log_with at (found_at at file) (λ behind. log_from n behind file)
unfolding log_from
log-step n at file = refl

log-none : (at : ℕ) (file : List ℕ) → log_from zero at file ≡ record { records = []; end = None }
unfolding log_from
log-none at file = refl

-- past the end of a file there is none
log-past : (n at : ℕ) (file : List ℕ) → length file ≤ at → log_from n at file ≡ record { records = []; end = None }
log-past zero at file past = log-none at file
log-past (suc n) at file past =
    let short : found_at at file ≡ Short = ap (found_in at) (drop_all at file past) in
    log-step n at file ∙ ap (λ (found : Found). log_with at found (λ behind. log_from n behind file)) short

-- what follows what was found, where it is the same behind the record that may be there
with-same : (at : ℕ) (found : Found) (next other : ℕ → Log) → ((payload : List ℕ) (behind : ℕ) → found ≡ Whole payload behind → next behind ≡ other behind)
    → log_with at found next ≡ log_with at found other
with-same at Short next other same = refl
with-same at Closed next other same = refl
with-same at (Whole payload behind) next other same = ap (behind_record (record { at = at; payload = payload })) (same payload behind refl)

-- as many steps as there are bytes are enough
log-enough : (m n at : ℕ) (file : List ℕ) → length file ≤ at + m → length file ≤ at + n → log_from m at file ≡ log_from n at file
log-enough zero n at file short enough = log-past zero at file (omega arith) ∙ sym (log-past n at file (omega arith))
log-enough (suc m) zero at file short enough = log-past (suc m) at file (omega arith) ∙ sym (log-past zero at file (omega arith))
log-enough (suc m) (suc n) at file short enough =
    log-step m at file
    ∙ with-same at (found_at at file) (λ behind. log_from m behind file) (λ behind. log_from n behind file)
    (λ payload behind found. let whole = found-is-whole at behind payload file found in log-enough m n behind file (omega (arith, whole.0)) (omega (arith, whole.0)))
    ∙ sym (log-step n at file)

-- a log by what is found at its first gate
pub log-rule : (at : ℕ) (file : List ℕ) → log_at at file ≡ log_with at (found_at at file) (λ behind. log_at behind file)
log-rule at file = log-enough (length file) (suc (length file)) at file (omega arith) (omega arith) ∙ log-step (length file) at file

pub log-found : (at : ℕ) (file : List ℕ) (found : Found) → found_at at file ≡ found → log_at at file ≡ log_with at found (λ behind. log_at behind file)
log-found at file found is = log-rule at file ∙ ap (λ (f : Found). log_with at f (λ behind. log_at behind file)) is

-- Of a log that ends at a gate, what each record passes on to the one before it, and the closed gate has, the log has.
module _ (P : ℕ → Log → Type 0) (d : List ℕ) (end : ℕ)
    (last : ClosedAt end d → P end (record { records = []; end = Some end }))
    (each : (at behind : ℕ) (payload : List ℕ) (log : Log) → found_at at d ≡ Whole payload behind → behind ≤ end → P behind log → P at (behind_record (record { at = at; payload = payload }) log)) where
  -- it has that, and isn't behind its end
  abbrev Has : ℕ → Log → Type 0
  Has at log = (at ≤ end) × P at log

  found-has : (at : ℕ) (found : Found) (next : ℕ → Log) → found_at at d ≡ found → ((behind : ℕ) → (next behind).end ≡ Some end → Has behind (next behind))
      → (log_with at found next).end ≡ Some end → Has at (log_with at found next)
  found-has at Short next found rest is = absurd (cc)
  found-has at Closed next found rest is =
      let same : end ≡ at = cc in
      subst (λ (e : ℕ). Has e (record { records = []; end = Some e })) same
      (omega arith, last (subst (λ (e : ℕ). ClosedAt e d) (sym same) (found-is-closed at d found)))
  found-has at (Whole payload behind) next found rest is =
      let behind_it = rest behind is in
      let whole = found-is-whole at behind payload d found in
      (omega (arith, whole.0, behind_it.0), each at behind payload (next behind) found behind_it.0 behind_it.1)

  from-has : (n at : ℕ) → (log_from n at d).end ≡ Some end → Has at (log_from n at d)
  from-has zero at is = let none = ap (λ (log : Log). log.end) (sym (log-none at d)) ∙ is in absurd (cc)
  from-has (suc n) at is =
      let step = log-step n at d in
      subst (Has at) (sym step) (found-has at (found_at at d) (λ behind. log_from n behind d) refl (λ behind more. from-has n behind more) (ap (λ (log : Log). log.end) (sym step) ∙ is))

  pub log-has : (at : ℕ) → (log_at at d).end ≡ Some end → P at (log_at at d)
  log-has at is = (from-has (length d) at is).1

-- the gate at which it ends is closed, and not before it
abbrev EndsClosed : List ℕ → ℕ → ℕ → Log → Type 0
EndsClosed d end at log = ClosedAt end d × (at ≤ end)

pub logs-end-closed : LogsEndClosed
logs-end-closed at end d is =
    log-has (EndsClosed d end) d end (λ closed. (closed, omega arith))
    (λ first behind payload log found ahead rest. let whole = found-is-whole first behind payload d found in (rest.0, omega (arith, whole.0, rest.1))) at is

-- it goes on in a file that agrees up to its end
abbrev GoesOn : List ℕ → ℕ → ℕ → Log → Type 0
GoesOn c end at log = log_at at c ≡ behind_records log.records (log_at end c)

pub logs-go-on : LogsGoOn
logs-go-on at end d c is front long =
    log-has (GoesOn c end) d end (λ closed. refl)
    (λ first behind payload log found ahead rest.
    log-found first c (Whole payload behind) (found-along first behind payload c d found (front-less c d behind end ahead front) (omega (arith, ahead, long)))
    ∙ ap (behind_record (record { at = first; payload = payload })) rest) at is

-- records that were written are read
pub logs-are-read : LogsAreRead
logs-are-read at [] file short holds = log-found at file Closed (closed-is-found at file (none-is-closed at file holds))
logs-are-read at (payload ∷ payloads) file short holds =
    let behind = at + 5 + length payload in
    let found = records-are-found at payload payloads file short.0 holds in
    log-found at file (Whole payload behind) found.0 ∙ ap (behind_record (record { at = at; payload = payload })) (logs-are-read behind payloads file short.1 found.1)
