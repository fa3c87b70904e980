-- Logs, as they are read from a gate on.
use Rattle.std.proofs.Common.{◌≡◌, ℕ, suc, ◌+◌, ◌<◌, ◌≤◌, Bool, true, false, if◌then◌else◌, List, [], ◌∷◌, length, take, map, None, Some, Result, Ok, Err, IsTrue, refl, sym, ◌∙◌, ap, subst, arith}
use Rattle.std.specs.declared.option.Option.{Option}
use Rattle.hac_checkpoint.specs.Areas.{HaveSame}
use Rattle.hac_checkpoint.specs.declared.areas.Area.{Area}
use Rattle.hac_checkpoint.specs.declared.heads.Stop.{Stop}
use Rattle.hac_checkpoint.specs.declared.heads.Stop.TheVariants as stop
use Rattle.hac_checkpoint.proofs.LogLemmas.{logs-are-kept}
use Rattle.hac_journal.specs.Appending.{ClosedAt, HoldsAt}
use Rattle.hac_journal.specs.Finding.{Whole, Closed, Short, found_at}
use Rattle.hac_journal.specs.Logs.{Log, Record, behind_record, behind_records, log_at, payloads_of, place_of}
use Rattle.hac_journal.specs.Records.{log_of}
use Rattle.hac_journal.proofs.LawLemmas.{closed-is-found, none-is-closed, records-are-found}
use Rattle.hac_journal.proofs.LogLemmas.{log-found, logs-end-closed, logs-go-on}
use Rattle.hac_model.specs.Run.History.{Fault, History, Unaccepted, event_by, event_spelled, history, history_with, state_behind}
use Rattle.hac_model.specs.Tree.Events.{accepted, apply, apply_all}
use Rattle.hac_model.specs.Payload.Payloads.{event_text, is_spellable, spelled}
use Rattle.hac_model.specs.Run.Play.{end_behind}
use Rattle.hac_model.specs.Tree.Sessions.{is_stored, sessionless}
use Rattle.hac_model.specs.Tree.Valid.{IsValid}
use Rattle.hac_model.specs.declared.events.Event.{Event}
use Rattle.hac_model.specs.declared.states.State.{State}
use Rattle.hac_model.specs.declared.versions.Version.{Version}
use Rattle.hac_model.proofs.AcyclicLemmas.{apply-valid}
use Rattle.hac_model.proofs.HistoryLemmas.{histories-go-on, histories-keep, history-count, history-none, history-step}
use Rattle.hac_model.proofs.PlayLemmas.{apply_all-append}
use Rattle.hac_model.proofs.SpelledLemmas.{not-stored}
use Rattle.event_codec.proofs.PayloadLemmas.{written_is_read}
use Rattle.std.proofs.lemmas.List.{length-map, map-append}
use Rattle.std.proofs.Common.{◌++◌, length-append}
use Rattle.hac_store.specs.Held.{Led, after_event, after_payload, end_by, fault_place, led_by, led_of, led_with, log}
use Rattle.hac_store.proofs.StoredLemmas.{AreStored, spelled_kept, version-after}

-- what follows a record, where it is sound
abbrev pub go_on : Result State Stop → (State → Result Led Stop) → Result Led Stop
go_on (Err stop) next = Err stop
go_on (Ok new) next = next new

-- ---- a log, by its first record

pub log-is : (s : State) (at : ℕ) (file : List ℕ) → log s at file ≡ led_by s (log_at at file)
unfolding log
log-is s at file = refl

log-of : (s : State) (at : ℕ) (file : List ℕ) (records : Log) → log_at at file ≡ records → log s at file ≡ led_by s records
log-of s at file records is = log-is s at file ∙ ap (led_by s) is

-- where there is no record, a log leads nowhere else
pub led-none : (s : State) (end : Option ℕ) → led_by s (record { records = []; end = end }) ≡ led_with s (end_by end)
led-none s end = ap (led_of s (record { records = []; end = end })) (history-none s)

pub log-closed : (s : State) (at : ℕ) (file : List ℕ) → found_at at file ≡ Closed → log s at file ≡ Ok (record { state = s; end = at })
log-closed s at file found = log-of s at file (record { records = []; end = Some at }) (log-found at file Closed found) ∙ led-none s (Some at)

pub log-short : (s : State) (at : ℕ) (file : List ℕ) → found_at at file ≡ Short → log s at file ≡ Err stop.Short
log-short s at file found = log-of s at file (record { records = []; end = None }) (log-found at file Short found) ∙ led-none s None

-- the first event leads to what is behind it
event-leads : (s : State) (first : Record) (log : Log) (event : Event) (events : List Event) (fault : Option Fault)
    → led_of (apply s event) log (record { events = events; fault = fault }) ≡ led_of s (behind_record first log) (record { events = event ∷ events; fault = fault })
event-leads s first log event events None = refl
event-leads s first log event events (Some fault) = refl

payload-leads : (s : State) (first : Record) (log : Log) (r : Result Event Fault) (next : State → Result Led Stop) → ((new : State) → next new ≡ led_by new log)
    → go_on (after_event s first.at r) next ≡ led_of s (behind_record first log) (history_with r (λ event. history (apply s event) (payloads_of log.records)))
payload-leads s first log (Err fault) next same = refl
payload-leads s first log (Ok event) next same =
    let story = history (apply s event) (payloads_of log.records) in same (apply s event) ∙ event-leads s first log event story.events story.fault

pub record-leads : (s : State) (first : Record) (log : Log) (next : State → Result Led Stop) → ((new : State) → next new ≡ led_by new log)
    → go_on (after_payload s first.at (spelled s.version first.payload)) next ≡ led_by s (behind_record first log)
record-leads s first log next same =
    payload-leads s first log (event_by s first.payload) next same
    ∙ ap (led_of s (behind_record first log)) (sym (history-step s first.payload (payloads_of log.records)))

pub log-whole : (s : State) (at : ℕ) (file payload : List ℕ) (behind : ℕ) → found_at at file ≡ Whole payload behind
    → log s at file ≡ go_on (after_payload s at (spelled s.version payload)) (λ new. log new behind file)
log-whole s at file payload behind found =
    let first : Record = record { at = at; payload = payload } in
    log-of s at file (behind_record first (log_at behind file)) (log-found at file (Whole payload behind) found)
    ∙ sym (record-leads s first (log_at behind file) (λ new. log new behind file) (λ new. log-is new behind file))

-- ---- a log, by where it leads

-- where all records happen, their log leads on from the state behind them
place-behind : (first more : List Record) (count : ℕ) → place_of (first ++ more) (length first + count) ≡ place_of more count
place-behind [] more count = let same : 0 + count ≡ count = omega arith in ap (place_of more) same
place-behind (one ∷ first) more count =
    let same : length (one ∷ first) + count ≡ suc (length first + count) = omega arith in
    ap (place_of (one ∷ (first ++ more))) same ∙ place-behind first more count

led-behind : (s : State) (records : List Record) (log : Log) (first events : List Event) (fault : Option Fault) → length first ≡ length records
    → led_of s (behind_records records log) (record { events = first ++ events; fault = fault }) ≡ led_of (apply_all s first) log (record { events = events; fault = fault })
led-behind s records log first events None count = ap (λ (t : State). led_with t (end_by log.end)) (apply_all-append first events s)
led-behind s records log first events (Some fault) count =
    let place : place_of (records ++ log.records) (length (first ++ events)) ≡ place_of log.records (length events) =
    ap (place_of (records ++ log.records)) (length-append first events ∙ ap (λ (n : ℕ). n + length events) count) ∙ place-behind records log.records (length events) in
    ap (λ (n : ℕ). Err (stop.BadAt (fault_place n fault))) place

pub logs-lead-on : (s : State) (records : List Record) (log : Log) → (history s (payloads_of records)).fault ≡ None
    → led_by s (behind_records records log) ≡ led_by (state_behind s (payloads_of records)) log
logs-lead-on s records log none =
    let first = history s (payloads_of records) in
    let rest = history (state_behind s (payloads_of records)) (payloads_of log.records) in
    let count : length first.events ≡ length records = history-count s (payloads_of records) none ∙ length-map records (λ (r : Record). r.payload) in
    ap (λ (l : List (List ℕ)). led_of s (behind_records records log) (history s l)) (map-append (λ (r : Record). r.payload) records log.records)
    ∙ ap (led_of s (behind_records records log)) (histories-go-on s (payloads_of records) (payloads_of log.records) none)
    ∙ led-behind s records log first.events rest.events rest.fault count

-- a log that leads somewhere ends there, and all its records happen
pub record Leads (s : State) (log : Log) (l : Led) : Type 0 where
  pub end : log.end ≡ Some l.end
  pub happens : (history s (payloads_of log.records)).fault ≡ None
  pub state : state_behind s (payloads_of log.records) ≡ l.state

of-end : (s : State) (end : Option ℕ) (l : Led) → led_with s (end_by end) ≡ Ok l → (end ≡ Some l.end) × (s ≡ l.state)
of-end s None l is = absurd (cc)
of-end s (Some end) l is = let same : record { state = s; end = end } ≡ l = cc in (ap (λ (l : Led). Some l.end) same, ap (λ (l : Led). l.state) same)

of-history : (s : State) (log : Log) (l : Led) (events : List Event) (fault : Option Fault) → led_of s log (record { events = events; fault = fault }) ≡ Ok l
    → (fault ≡ None) × ((log.end ≡ Some l.end) × (apply_all s events ≡ l.state))
of-history s log l events None is = (refl, of-end (apply_all s events) log.end l is)
of-history s log l events (Some fault) is = absurd (cc)

pub leads : (s : State) (log : Log) (l : Led) → led_by s log ≡ Ok l → Leads s log l
leads s log l is =
    let story = history s (payloads_of log.records) in
    let parts = of-history s log l story.events story.fault is in record { end = parts.1.0; happens = parts.0; state = parts.1.1 }

-- what a record was, that a log goes on behind
pub go-parts : (r : Result State Stop) (next : State → Result Led Stop) (l : Led) → go_on r next ≡ Ok l → (new : State) × (r ≡ Ok new) × (next new ≡ Ok l)
go-parts (Ok new) next l is = (new, refl, is)
go-parts (Err stop) next l is = absurd (cc)

-- a log that was read ends at a closed gate, goes on in a file that agrees up to there, and is the same in a file that
-- has the same in its area
pub record Ends (s : State) (at : ℕ) (d : List ℕ) (l : Led) : Type 0 where
  pub closed : ClosedAt l.end d
  pub behind : at ≤ l.end
  pub along : (c : List ℕ) → take l.end c ≡ take l.end d → l.end < length c → log s at c ≡ log l.state l.end c
  pub kept : (area : Area) (c : List ℕ) → HaveSame area c d → area.start ≤ at → l.end ≤ area.end → log s at c ≡ Ok l

pub log-ends : (s : State) (at : ℕ) (d : List ℕ) (l : Led) → log s at d ≡ Ok l → Ends s at d l
log-ends s at d l is =
    let led = sym (log-is s at d) ∙ is in
    let parts = leads s (log_at at d) l led in
    let closed = logs-end-closed at l.end d parts.end in
    record {
      closed = closed.0;
      behind = closed.1;
      along = λ c front long.
          log-of s at c (behind_records (log_at at d).records (log_at l.end c)) (logs-go-on at l.end d c parts.end front long)
          ∙ logs-lead-on s (log_at at d).records (log_at l.end c) parts.happens
          ∙ ap (λ (t : State). led_by t (log_at l.end c)) parts.state ∙ sym (log-is l.state l.end c);
      kept = λ area c same low high. log-of s at c (log_at at d) (logs-are-kept area at l.end c d same low high parts.end) ∙ led;
    }

-- what each stored event keeps that can happen, a log keeps
module _ (P : State → Type 0) (each : (s : State) (event : Event) → P s → IsTrue (is_stored event) → IsTrue (accepted s event) → P (apply s event)) where
  tested-keeps : (s : State) (first event : Event) (b : Bool) → accepted s first ≡ b → IsTrue (is_stored first) → P s → (if b then Ok first else Err (Unaccepted first)) ≡ Ok event → P (apply s event)
  tested-keeps s first event true accepted kept p is = let same : first ≡ event = cc in subst (λ (e : Event). P (apply s e)) same (each s first p kept accepted)
  tested-keeps s first event false accepted kept p is = absurd (cc)

  spelled-keeps : (s : State) (r : Result Event ℕ) (event : Event) → ((event : Event) → r ≡ Ok event → IsTrue (is_stored event)) → P s → event_spelled s r ≡ Ok event → P (apply s event)
  spelled-keeps s (Err offset) event kept p is = absurd (cc)
  spelled-keeps s (Ok first) event kept p is = tested-keeps s first event (accepted s first) refl (kept first refl) p is

  log-keeps : (s : State) (at : ℕ) (d : List ℕ) (l : Led) → P s → log s at d ≡ Ok l → P l.state
  log-keeps s at d l p is =
      let parts = leads s (log_at at d) l (sym (log-is s at d) ∙ is) in
      subst P parts.state (histories-keep P (λ t payload event q told. spelled-keeps t (spelled t.version payload) event (spelled_kept t.version payload) q told) s (payloads_of (log_at at d).records) p)

-- so what it leads to is valid
pub log-valid : (s : State) (at : ℕ) (d : List ℕ) (l : Led) → IsValid s → log s at d ≡ Ok l → IsValid l.state
log-valid s at d l h is = log-keeps IsValid (λ s event valid kept ok. apply-valid s event valid ok) s at d l h is

-- and is in no session
abbrev IsWhole : State → Type 0
IsWhole s = IsValid s × (sessionless s ≡ s)

pub log-stored : (s : State) (at : ℕ) (d : List ℕ) (l : Led) → IsValid s → sessionless s ≡ s → log s at d ≡ Ok l → sessionless l.state ≡ l.state
log-stored s at d l valid whole is =
    (log-keeps IsWhole
    (λ s event old kept ok. let after = not-stored s event old.0 kept ok in (apply-valid s event old.0 ok, after.1 ∙ ap (λ (t : State). apply t event) old.1))
    s at d l (valid, whole) is).1

-- the end of a log doesn't fall
pub end-grows : (version : Version) (events : List Event) (end : ℕ) → end ≤ end_behind version end events
end-grows version [] end = omega arith
end-grows version (event ∷ events) end = omega (arith, end-grows version events (end + 5 + length (event_text version event)))

judged-event : (version : Version) (s : State) (at : ℕ) (event : Event) → s.version ≡ version → IsTrue (accepted s event) → IsTrue (is_spellable version event)
    → after_payload s at (spelled s.version (event_text version event)) ≡ Ok (apply s event)
judged-event version s at event is accepted spellable =
    ap (λ (v : Version). after_payload s at (spelled v (event_text version event))) is
    ∙ ap (after_payload s at) (written_is_read version event spellable) ∙ ap (λ (b : Bool). after_event s at (if b then Ok event else Err (Unaccepted event))) accepted

-- records of events are read as what these lead to
pub log-records : (version : Version) (events : List Event) (s : State) (at : ℕ) (file : List ℕ) → s.version ≡ version → AreStored version s events
    → HoldsAt at (log_of (map (event_text version) events)) file → log s at file ≡ Ok (record { state = apply_all s events; end = end_behind version at events })
log-records version [] s at file is stored holds = log-closed s at file (closed-is-found at file (none-is-closed at file holds))
log-records version (event ∷ events) s at file is (accepted, spellable, short, stored) holds =
    let payload = event_text version event in
    let behind = at + 5 + length payload in
    let found = records-are-found at payload (map (event_text version) events) file short holds in
    log-whole s at file payload behind found.0
    ∙ ap (λ (r : Result State Stop). go_on r (λ new. log new behind file)) (judged-event version s at event is accepted spellable)
    ∙ log-records version events (apply s event) behind file (version-after version s event is) stored found.1
