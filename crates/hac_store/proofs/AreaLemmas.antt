-- Areas, as they are read from their first gate on.
use Rattle.std.proofs.Common.{◌≡◌, ◌⊎◌, inl, inr, ℕ, ◌+◌, ◌<◌, ◌≤◌, None, Bool, true, false, if◌then◌else◌, List, [], length, take, Some, Result, Ok, Err, refl, sym, ◌∙◌, ap, subst, arith}
use Rattle.std.specs.declared.option.Option.{Option}
use Rattle.event_codec.specs.Kinds.{kind_of}
use Rattle.event_codec.specs.declared.kinds.PayloadKind.{PayloadKind}
use Rattle.event_codec.specs.declared.kinds.PayloadKind.TheVariants as kind
use Rattle.hac_checkpoint.specs.Areas.{HaveSame}
use Rattle.hac_checkpoint.specs.declared.areas.Area.{Area}
use Rattle.hac_checkpoint.specs.declared.heads.Stop.{Stop}
use Rattle.hac_checkpoint.specs.declared.heads.Stop.TheVariants as stop
use Rattle.hac_checkpoint.proofs.ApartLemmas.{closed-gates-are-kept, records-are-kept}
use Rattle.hac_journal.specs.Appending.{ClosedAt}
use Rattle.hac_journal.specs.Finding.{Found, Whole, Closed, Short, found_at}
use Rattle.hac_journal.specs.Logs.{Log, Record, behind_record, log_at}
use Rattle.hac_journal.proofs.CrashLemmas.{front-less}
use Rattle.hac_journal.proofs.LawLemmas.{closed-is-found, found-along, found-is-closed, found-is-whole}
use Rattle.hac_journal.proofs.LogLemmas.{log-found}
use Rattle.hac_model.specs.Payload.Payloads.{event_text, spelled}
use Rattle.hac_model.specs.Payload.States.{restored, spelled_snapshot}
use Rattle.hac_model.specs.Run.Answers.{◌>>=◌}
use Rattle.hac_model.specs.Tree.{empty, root_alone}
use Rattle.hac_model.specs.Tree.Limits.{first_passed, passed_limit}
use Rattle.hac_model.specs.Tree.Sessions.{sessionless}
use Rattle.hac_model.specs.Tree.Valid.{IsValid}
use Rattle.hac_model.specs.Tree.ValidTest.{is_valid}
use Rattle.hac_model.specs.declared.events.Event.{Event}
use Rattle.hac_model.specs.declared.snapshots.Snapshot.{Snapshot}
use Rattle.hac_model.specs.declared.states.State.{State}
use Rattle.hac_model.specs.declared.versions.Version.{Version}
use Rattle.hac_model.specs.declared.versions.Version.TheVariants.{One, Two}
use Rattle.hac_model.proofs.ValidTestLemmas.{valid-Decides}
use Rattle.hac_model.proofs.VersionLemmas.{none-few}
use Rattle.hac_store.specs.Held.{Led, after_payload, after_snapshot, area, area_by_kind, area_in, begun_with, led_by, led_in, log}
use Rattle.hac_store.proofs.LogLemmas.{go-parts, go_on, log-closed, log-ends, log-is, log-short, log-stored, log-valid, log-whole}

-- an area, by the log that it has
area-of : (at : ℕ) (file : List ℕ) (records : Log) → log_at at file ≡ records → area at file ≡ (area_in records >>= led_in)
unfolding area
area-of at file records is = ap (λ (l : Log). area_in l >>= led_in) is

-- a record that is at the place holds an event of this version
abbrev pub GoesOn : Version → ℕ → List ℕ → Type 0
GoesOn version at file = (payload : List ℕ) (behind : ℕ) → found_at at file ≡ Whole payload behind → kind_of payload ≡ kind.Event version

-- so it is where nothing is
pub closed-goes : (version : Version) (at : ℕ) (file : List ℕ) → found_at at file ≡ Closed → GoesOn version at file
closed-goes version at file closed payload behind whole = let never : Closed ≡ Whole payload behind = sym closed ∙ whole in absurd cc

-- and where such a payload is
pub event-goes : (version : Version) (at : ℕ) (file payload : List ℕ) (behind : ℕ) → found_at at file ≡ Whole payload behind
    → kind_of payload ≡ kind.Event version → GoesOn version at file
event-goes version at file payload behind found event other next whole =
    let same : Whole payload behind ≡ Whole other next = sym found ∙ whole in
    let one : payload ≡ other = cc in
    subst (λ (p : List ℕ). kind_of p ≡ kind.Event version) one event

-- the payload of an event is that of no state, and tells its version
pub event-kind : (version : Version) (event : Event) → kind_of (event_text version event) ≡ kind.Event version
unfolding event_text
event-kind One event = refl
event-kind Two event = refl

-- an area that begins with an event is a log of the root alone, in the version that its payload tells
pub area-event : (at : ℕ) (file payload : List ℕ) (behind : ℕ) (version : Version) → found_at at file ≡ Whole payload behind → kind_of payload ≡ kind.Event version
    → area at file ≡ log (root_alone version) at file
area-event at file payload behind version found event =
    let first : Record = record { at = at; payload = payload } in
    let here = log-found at file (Whole payload behind) found in
    area-of at file (behind_record first (log_at behind file)) here
    ∙ ap (λ (k : PayloadKind). area_by_kind first (log_at behind file) k >>= led_in) event
    ∙ ap (led_by (root_alone version)) (sym here) ∙ sym (log-is (root_alone version) at file)

-- where no record is, it is a log of what a new store holds
area-empty : (at : ℕ) (file : List ℕ) (end : Option ℕ) → log_at at file ≡ record { records = []; end = end } → area at file ≡ log empty at file
area-empty at file end here = area-of at file (record { records = []; end = end }) here ∙ ap (led_by empty) (sym here) ∙ sym (log-is empty at file)

pub area-none : (at : ℕ) (file : List ℕ) → (found_at at file ≡ Closed) ⊎ (found_at at file ≡ Short) → area at file ≡ log empty at file
area-none at file (inl closed) = area-empty at file (Some at) (log-found at file Closed closed)
area-none at file (inr short) = area-empty at file None (log-found at file Short short)

-- and where one is of that version
area-goes : (at : ℕ) (file : List ℕ) → GoesOn Two at file → area at file ≡ log empty at file
area-goes at file goes = by (found_at at file) refl
  where
    by : (found : Found) → found_at at file ≡ found → area at file ≡ log empty at file
    by Short is = area-none at file (inr is)
    by Closed is = area-none at file (inl is)
    by (Whole payload behind) is =
        area-event at file payload behind Two is (goes payload behind is)

-- an area with a whole state is a log of that
state-leads : (rest : Log) (behind : ℕ) (file : List ℕ) (r : Result State Stop) → log_at behind file ≡ rest → ((r >>= begun_with rest) >>= led_in) ≡ go_on r (λ new. log new behind file)
state-leads rest behind file (Ok s) here = ap (led_by s) (sym here) ∙ sym (log-is s behind file)
state-leads rest behind file (Err why) here = refl

pub area-state : (at : ℕ) (file payload : List ℕ) (behind : ℕ) → found_at at file ≡ Whole payload behind → kind_of payload ≡ kind.State →
    area at file ≡ go_on (after_snapshot at (spelled_snapshot payload)) (λ new. log new behind file)
area-state at file payload behind found is =
    let first : Record = record { at = at; payload = payload } in
    area-of at file (behind_record first (log_at behind file)) (log-found at file (Whole payload behind) found)
    ∙ ap (λ (k : PayloadKind). area_by_kind first (log_at behind file) k >>= led_in) is
    ∙ state-leads (log_at behind file) behind file (after_snapshot at (spelled_snapshot payload)) refl

pub area-closed : (at : ℕ) (file : List ℕ) → found_at at file ≡ Closed → area at file ≡ Ok (record { state = empty; end = at })
area-closed at file is = area-none at file (inl is) ∙ log-closed empty at file is

pub area-short : (at : ℕ) (file : List ℕ) → found_at at file ≡ Short → area at file ≡ Err stop.Short
area-short at file is = area-none at file (inr is) ∙ log-short empty at file is

-- the state behind the first record of an area: a whole state, or what an event makes of the root alone, by the kind of its
-- payload
abbrev after_kind : ℕ → List ℕ → PayloadKind → Result State Stop
after_kind at payload kind.State = after_snapshot at (spelled_snapshot payload)
after_kind at payload (kind.Event version) = after_payload (root_alone version) at (spelled version payload)

area-whole : (at : ℕ) (file payload : List ℕ) (behind : ℕ) → found_at at file ≡ Whole payload behind → area at file ≡ go_on (after_kind at payload (kind_of payload)) (λ new. log new behind file)
area-whole at file payload behind found =
    elim (kind_of payload) as (λ k. kind_of payload ≡ k → area at file ≡ go_on (after_kind at payload k) (λ new. log new behind file)) [
      | kind.State ↦ (λ state. area-state at file payload behind found state)
      | kind.Event version ↦ (λ event. area-event at file payload behind version found event ∙ log-whole (root_alone version) at file payload behind found)
    ] refl

-- an area that was read ends at a closed gate, goes on in a file that agrees up to there and has an event of its version
-- there, and is the same in a file that has the same in it
pub record AreaEnds (at : ℕ) (d : List ℕ) (l : Led) : Type 0 where
  pub closed : ClosedAt l.end d
  pub behind : at ≤ l.end
  pub along : (c : List ℕ) → take l.end c ≡ take l.end d → l.end < length c → GoesOn l.state.version l.end c → area at c ≡ log l.state l.end c
  pub kept : (place : Area) (c : List ℕ) → HaveSame place c d → place.start ≤ at → l.end ≤ place.end → area at c ≡ Ok l

pub area-ends : (at : ℕ) (d : List ℕ) (l : Led) → area at d ≡ Ok l → AreaEnds at d l
area-ends at d l is = by (found_at at d) refl
  where
    by : (found : Found) → found_at at d ≡ found → AreaEnds at d l
    by Short found = let never = sym (area-short at d found) ∙ is in absurd cc
    by Closed found =
        let told : Ok (record { state = empty; end = at }) ≡ Ok l = sym (area-closed at d found) ∙ is in
        let same : record { state = empty; end = at } ≡ l = cc in
        subst (AreaEnds at d) same
        (record {
          closed = found-is-closed at d found;
          behind = omega arith;
          along = λ c front long goes. area-goes at c goes;
          kept = λ place c same low high. area-closed at c (closed-is-found at c (closed-gates-are-kept place at c d same low high (found-is-closed at d found)));
        })
    by (Whole payload behind) found =
        let parts = go-parts (after_kind at payload (kind_of payload)) (λ new. log new behind d) l (sym (area-whole at d payload behind found) ∙ is) in
        let ends = log-ends parts.0 behind d l parts.2 in
        let whole = found-is-whole at behind payload d found in
        record {
          closed = ends.closed;
          behind = omega (arith, whole.0, ends.behind);
          along = λ c front long goes.
              let again = found-along at behind payload c d found (front-less c d behind l.end ends.behind front) (omega (arith, ends.behind, long)) in
              area-whole at c payload behind again ∙ ap (λ (r : Result State Stop). go_on r (λ next. log next behind c)) parts.1 ∙ ends.along c front long;
          kept = λ place c same low high.
              let again = records-are-kept place at behind payload c d same low (omega (arith, ends.behind, high)) found in
              area-whole at c payload behind again ∙ ap (λ (r : Result State Stop). go_on r (λ next. log next behind c)) parts.1
              ∙ ends.kept place c same (omega (arith, whole.0, low)) high;
        }

-- a state that was read is valid, and is in no session
snapshot-sound : (at : ℕ) (r : Result Snapshot ℕ) (new : State) → after_snapshot at r ≡ Ok new → IsValid new × (sessionless new ≡ new)
unfolding restored
snapshot-sound at (Err offset) new is = absurd cc
snapshot-sound at (Ok snapshot) new is = tested (is_valid (restored snapshot)) refl is
  where
    tested : (b : Bool) → is_valid (restored snapshot) ≡ b → (if b then Ok (restored snapshot) else Err (stop.BadAt (at + 5))) ≡ Ok new → IsValid new × (sessionless new ≡ new)
    tested true valid is =
        let same : restored snapshot ≡ new = cc in
        subst (λ (s : State). IsValid s × (sessionless s ≡ s)) same ((valid-Decides (restored snapshot)).0 valid, refl)
    tested false valid is = absurd cc

-- the root alone is valid in each version
pub alone-valid : (version : Version) → IsValid (root_alone version)
unfolding passed_limit first_passed
alone-valid version = record {
  layout = record { numbers = omega arith; names = tt; places = tt; differ = tt; bodies = tt; limits = none version };
  queries = tt;
  answers = tt;
  few = refl;
  acyclic = λ steps dir back. back.1;
  sessions = record { names = tt; differ = tt; there = tt; elsewhere = tt; few = none-few version };
}
  where
    none : (version : Version) → passed_limit (root_alone version) ≡ None
    none One = refl
    none Two = refl

-- what an area leads to is valid, and is in no session
pub area-sound : (at : ℕ) (d : List ℕ) (l : Led) → area at d ≡ Ok l → IsValid l.state × (sessionless l.state ≡ l.state)
area-sound at d l is = by (found_at at d) refl
  where
    of_log : (version : Version) → log (root_alone version) at d ≡ Ok l → IsValid l.state × (sessionless l.state ≡ l.state)
    of_log version read = (log-valid (root_alone version) at d l (alone-valid version) read, log-stored (root_alone version) at d l (alone-valid version) refl read)

    of_state : (payload : List ℕ) (behind : ℕ) → found_at at d ≡ Whole payload behind → kind_of payload ≡ kind.State → IsValid l.state × (sessionless l.state ≡ l.state)
    of_state payload behind found state =
        let parts = go-parts (after_snapshot at (spelled_snapshot payload)) (λ new. log new behind d) l (sym (area-state at d payload behind found state) ∙ is) in
        let sound = snapshot-sound at (spelled_snapshot payload) parts.0 parts.1 in
        (log-valid parts.0 behind d l sound.0 parts.2, log-stored parts.0 behind d l sound.0 sound.1 parts.2)

    by : (found : Found) → found_at at d ≡ found → IsValid l.state × (sessionless l.state ≡ l.state)
    by Short found = let never = sym (area-short at d found) ∙ is in absurd cc
    by Closed found = of_log Two (sym (area-none at d (inl found)) ∙ is)
    by (Whole payload behind) found = elim (kind_of payload) as (λ k. kind_of payload ≡ k → IsValid l.state × (sessionless l.state ≡ l.state)) [
      | kind.State ↦ (λ state. of_state payload behind found state)
      | kind.Event version ↦ (λ event. of_log version (sym (area-event at d payload behind version found event) ∙ is))
    ] refl
