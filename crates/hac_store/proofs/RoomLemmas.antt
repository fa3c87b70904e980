-- Whether records fit behind the end of a log.
use Rattle.std.proofs.Common.{◌≡◌, ℕ, zero, suc, ◌+◌, ◌*◌, ◌<◌, ◌≤◌, List, [], ◌∷◌, length, map, nat_lt, ◌==◌, ◌||◌, Bool, replicate, IsTrue, true, false, refl, sym, ◌∙◌, ap, arith, length-append, ⊎_elim, Vec}
use Rattle.std.specs.Prelude.{if◌then◌else◌}
use Rattle.std.specs.declared.alloc.Global.{Global}
use Rattle.std.proofs.lemmas.Bool.{cases_lt}
use Rattle.std.proofs.lemmas.Bool.Decides.{nat_tests}
use Rattle.hac_journal.specs.Records.{contents_of, log_of, record_of, records_of}
use Rattle.hac_journal.proofs.RecordLemmas.{length-contents, length-log, length-record}
use Rattle.hac_model.specs.Payload.Payloads.{event_kind, event_text, is_spellable}
use Rattle.hac_model.specs.Run.Play.{Setting, end_behind, have_room}
use Rattle.hac_model.specs.Versions.{store_limit}
use Rattle.hac_model.specs.declared.events.Event.{Event}
use Rattle.hac_model.specs.declared.events.Event.TheVariants.{Step}
use Rattle.hac_model.specs.declared.versions.Version.{Version}
use Rattle.hac_model.specs.Tree.Costs.{costs}
use Rattle.hac_store.specs.Stores.{fit_behind}
use Rattle.hac_store.specs.Storing.{storing_cost}

-- an index step is spelled by two bytes
step-text : (version : Version) → event_text version Step ≡ event_kind version ∷ 15 ∷ []
unfolding event_text
step-text version = refl

pub step-spellable : (version : Version) → IsTrue (is_spellable version Step)
unfolding is_spellable
step-spellable version = refl

pub end-steps : (version : Version) (count end : ℕ) → end_behind version end (replicate count Step) ≡ end + count * 7
end-steps version zero end = omega arith
end-steps version (suc count) end =
    end-steps version count (end + 5 + length (event_text version Step)) ∙ omega (arith, ap length (step-text version))

pub steps-have-room : (z : Setting) (count : ℕ) → have_room z (replicate count Step) ≡ fit_behind z.state.version z.end count 2
steps-have-room z zero = refl
steps-have-room z (suc count) =
    let some : (suc count == 0) ≡ false = grind (arith, nat_tests) in
    let limit = store_limit z.state.version in
    ap (λ (n : ℕ). nat_lt n limit) (end-steps z.state.version (suc count) z.end) ∙ ap (λ (b : Bool). b || nat_lt (z.end + suc count * 7) limit) (sym some)

-- one event has room where its record has, whose payload is its text
pub record-has-room : (z : Setting) (event : Event) (version : Version) (payload : List ℕ) (size : ℕ) → version ≡ z.state.version → payload ≡ event_text version event → size ≡ length payload →
    have_room z (event ∷ []) ≡ fit_behind z.state.version z.end 1 size
record-has-room z event version payload size same is long =
    let text : length payload ≡ length (event_text z.state.version event) = ap (λ (bytes : List ℕ). length bytes) is ∙ ap (λ (v : Version). length (event_text v event)) same in
    ap (λ (n : ℕ). nat_lt n (store_limit z.state.version)) (omega (arith, long, text))

-- where there is room, storing may ask what the events cost
pub room-costs : (z : Setting) (events : List Event) → have_room z events ≡ true → storing_cost z events ≡ costs z.state events
room-costs z events room = ap (λ (b : Bool). if b then costs z.state events else 0) room

-- and it never may ask more
pub storing-within : (z : Setting) (events : List Event) → storing_cost z events ≤ costs z.state events
storing-within z events = by (have_room z events)
  where
    by : (b : Bool) → (if b then costs z.state events else 0) ≤ costs z.state events
    by true = omega arith
    by false = omega arith

-- records of events are as long as they count
pub end-length : (version : Version) (events : List Event) (end : ℕ) → end_behind version end events ≡ end + length (records_of (map (event_text version) events))
end-length version [] end = omega arith
end-length version (event ∷ events) end =
    end-length version events (end + 5 + length (event_text version event))
    ∙ omega (arith, length-append (record_of (event_text version event)) (records_of (map (event_text version) events)), length-record (event_text version event))

-- the size of the records of these events and the closed gate
log-size : (version : Version) (vs : List (Vec ℕ Global)) (events : List Event) (end : ℕ) → contents_of vs ≡ map (event_text version) events
    → end + length (log_of (contents_of vs)) ≡ end_behind version end events + 1
log-size version vs events end texts =
    omega (arith, length-log (contents_of vs), ap (λ (l : List (List ℕ)). length (records_of l)) texts, end-length version events end)

room-of : (event : Event) (events : List Event) (z : Setting) → store_limit z.state.version ≤ end_behind z.state.version z.end (event ∷ events) → have_room z (event ∷ events) ≡ false
room-of event events z high = grind (arith, nat_tests)

room-within : (event : Event) (events : List Event) (z : Setting) → end_behind z.state.version z.end (event ∷ events) < store_limit z.state.version → have_room z (event ∷ events) ≡ true
room-within event events z low = grind (arith, nat_tests)

-- there is no room where they exceed the limit
pub no-room : (vs : List (Vec ℕ Global)) (events : List Event) (z : Setting) → 0 < length vs → contents_of vs ≡ map (event_text z.state.version) events
    → store_limit z.state.version < z.end + length (log_of (contents_of vs)) → have_room z events ≡ false
no-room vs [] z some texts past = absurd (omega (arith, some, length-contents vs, ap length texts))
no-room vs (event ∷ events) z some texts past = room-of event events z (omega (arith, log-size z.state.version vs (event ∷ events) z.end texts, past))

-- and else there is
pub has-room : (vs : List (Vec ℕ Global)) (events : List Event) (z : Setting) → contents_of vs ≡ map (event_text z.state.version) events
    → (store_limit z.state.version < z.end + length (log_of (contents_of vs)) → ⊥) → have_room z events ≡ true
has-room vs [] z texts fits = refl
has-room vs (event ∷ events) z texts fits =
    ⊎_elim
    (λ past. absurd (fits past))
    (λ low. room-within event events z (omega (arith, log-size z.state.version vs (event ∷ events) z.end texts, low)))
    (cases_lt (store_limit z.state.version) (z.end + length (log_of (contents_of vs))))

-- where the log ends then
pub end-is : (version : Version) (vs : List (Vec ℕ Global)) (events : List Event) (end : ℕ) → contents_of vs ≡ map (event_text version) events
    → end + length (records_of (contents_of vs)) ≡ end_behind version end events
end-is version vs events end texts = ap (λ (l : List (List ℕ)). end + length (records_of l)) texts ∙ sym (end-length version events end)
