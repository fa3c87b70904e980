-- What is stored of a state: an event that moves a session is never in a log.
use Rattle.std.proofs.Common.{◌≡◌, ℕ, ◌<◌, ◌^◌, Bool, true, false, List, [], ◌∷◌, length, map, Result, Ok, Err, IsTrue, refl, ◌∙◌, ap, subst}
use Rattle.std.specs.Prelude.{⊤, ◌==◌, if◌then◌else◌}
use Rattle.event_codec.proofs.FieldLemmas.{bind_ok, guard_ok, ok_is}
use Rattle.hac_journal.specs.Records.{AreShort}
use Rattle.hac_model.specs.Laws.{AllHappen}
use Rattle.hac_model.specs.Payload.Fields.{Field, Way, num, nothing, ◌&◌, way, way_at, choice_at}
use Rattle.hac_model.specs.Payload.QueryFields.{query_field}
use Rattle.hac_model.specs.Payload.Payloads.{all_of, docs_field, event_field, event_kind, event_text, event_ways, is_spellable, mark_field, name_field, payload_field, placed, space_field, spelled, target_field, text_field, told_field}
use Rattle.hac_model.specs.Tree.Events.{accepted, apply, apply_all}
use Rattle.hac_model.specs.Tree.Sessions.{is_stored, sessionless}
use Rattle.hac_model.specs.Tree.Valid.{IsValid}
use Rattle.hac_model.specs.declared.events.Event.{Event}
use Rattle.hac_model.specs.declared.events.Event.TheVariants.{Mkdir, NewFile, Rewrite, Ln, Mv, Rm, Rmdir, Smkdir, Setq, Unq, Mark, Smount, Ssync, Sumount, Step, Cd}
use Rattle.hac_model.specs.declared.states.State.{State}
use Rattle.hac_model.specs.declared.versions.Version.{Version}
use Rattle.hac_model.proofs.AcyclicLemmas.{apply-valid}
use Rattle.hac_model.proofs.SpelledLemmas.{accepted-spelled, not-stored}
use Rattle.hac_model.proofs.VersionLemmas.{apply-version}
use Rattle.hac_store.specs.Stores.{AreForStore}
use Rattle.hac_model.proofs.LengthLemmas.{text-short}

-- each event can happen to what those before it lead to, has a spelling in the version, and a payload that a record may
-- have
abbrev pub AreStored : Version → State → List Event → Type 0
AreStored version s [] = ⊤
AreStored version s (event ∷ events) =
    IsTrue (accepted s event) × IsTrue (is_spellable version event) × (length (event_text version event) < 2 ^ 32)
    × AreStored version (apply s event) events

-- the version of a state is that of what an event makes of it
pub version-after : (version : Version) (s : State) (event : Event) → s.version ≡ version → (apply s event).version ≡ version
version-after version s event is = apply-version s event ∙ is

-- one event that can happen and is stored
stored-event : (version : Version) (s : State) (event : Event) → s.version ≡ version → IsValid s → IsTrue (is_stored event) → IsTrue (accepted s event)
    → IsTrue (is_spellable version event) × (length (event_text version event) < 2 ^ 32)
stored-event version s event is valid kept happens =
    subst (λ (v : Version). IsTrue (is_spellable v event) × (length (event_text v event) < 2 ^ 32)) is
    (accepted-spelled s event valid kept happens, text-short s event valid kept happens)

-- events that happen to a state and are all stored happen to what its store holds
pub all-stored : (version : Version) (events : List Event) (s : State) → s.version ≡ version → IsValid s → AllHappen s events → AreForStore events → AreStored version (sessionless s) events
all-stored version [] s is valid happen kept = tt
all-stored version (event ∷ events) s is valid (happens, rest) (is_kept, kept) =
    let after = not-stored s event valid is_kept happens in
    let spells = stored-event version s event is valid is_kept happens in (
      after.0,
      spells.0,
      spells.1,
      subst (λ (t : State). AreStored version t events) after.1 (all-stored version events (apply s event) (version-after version s event is) (apply-valid s event valid happens) rest kept),
    )

-- one that happens to what a store holds
pub one-stored : (s : State) (event : Event) → IsValid s → IsTrue (is_stored event) → IsTrue (accepted s event) → AreStored s.version s (event ∷ [])
one-stored s event valid kept happens = let spells = stored-event s.version s event refl valid kept happens in (happens, spells.0, spells.1, tt)

-- the payloads of such events are short
pub texts-short : (version : Version) (events : List Event) (s : State) → AreStored version s events → AreShort (map (event_text version) events)
texts-short version [] s stored = tt
texts-short version (event ∷ events) s (accepted, spellable, short, stored) = (short, texts-short version events (apply s event) stored)

-- and lead to what the store holds then
pub stored-leads : (events : List Event) (s : State) → IsValid s → AllHappen s events → AreForStore events → sessionless (apply_all s events) ≡ apply_all (sessionless s) events
stored-leads [] s valid happen kept = refl
stored-leads (event ∷ events) s valid (happens, rest) (is_kept, kept) =
    stored-leads events (apply s event) (apply-valid s event valid happens) rest kept
    ∙ ap (λ (t : State). apply_all t events) (not-stored s event valid is_kept happens).1

-- an event that isn't stored leaves what the store holds
pub unstored-same : (s : State) (event : Event) → is_stored event ≡ false → sessionless (apply s event) ≡ sessionless s
unstored-same s (Cd session dir) is = refl
unstored-same s other is = absurd cc

-- all that a way reads passes a test
abbrev MakesOnly : {A : Type 0} → (A → Bool) → Way A → Type 0
MakesOnly {A} test w = (bytes : List ℕ) (x : A × List ℕ) → w.read bytes ≡ Ok x → IsTrue (test x.0)

abbrev MakeOnly : {A : Type 0} → (A → Bool) → List (Way A) → Type 0
MakeOnly test [] = ⊤
MakeOnly test (w ∷ ways) = MakesOnly test w × MakeOnly test ways

way-makes : {A B : Type 0} (test : B → Bool) (kind : ℕ) (f : Field A) (made : A → B) → ((x : A) → IsTrue (test (made x))) → MakesOnly test (way kind f made)
way-makes {A} {B} test kind f made each bytes x is =
    let next : A × List ℕ → Result (B × List ℕ) ℕ = λ y. Ok (made y.0, y.1) in
    let got = bind_ok (f.read bytes) next x is in
    subst (λ (x : B × List ℕ). IsTrue (test x.0)) (ok_is (made got.0.0, got.0.1) x got.2) (each got.0.0)

-- so does all that is read by one of several
ways-make : {A : Type 0} (test : A → Bool) (ways : List (Way A)) → MakeOnly test ways → (kind : ℕ) (bytes : List ℕ) (x : A × List ℕ) → way_at ways kind bytes ≡ Ok x → IsTrue (test x.0)
unfolding way_at
ways-make test [] make kind bytes x is = absurd cc
ways-make {A} test (w ∷ ways) (one, make) kind bytes x is =
    elim (kind == w.kind) as (λ b. (if b then w.read bytes else way_at ways kind bytes) ≡ Ok x → IsTrue (test x.0)) [
      | true ↦ one bytes x
      | false ↦ ways-make test ways make kind bytes x
    ] is

choice-makes : {A : Type 0} (test : A → Bool) (ways : List (Way A)) → MakeOnly test ways → (bytes : List ℕ) (x : A × List ℕ) → choice_at ways bytes ≡ Ok x → IsTrue (test x.0)
unfolding choice_at
choice-makes test ways make [] x is = absurd cc
choice-makes test ways make (kind ∷ bytes) x is = ways-make test ways make kind bytes x is

always : {A : Type 0} (x : A) → true ≡ true
always x = refl

-- no way makes an event of a session
events-kept : (version : Version) → MakeOnly is_stored (event_ways version)
events-kept version = (way-makes is_stored 1 (num version & name_field) (λ x. Mkdir x.0 x.1) always, (way-makes is_stored 2 (num version & name_field & text_field) (λ x. NewFile x.0 x.1.0 x.1.1) always, (way-makes is_stored 3 (num version & text_field) (λ x. Rewrite x.0 x.1) always, (way-makes is_stored 4 (num version & name_field & target_field) (λ x. Ln x.0 x.1.0 x.1.1) always, (way-makes is_stored 5 (num version & num version & name_field) (λ x. Mv x.0 x.1.0 x.1.1) always, (way-makes is_stored 6 (num version) (λ entry. Rm entry) always, (way-makes is_stored 7 (num version) (λ dir. Rmdir dir) always, (way-makes is_stored 8 (num version & name_field & query_field version & told_field version) (λ x. Smkdir x.0 x.1.0 x.1.1.0 x.1.1.1) always, (way-makes is_stored 9 (num version & query_field version & told_field version) (λ x. Setq x.0 x.1.0 x.1.1) always, (way-makes is_stored 10 (num version) (λ dir. Unq dir) always, (way-makes is_stored 11 (num version & num version & mark_field) (λ x. Mark (record { dir = x.0; item = x.1.0; kind = x.1.1 })) always, (way-makes is_stored 12 (num version & name_field & space_field & docs_field version & told_field version) (λ x. Smount x.0 x.1.0 x.1.1.0 x.1.1.1.0 x.1.1.1.1) always, (way-makes is_stored 13 (num version & docs_field version & told_field version) (λ x. Ssync x.0 x.1.0 x.1.1) always, (way-makes is_stored 14 (num version) (λ mount. Sumount mount) always, (way-makes is_stored 15 nothing (λ x. Step) always, tt)))))))))))))))

abbrev payload_ways : Version → List (Way Event)
payload_ways version = way (event_kind version) (event_field version) (λ e. e) ∷ []

payload-kept : (version : Version) → MakeOnly is_stored (payload_ways version)
payload-kept version = (
  (λ bytes x is.
      let next : Event × List ℕ → Result (Event × List ℕ) ℕ = λ y. Ok (y.0, y.1) in
      let got = bind_ok ((event_field version).read bytes) next x is in
      subst (λ (x : Event × List ℕ). IsTrue (is_stored x.0)) (ok_is (got.0.0, got.0.1) x got.2) (choice-makes is_stored (event_ways version) (events-kept version) bytes got.0 got.1)),
  tt,
)

placed-ok : (size : ℕ) (read : Result Event ℕ) (e : Event) → placed size read ≡ Ok e → read ≡ Ok e
placed-ok size (Ok x) e is = is
placed-ok size (Err left) e is = absurd cc

-- what a payload spells is an event that is stored
pub spelled_kept : (version : Version) (bytes : List ℕ) (event : Event) → spelled version bytes ≡ Ok event → IsTrue (is_stored event)
unfolding spelled
spelled_kept version bytes event is =
    let got = bind_ok ((payload_field version).read bytes) all_of event (placed-ok (length bytes) _ event is) in
    let whole = guard_ok (length got.0.1 == 0) (length got.0.1) got.0.0 event got.2 in
    subst (λ (e : Event). IsTrue (is_stored e)) whole.1 (choice-makes is_stored (payload_ways version) (payload-kept version) bytes got.0 got.1)
