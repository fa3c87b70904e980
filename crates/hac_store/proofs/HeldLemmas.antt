-- What a file holds, by its root and its log.
use Rattle.std.proofs.Common.{◌≡◌, inl, inr, ⊎_elim, ℕ, ◌+◌, ◌<◌, ◌≤◌, List, [], ◌∷◌, ◌++◌, length, take, drop, map, Result, Ok, Err, refl, sym, ◌∙◌, ap, subst, arith, append_assoc, length-append, length-drop}
use Rattle.std.proofs.lemmas.List.{take_at, drop_at, length-take}
use Rattle.std.proofs.lemmas.Bool.{cases_lt}
use Rattle.hac_disk.specs.Images.{overlaid}
use Rattle.hac_disk.proofs.TornLemmas.{overlaid-before}
use Rattle.hac_checkpoint.specs.Roots.{placed, root_of}
use Rattle.hac_checkpoint.specs.declared.heads.Root.{Root}
use Rattle.hac_checkpoint.specs.declared.heads.Stop.{Stop}
use Rattle.hac_checkpoint.specs.declared.heads.Stop.TheVariants as stop
use Rattle.hac_checkpoint.proofs.HeadLemmas.{roots-agree, roots-start-behind}
use Rattle.hac_journal.specs.Appending.{Appending, ClosedAt, HoldsAt}
use Rattle.hac_journal.specs.Records.{log_of, records_of}
use Rattle.hac_journal.proofs.CrashLemmas.{front-less}
use Rattle.hac_journal.proofs.LawLemmas.{closed-is-found, none-is-closed, records-are-found}
use Rattle.hac_model.specs.Tree.Events.{apply_all}
use Rattle.hac_model.specs.Payload.Payloads.{event_text}
use Rattle.hac_model.specs.Run.Play.{Setting, after_events, end_behind, stored_setting}
use Rattle.hac_model.specs.Tree.Sessions.{sessionless}
use Rattle.hac_model.specs.Tree.Valid.{IsValid}
use Rattle.hac_model.specs.declared.events.Event.{Event}
use Rattle.hac_model.specs.declared.states.State.{State}
use Rattle.hac_model.specs.declared.versions.Version.{Version}
use Rattle.hac_store.specs.Held.{Led, area, from_root, held, log, with_root}
use Rattle.hac_store.specs.Stores.{HeldBetween}
use Rattle.hac_store.proofs.AreaLemmas.{AreaEnds, GoesOn, area-ends, area-sound, closed-goes, event-goes, event-kind}
use Rattle.hac_store.proofs.LogLemmas.{log-closed, log-records}
use Rattle.hac_store.proofs.StoredLemmas.{AreStored}

-- the store of a root and the end of its log
abbrev pub setting_of : Root → Led → Setting
setting_of root l = record { state = l.state; start = root.start; end = l.end; generation = root.generation }

pub held-root : (file : List ℕ) (root : Root) → root_of file ≡ Ok root → held file ≡ placed file (with_root root (area root.start file))
unfolding held
held-root file root is = ap (λ r. placed file (from_root file r)) is

pub held-stop : (file : List ℕ) (why : Stop) → root_of file ≡ Err why → held file ≡ placed {A = Setting} file (Err why)
unfolding held
held-stop file why is = ap (λ r. placed file (from_root file r)) is

pub held-area : (file : List ℕ) (root : Root) (l : Led) → root_of file ≡ Ok root → area root.start file ≡ Ok l → held file ≡ Ok (setting_of root l)
held-area file root l is read = held-root file root is ∙ ap (λ r. placed file (with_root root r)) read

-- what is held, by its parts
pub record Parts (file : List ℕ) (setting : Setting) : Type 0 where
  pub root : Root
  pub root_is : root_of file ≡ Ok root
  pub area_is : area root.start file ≡ Ok (record { state = setting.state; end = setting.end })
  pub setting_is : setting ≡ setting_of root (record { state = setting.state; end = setting.end })

with-parts : (file : List ℕ) (setting : Setting) (root : Root) (r : Result Led Stop) → root_of file ≡ Ok root → area root.start file ≡ r
    → placed file (with_root root r) ≡ Ok setting → Parts file setting
with-parts file setting root (Ok l) root_is area_is is =
    let same : setting_of root l ≡ setting = cc in
    subst (Parts file) same (record { root = root; root_is = root_is; area_is = area_is; setting_is = refl })
with-parts file setting root (Err stop.Short) root_is area_is is = absurd (cc)
with-parts file setting root (Err (stop.BadAt at)) root_is area_is is = absurd (cc)

root-parts : (file : List ℕ) (setting : Setting) (r : Result Root Stop) → root_of file ≡ r → held file ≡ Ok setting → Parts file setting
root-parts file setting (Ok root) root_is is = with-parts file setting root (area root.start file) root_is refl (sym (held-root file root root_is) ∙ is)
root-parts file setting (Err stop.Short) root_is is = let none = sym (held-stop file stop.Short root_is) ∙ is in absurd (cc)
root-parts file setting (Err (stop.BadAt at)) root_is is = let none = sym (held-stop file (stop.BadAt at) root_is) ∙ is in absurd (cc)

pub held-parts : (file : List ℕ) (setting : Setting) → held file ≡ Ok setting → Parts file setting
held-parts file setting is = root-parts file setting (root_of file) refl is

-- what is held is valid
pub held-valid : (file : List ℕ) (setting : Setting) → held file ≡ Ok setting → IsValid setting.state
held-valid file setting is =
    let parts = held-parts file setting is in
    (area-sound parts.root.start file (record { state = setting.state; end = setting.end }) parts.area_is).0

-- and in no session
pub held-stored : (file : List ℕ) (setting : Setting) → held file ≡ Ok setting → sessionless setting.state ≡ setting.state
held-stored file setting is =
    let parts = held-parts file setting is in
    (area-sound parts.root.start file (record { state = setting.state; end = setting.end }) parts.area_is).1

-- where records of events are, the area goes on
records-go : (version : Version) (at : ℕ) (file : List ℕ) (events : List Event) (s : State) → AreStored version s events → HoldsAt at (log_of (map (event_text version) events)) file → GoesOn version at file
records-go version at file [] s stored holds = closed-goes version at file (closed-is-found at file (none-is-closed at file holds))
records-go version at file (event ∷ events) s (accepted, spellable, short, stored) holds =
    let payload = event_text version event in
    let behind = at + 5 + length payload in
    let found = records-are-found at payload (map (event_text version) events) file short holds in
    event-goes version at file payload behind found.0 (event-kind version event)

-- a file that agrees with one that holds a store, up to the end of its log, and has a byte there
module _ (c d : List ℕ) (z : Setting) (is : held d ≡ Ok z) (front : take z.end c ≡ take z.end d) (long : z.end < length c) where
  held-ends : AreaEnds (held-parts d z is).root.start d (record { state = z.state; end = z.end })
  held-ends = area-ends (held-parts d z is).root.start d (record { state = z.state; end = z.end }) (held-parts d z is).area_is

  -- it holds what its log makes of that store
  pub held-along : (l : Led) → GoesOn z.state.version z.end c → log z.state z.end c ≡ Ok l → held c ≡ Ok (record z { state = l.state; end = l.end })
  held-along l goes read =
      let parts = held-parts d z is in
      let high : 43 ≤ z.end = omega (arith, roots-start-behind d parts.root parts.root_is, held-ends.behind) in
      let head : take 43 c ≡ take 43 d = front-less c d 43 z.end high front in
      let root : root_of c ≡ Ok parts.root = roots-agree c d head ∙ parts.root_is in
      held-area c parts.root l root (held-ends.along c front long goes ∙ read)
      ∙ ap (λ (s : Setting). Ok (record s { state = l.state; end = l.end })) (sym parts.setting_is)

  pub held-closed : ClosedAt z.end c → held c ≡ Ok z
  held-closed closed =
      let found = closed-is-found z.end c closed in
      held-along (record { state = z.state; end = z.end }) (closed-goes z.state.version z.end c found) (log-closed z.state z.end c found)

  pub held-records : (events : List Event) → AreStored z.state.version z.state events → HoldsAt z.end (log_of (map (event_text z.state.version) events)) c
      → held c ≡ Ok (after_events z events)
  held-records events stored holds =
      let version = z.state.version in
      held-along (record { state = apply_all z.state events; end = end_behind version z.end events }) (records-go version z.end c events z.state stored holds) (log-records version events z.state z.end c refl stored holds)

-- bytes at a place are within the file
holds-long : (at : ℕ) (bytes file : List ℕ) → 0 < length bytes → HoldsAt at bytes file → at < length file
holds-long at bytes file some holds =
    ⊎_elim
    (λ there. there)
    (λ past. omega (arith, some, ap length (sym holds), length-take (length bytes) (drop at file), length-drop at file, past))
    (cases_lt at (length file))

log-some : (payloads : List (List ℕ)) → 0 < length (log_of payloads)
log-some payloads = omega (arith, length-append (records_of payloads) (0 ∷ []))

-- what an append leaves of a store
pub held-appending : (image : List ℕ → Type 0) (z : Setting) (events : List Event) → ((d : List ℕ) → image d → held d ≡ Ok (stored_setting z))
    → AreStored z.state.version (sessionless z.state) events → (c : List ℕ) → Appending z.end (log_of (map (event_text z.state.version) events)) image c → HeldBetween z events c
held-appending image z events stands stored c left =
    let is = stands left.old left.from in
    let texts = map (event_text z.state.version) events in
    ⊎_elim
    (λ closed. inl (held-closed c left.old (stored_setting z) is left.front closed.there closed))
    (λ holds. inr (held-records c left.old (stored_setting z) is left.front (holds-long z.end (log_of texts) c (log-some texts) holds) events stored holds))
    left.rest

-- bytes that were put somewhere are there
pub overlaid-holds : (at : ℕ) (bytes file : List ℕ) → at ≤ length file → HoldsAt at bytes (overlaid at bytes file)
overlaid-holds at bytes file starts =
    let behind = drop (at + length bytes) file in
    ap (λ (l : List ℕ). take (length bytes) (drop at l)) (append_assoc (take at file) bytes behind)
    ∙ ap (take (length bytes)) (drop_at (take at file) (bytes ++ behind) at (omega (arith, length-take at file)))
    ∙ take_at bytes behind (length bytes) refl

-- the gate at which a log ends is there
pub held-gate : (d : List ℕ) (z : Setting) → held d ≡ Ok z → ClosedAt z.end d
held-gate d z is =
    let parts = held-parts d z is in (area-ends parts.root.start d (record { state = z.state; end = z.end }) parts.area_is).closed

-- a file that holds a store, with records at the end of its log, holds what they lead to
pub held-overlaid : (d : List ℕ) (z : Setting) (events : List Event) → held d ≡ Ok z → AreStored z.state.version z.state events
    → held (overlaid z.end (log_of (map (event_text z.state.version) events)) d) ≡ Ok (after_events z events)
held-overlaid d z events is stored =
    let there = (held-gate d z is).there in
    let texts = map (event_text z.state.version) events in
    let bytes = log_of texts in
    let holds = overlaid-holds z.end bytes d (omega (arith, there)) in
    held-records (overlaid z.end bytes d) d z is (overlaid-before z.end bytes d (omega (arith, there))) (holds-long z.end bytes (overlaid z.end bytes d) (log-some texts) holds)
    events stored holds
