-- What a file holds while a state is written as a new area and the root flips to it.
use Rattle.std.proofs.Common.{◌≡◌, inl, ℕ, ◌+◌, ◌-◌, ◌<◌, ◌≤◌, ◌^◌, Bool, true, false, ◌==◌, nat_lt, if◌then◌else◌}
use Rattle.std.proofs.Common.{List, [], ◌∷◌, length, None, Some, Result, Ok, Err, refl, sym, ◌∙◌, ap, subst, arith}
use Rattle.std.proofs.Common.{length-append}
use Rattle.std.specs.declared.option.Option.{Option}
use Rattle.hac_disk.specs.Images.{Torn, overlaid}
use Rattle.hac_disk.proofs.TornLemmas.{torn-whole}
use Rattle.hac_journal.specs.Records.{record_of}
use Rattle.hac_journal.proofs.LawLemmas.{closed-is-found}
use Rattle.hac_journal.proofs.RecordLemmas.{length-log, length-record}
use Rattle.event_codec.specs.Kinds.{is_state_kind, kind_of}
use Rattle.event_codec.specs.declared.kinds.PayloadKind.TheVariants as kind
use Rattle.hac_checkpoint.specs.Areas.{IsApart, area_of, place_for}
use Rattle.hac_checkpoint.specs.Flips.{HasRoot}
use Rattle.hac_checkpoint.specs.Roots.{root_of}
use Rattle.hac_checkpoint.specs.declared.areas.Area.{Area}
use Rattle.hac_checkpoint.specs.declared.heads.Stop.{Stop}
use Rattle.hac_checkpoint.specs.declared.heads.Stop.TheVariants as stop
use Rattle.hac_checkpoint.proofs.ApartLemmas.{areas-are-found, new-areas-lie-apart}
use Rattle.hac_checkpoint.proofs.ApartLemmas.{writes-leave-areas, writes-leave-roots}
use Rattle.hac_checkpoint.proofs.HeadLemmas.{roots-start-behind}
use Rattle.hac_model.specs.Payload.Payloads.{event_kind}
use Rattle.hac_model.specs.Payload.States.{snapshot_of, snapshot_text, spelled_snapshot, state_kind}
use Rattle.hac_model.specs.Run.Play.{Setting, stored_setting}
use Rattle.hac_model.specs.Tree.{raised}
use Rattle.hac_model.specs.Tree.Sessions.{sessionless, stored}
use Rattle.hac_model.specs.Tree.Valid.{IsValid}
use Rattle.hac_model.specs.Tree.ValidTest.{is_valid}
use Rattle.hac_model.specs.declared.limits.TheConstants.{STORE_LIMIT}
use Rattle.hac_model.specs.declared.states.State.{State}
use Rattle.hac_model.specs.declared.versions.Version.{Version}
use Rattle.hac_model.specs.declared.versions.Version.TheVariants.{One, Two}
use Rattle.hac_model.proofs.RaisedLemmas.{raised-valid}
use Rattle.hac_model.proofs.SpelledLemmas.{sessionless-valid}
use Rattle.hac_model.proofs.StateLengthLemmas.{states-short}
use Rattle.hac_model.proofs.StateSpellingLemmas.{valid-states-spelled}
use Rattle.hac_model.proofs.ValidTestLemmas.{valid-Decides}
use Rattle.event_codec.proofs.SnapshotLemmas.{snapshot_is_read}
use Rattle.snapshots.proofs.SnapshotLemmas.{snapshots-restore}
use Rattle.hac_model.specs.Run.Checkpoints.{next_place, place_of, state_text}
use Rattle.hac_store.specs.Checkpointing.{HoldsState, moved_to}
use Rattle.hac_store.specs.Held.{Led, after_snapshot, area, held, log}
use Rattle.hac_store.specs.Stores.{Seen, root_by}
use Rattle.hac_store.proofs.AreaLemmas.{area-ends, area-state}
use Rattle.hac_store.proofs.HeldLemmas.{held-area, held-parts, setting_of}
use Rattle.hac_store.proofs.LogLemmas.{go_on, log-closed}

-- ---- the new area

state-kind : (s : State) → kind_of (state_text s) ≡ kind.State
unfolding snapshot_of snapshot_text
state-kind s = by s.version
  where
    by : (version : Version) → (if is_state_kind (state_kind version) then kind.State else kind.Event (if state_kind version == event_kind One then One else Two)) ≡ kind.State
    by One = refl
    by Two = refl

-- what is stored of a state is its snapshot in version 2
pub snapshot-raised : (s : State) → snapshot_of (raised s) ≡ record (snapshot_of s) { version = Two }
unfolding snapshot_of
snapshot-raised s = refl

-- what is written of a valid state is read as what is stored of it
state-after : (at : ℕ) (s : State) → IsValid s → after_snapshot at (spelled_snapshot (state_text (raised s))) ≡ Ok (stored s)
state-after at s valid =
    let up = raised-valid s valid in
    let answer : Bool → State → Result State Stop = λ b t. if b then Ok t else Err (stop.BadAt (at + 5)) in
    ap (after_snapshot at) (snapshot_is_read (snapshot_of (raised s)) (valid-states-spelled (raised s) up))
    ∙ ap (λ (t : State). answer (is_valid t) t) (snapshots-restore (raised s) up)
    ∙ ap (λ (b : Bool). answer b (stored s)) ((valid-Decides (stored s)).1 (sessionless-valid (raised s) up))

-- so an area that was written of it leads there
area-written : (s : State) (at : ℕ) (file : List ℕ) → IsValid s → at ≤ length file
    → area at (overlaid at (area_of (state_text (raised s))) file)
    ≡ Ok (record { state = stored s; end = at + 5 + length (state_text (raised s)) })
area-written s at file valid starts =
    let payload = state_text (raised s) in
    let new = overlaid at (area_of payload) file in
    let end = at + 5 + length payload in
    let found = areas-are-found at payload file starts (states-short s valid) in
    area-state at new payload end found.0 (state-kind (raised s))
    ∙ ap (λ (r : Result State Stop). go_on r (λ next. log next end new)) (state-after at s valid)
    ∙ log-closed (stored s) end new (closed-is-found end new found.1)

length-area : (payload : List ℕ) → length (area_of payload) ≡ length payload + 6
length-area payload =
    omega (arith, length-log (payload ∷ []), length-append (record_of payload) [], length-record payload)

-- ---- the place

-- where the live area of a store is
abbrev live_area : Seen → Area
live_area store = record { start = store.setting.start; end = store.setting.end }

place-is : (store : Seen) (at size : ℕ) → place_of store.setting size ≡ Some at
    → place_for STORE_LIMIT (live_area store) (size + 6) ≡ Some at
place-is store at size is = by (nat_lt store.setting.generation (2 ^ 64 - 1)) is
  where
    place : Option ℕ
    place = place_for STORE_LIMIT (live_area store) (size + 6)

    by : (left : Bool) → (if left then place else None) ≡ Some at → place ≡ Some at
    by true is = is
    by false is = absurd cc

-- an area is read the same where a write apart from it was torn
area-torn : (at n start : ℕ) (c d : List ℕ) (l : Led) → Torn at n d c
    → IsApart at n (record { start = start; end = l.end }) → area start d ≡ Ok l → area start c ≡ Ok l
area-torn at n start c d l torn apart is =
    let place : Area = record { start = start; end = l.end } in
    (area-ends start d l is).kept place c (writes-leave-areas at n place c d apart torn) (omega arith) (omega arith)

module _ (store : Seen) (at : ℕ) where
  abbrev s : State
  s = store.setting.state

  abbrev size : ℕ
  size = length (state_text (raised s))

  -- what the live area leads to, and the new one
  abbrev old_log : Led
  old_log = record { state = sessionless s; end = store.setting.end }

  abbrev new_log : Led
  new_log = record { state = stored s; end = at + 5 + size }

  -- a file that has both areas
  pub record HasBoth (file : List ℕ) : Type 0 where
    pub old_is : area store.setting.start file ≡ Ok old_log
    pub new_is : area at file ≡ Ok new_log

  -- a write to the head of a store leaves both
  pub both-torn : (a n : ℕ) → a + n ≤ 64 → 64 ≤ store.setting.start → 64 ≤ at
      → (c d : List ℕ) → Torn a n d c → HasBoth d → HasBoth c
  both-torn a n low behind high c d torn both = record {
    old_is = area-torn a n store.setting.start c d old_log torn (inl (omega (arith, low, behind))) both.old_is;
    new_is = area-torn a n at c d new_log torn (inl (omega (arith, low, high))) both.new_is;
  }

  -- so it holds the state, whichever of the two roots counts
  pub live-holds : (c : List ℕ) → HasRoot (root_by store) c → HasBoth c → HoldsState s c
  live-holds c root both =
      (setting_of (root_by store) old_log, held-area c (root_by store) old_log root both.old_is, refl)

  pub next-held : (c : List ℕ) → HasRoot (root_by (moved_to store at)) c → HasBoth c
      → held c ≡ Ok (stored_setting (moved_to store at).setting)
  next-held c root both = held-area c (root_by (moved_to store at)) new_log root both.new_is

  pub next-holds : (c : List ℕ) → HasRoot (root_by (moved_to store at)) c → HasBoth c → HoldsState s c
  next-holds c root both = (stored_setting (moved_to store at).setting, next-held c root both, refl)

  module _ (order : store.setting.start ≤ store.setting.end) (free : next_place store.setting ≡ Some at) where
    -- where the place lies
    apart : 64 ≤ store.setting.start
        → (64 ≤ at) × (at ≤ store.setting.end + 1) × IsApart at (size + 6) (live_area store)
    apart behind =
        new-areas-lie-apart STORE_LIMIT (size + 6) at (live_area store) behind order (place-is store at size free)

    -- while the new area is written, a crash leaves what was held
    pub torn-holds : (c d : List ℕ) → held d ≡ Ok (stored_setting store.setting) → Torn at (size + 6) d c
        → HoldsState s c
    torn-holds c d is torn =
        let parts = held-parts d (stored_setting store.setting) is in
        let root = parts.root in
        let start : store.setting.start ≡ root.start = ap (λ (z : Setting). z.start) parts.setting_is in
        let lies = apart (omega (arith, start, roots-start-behind d root parts.root_is)) in
        let free_of : IsApart at (size + 6) (record { start = root.start; end = store.setting.end }) =
        subst (λ (n : ℕ). IsApart at (size + 6) (record { start = n; end = store.setting.end })) start lies.2 in
        let root_is : root_of c ≡ Ok root =
        writes-leave-roots at (size + 6) c d (omega (arith, lies.0)) torn ∙ parts.root_is in
        let area_is = area-torn at (size + 6) root.start c d old_log torn free_of parts.area_is in
        (setting_of root old_log, held-area c root old_log root_is area_is, refl)

    -- once it is written, both are there
    pub both-written : (file : List ℕ) → IsValid s → at ≤ length file → held file ≡ Ok (stored_setting store.setting)
        → HasBoth (overlaid at (area_of (state_text (raised s))) file)
    both-written file valid starts is =
        let bytes = area_of (state_text (raised s)) in
        let parts = held-parts file (stored_setting store.setting) is in
        let start : store.setting.start ≡ parts.root.start = ap (λ (z : Setting). z.start) parts.setting_is in
        let lies = apart (omega (arith, start, roots-start-behind file parts.root parts.root_is)) in
        let free_of : IsApart at (length bytes) (live_area store) =
        subst (λ (n : ℕ). IsApart at n (live_area store)) (sym (length-area (state_text (raised s)))) lies.2 in
        let was : area store.setting.start file ≡ Ok old_log = ap (λ (n : ℕ). area n file) start ∙ parts.area_is in
        let torn = torn-whole at bytes file starts in
        record {
          old_is =
              area-torn at (length bytes) store.setting.start (overlaid at bytes file) file old_log torn free_of was;
          new_is = area-written s at file valid starts;
        }

    -- the place lies in a file that has the root of the store, and so does the head
    pub record LiesIn (file : List ℕ) : Type 0 where
      pub start : 64 ≤ store.setting.start
      pub behind : 64 ≤ at
      pub starts : at ≤ length file
      pub head : 64 ≤ length file

    pub place-lies : (file : List ℕ) → HasRoot (root_by store) file → store.setting.end < length file → LiesIn file
    place-lies file root long =
        let start = roots-start-behind file (root_by store) root in
        let lies = apart start in
        record {
          start = start;
          behind = lies.0;
          starts = omega (arith, lies.1, long);
          head = omega (arith, start, order, long);
        }
