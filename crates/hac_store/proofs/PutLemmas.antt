-- What is left of a store whose log gets the records of events.
use Rattle.std.proofs.Common.{◌≡◌, inl, Bool, false, ℕ, zero, suc, ◌≤◌, List, [], ◌∷◌, length, map, None, Some, IfSome, Result, Ok, Err, refl, sym, ◌∙◌, ap, subst, arith, Vec}
use Rattle.std.specs.Prelude.{replicate}
use Rattle.std.specs.declared.alloc.Global.{Global}
use Rattle.std.specs.declared.option.Option.{Option}
use Rattle.hac_disk.specs.Contents.{HasByteAt, Written}
use Rattle.hac_disk.specs.Images.{IsSettled, LeavesOnly, overlaid}
use Rattle.hac_disk.specs.Seen.{DiskSeen, IsLawful}
use Rattle.hac_disk.proofs.Moments.{started, weaken}
use Rattle.hac_disk.proofs.ContentsLemmas.{told-settled, told-written}
use Rattle.hac_disk.proofs.TornLemmas.{torn-whole}
use Rattle.hac_checkpoint.specs.Flips.{HasRoot}
use Rattle.hac_checkpoint.specs.declared.heads.Slot.{Slot}
use Rattle.hac_checkpoint.proofs.ApartLemmas.{writes-leave-roots}
use Rattle.hac_checkpoint.proofs.HeadLemmas.{roots-start-behind}
use Rattle.hac_journal.specs.Appending.{Appending, ClosedAt}
use Rattle.hac_journal.specs.Records.{contents_of, log_of}
use Rattle.hac_model.specs.Tree.Events.{apply_all}
use Rattle.hac_model.specs.Laws.{AllHappen}
use Rattle.hac_core.specs.Drafts.{CanSettle, settled_events}
use Rattle.hac_core.specs.declared.drafts.Settled.{Settled}
use Rattle.hac_core.specs.declared.drafts.Settled.TheVariants as settled
use Rattle.hac_model.specs.Payload.Payloads.{event_text}
use Rattle.hac_model.specs.Run.Play.{Setting, after_events, end_behind, stored_setting}
use Rattle.hac_model.specs.Tree.Sessions.{sessionless}
use Rattle.hac_model.specs.declared.events.Event.{Event}
use Rattle.hac_model.specs.declared.events.Event.TheVariants.{Step}
use Rattle.hac_model.specs.declared.states.State.{State}
use Rattle.hac_core.specs.Seen.{Seen as Kept}
use Rattle.hac_outside.specs.Causes.{ReportsFault}
use Rattle.hac_store.specs.Faults.{is_disk_fault}
use Rattle.hac_store.specs.Held.{held}
use Rattle.hac_store.specs.Storing.{StoresEvents, StoringEnds}
use Rattle.hac_store.specs.declared.fault.StoreFault.{StoreFault}
use Rattle.hac_store.specs.Stores.{AreForStore, Bears, HeldBetween, Seen, Stands, root_by, store_after, unstored_after}
use Rattle.hac_store.proofs.HeldLemmas.{held-appending, held-gate, held-overlaid}
use Rattle.hac_store.proofs.StoredLemmas.{AreStored}

-- what a settled outcome stands for can happen
pub can-happen : (s : State) (outcome : Settled) → CanSettle s outcome → AllHappen s (settled_events outcome)
can-happen s (settled.Change change) can = can.0
can-happen s (settled.Steps count) can = can
can-happen s (settled.Session event) can = can.0
can-happen s settled.Checkpoint can = tt

-- index steps are stored
pub steps-kept : (count : ℕ) → AreForStore (replicate count Step)
steps-kept zero = tt
steps-kept (suc count) = (refl, steps-kept count)

-- what is seen of a store whose machine and whose end have gone on
pub put-seen : (seen : Seen) (s new : State) (start end generation to : ℕ) (slot : Slot) (broken : Bool) (events : List Event)
    → record { setting = record { state = s; start = start; end = end; generation = generation }; slot = slot; broken = broken } ≡ seen
    → new ≡ apply_all s events → to ≡ end_behind s.version end events
    → record { setting = record { state = new; start = start; end = to; generation = generation }; slot = slot; broken = broken } ≡ store_after seen events
put-seen seen s new start end generation to slot broken events is state ends =
    let of : ℕ → State → Seen = λ to state. record { setting = record { state = state; start = start; end = to; generation = generation }; slot = slot; broken = broken } in
    ap (of to) state ∙ ap (λ (n : ℕ). of n (apply_all s events)) ends ∙ ap (λ (x : Seen). store_after x events) is

-- and of one whose session moved
pub stood-seen : (seen : Seen) (s new : State) (start end generation : ℕ) (slot : Slot) (broken : Bool) (event : Event)
    → record { setting = record { state = s; start = start; end = end; generation = generation }; slot = slot; broken = broken } ≡ seen
    → new ≡ apply_all s (event ∷ [])
    → record { setting = record { state = new; start = start; end = end; generation = generation }; slot = slot; broken = broken } ≡ record seen { setting = unstored_after seen.setting event }
stood-seen seen s new start end generation slot broken event is state =
    let of : State → Seen = λ state. record { setting = record { state = state; start = start; end = end; generation = generation }; slot = slot; broken = broken } in
    ap of state ∙ ap (λ (x : Seen). record x { setting = unstored_after x.setting event }) is

-- the machine after what it was ready for
pub put-state : (old ready new : Kept) (events : List Event) → ready ≡ record { state = old.state; ready = events }
    → new ≡ record { state = apply_all ready.state ready.ready; ready = [] } → new.state ≡ apply_all old.state events
put-state old ready new events made gone = ap (λ (m : Kept). m.state) gone ∙ ap (λ (m : Kept). apply_all m.state m.ready) made

-- what is said of a file that the disk tells, said of one that stands for a store
stands-told : (disk : DiskSeen) (z : Setting) (P : Type 0) → Stands disk z → IfSome disk.contents (λ _. P) → P
stands-told disk z P stands p = subst (λ s. IfSome s (λ _. P)) stands.is p

-- the records were written, and last
pub put-stands : (old new : DiskSeen) (z : Setting) (events : List Event) (vs : List (Vec ℕ Global))
    → IsLawful old → contents_of vs ≡ map (event_text z.state.version) events
    → AreStored z.state.version (sessionless z.state) events → sessionless (apply_all z.state events) ≡ apply_all (sessionless z.state) events
    → Written old.contents z.end (log_of (contents_of vs)) new.contents → IsSettled new
    → Stands old z → Stands new (after_events z events)
put-stands old new z events vs lawful texts stored leads written settled stands =
    let file = stands.file in
    let bytes = overlaid z.end (log_of (contents_of vs)) file in
    let told = told-written old.contents new.contents file (log_of (contents_of vs)) z.end stands.is written in
    let only = told-settled new bytes told settled in
    let before = stored_setting z in
    let same : held bytes ≡ Ok (after_events (stored_setting z) events) =
    ap (λ (l : List (List ℕ)). held (overlaid z.end (log_of l) file)) texts
    ∙ held-overlaid file before events (stands.each file (lawful.read_is_image file stands.is)) stored in
    let after : held bytes ≡ Ok (stored_setting (after_events z events)) =
    same ∙ ap (λ (s : State). Ok (record z { state = s; end = end_behind z.state.version z.end events })) (sym leads) in
    record { file = bytes; is = told; each = λ c left. ap held (only c left) ∙ after }

-- records behind the log leave the root that counts
pub put-root : (old new : DiskSeen) (store : Seen) (bytes : List ℕ) → store.setting.start ≤ store.setting.end → Bears old store
    → Written old.contents store.setting.end bytes new.contents → IfSome new.contents (HasRoot (root_by store))
put-root old new store bytes order bears written = at old.contents new.contents bears written
  where
    at : (seen new : Option (List ℕ)) → HasByteAt seen store.setting.end × IfSome seen (HasRoot (root_by store))
        → Written seen store.setting.end bytes new → IfSome new (HasRoot (root_by store))
    at None new bears written = subst (λ s. IfSome s (HasRoot (root_by store))) (sym written) tt
    at (Some file) new bears written =
        let end = store.setting.end in
        let behind = roots-start-behind file (root_by store) bears.1 in
        let starts : end ≤ length file = omega (arith, bears.0) in
        subst (λ s. IfSome s (HasRoot (root_by store))) (sym written)
        (writes-leave-roots end (length bytes) (overlaid end bytes file) file (omega (arith, behind, order))
        (torn-whole end bytes file starts) ∙ bears.1)

-- nothing was written
pub none-put : (old : DiskSeen) (z : Setting) (events : List Event) → IsLawful old → Stands old z → LeavesOnly old old (HeldBetween z events)
none-put old z events lawful stands =
    started old (HeldBetween z events) (λ c since. inl (stands.each c (lawful.only_now c since)))

-- at each moment of an append
pub put-moments : (old new : DiskSeen) (z : Setting) (events : List Event) (vs : List (Vec ℕ Global)) → contents_of vs ≡ map (event_text z.state.version) events
    → AreStored z.state.version (sessionless z.state) events
    → IfSome old.contents (λ _. ((c : List ℕ) → old.image c → ClosedAt z.end c) → LeavesOnly old new (Appending z.end (log_of (contents_of vs)) old.image))
    → Stands old z → LeavesOnly old new (HeldBetween z events)
put-moments old new z events vs texts stored appending stands =
    let run = stands-told old z (((c : List ℕ) → old.image c → ClosedAt z.end c) → LeavesOnly old new (Appending z.end (log_of (contents_of vs)) old.image)) stands appending
    (λ c left. held-gate c (stored_setting z) (stands.each c left)) in
    weaken old new (Appending z.end (log_of (contents_of vs)) old.image) (HeldBetween z events)
    (λ c left. held-appending old.image z events stands.each stored c (subst (λ l. Appending z.end (log_of l) old.image c) texts left)) run

-- nothing was touched
pub none-stored : {D : Type 0} {seen : D → DiskSeen} {old new : D} {before after : Seen} {events : List Event} {fault : StoreFault}
    → IsLawful (seen old) → new ≡ old → StoringEnds seen old new before after events (Err fault) → (let answer : Result (Unit {0}) StoreFault = Err fault in is_disk_fault answer ≡ false)
    → StoresEvents seen old new before after events (Err fault)
none-stored {seen = seen} {old = old} {new = new} {before = before} {events = events} lawful same ends no_disk =
    record {
      ends = ends;
      stands = λ _. tt;
      moments = λ stands. subst (λ d. LeavesOnly (seen old) (seen d) (HeldBetween before.setting events)) (sym same) (none-put (seen old) before.setting events lawful stands);
      names = ap (λ d. (seen d).attached) same;
      reported = subst (λ (b : Bool). ReportsFault b (seen old).faults (seen new).faults) (sym no_disk) (ap (λ d. (seen d).faults) same);
    }
