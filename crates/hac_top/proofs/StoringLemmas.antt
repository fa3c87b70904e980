-- What becomes of the store and its disk as turns are stored, one call after another.
use Rattle.std.proofs.Common.{◌≡◌, ℕ, true, false, Bool, List, [], ◌∷◌, ◌++◌, length, refl, ap, sym, subst, ◌∙◌, append-nil, arith, inl, inr, zero, suc, ◌+◌, ◌*◌, ◌<◌, ◌≤◌}
use Rattle.std.specs.Prelude.{if◌then◌else◌, filter, Option, None, Some, Result, Ok, Err, ◌==◌, replicate}
use Rattle.std.specs.Option.{option_map_or}
use Rattle.std.proofs.Math.Seq.{take-length}
use Rattle.hac_disk.specs.Images.{IsQuiet, IsSettled, LeavesOnly}
use Rattle.hac_disk.specs.Seen.{DiskSeen, IsLawful}
use Rattle.hac_disk.proofs.Moments.{started, weaken, then_run}
use Rattle.hac_model.specs.Tree.Events.{apply, apply_all, changed_at, edited, indexed, next_dirty}
use Rattle.hac_model.specs.Run.Play.{Setting, Turn, after_events, all_events, end_behind, have_room, next_place, nothing_given, refused_turn, stored_setting}
use Rattle.hac_model.specs.Tree.Sessions.{is_stored, sessionless, stored}
use Rattle.hac_model.specs.declared.events.Event.{Event}
use Rattle.hac_model.specs.declared.limits.LimitWord.TheVariants.{Store}
use Rattle.hac_model.specs.declared.replies.Refusal.TheVariants.{Limit}
use Rattle.hac_model.specs.declared.replies.Reply.{Reply}
use Rattle.hac_model.specs.declared.replies.Reply.TheVariants.{Lines, Refused}
use Rattle.hac_outside.specs.Causes.{ReportsFault}
use Rattle.hac_store.specs.Held.{held}
use Rattle.hac_store.specs.Storing.{StoresEvents}
use Rattle.hac_store.specs.Stores.{Bears, HeldBetween, Seen, Stands, fit_behind, store_after, unstored_after}
use Rattle.hac_store.specs.declared.fault.StoreFault.{StoreFault}
use Rattle.hac_store.specs.declared.fault.StoreFault.TheVariants as fault
use Rattle.hac_top.specs.Crashes.{Holds, IsTreeAfter}
use Rattle.hac_store.specs.Checkpointing.{Checkpoints, HoldsState}
use Rattle.hac_top.specs.Deciding.{saved_turn, saving_turn, standing_turn, storing_turn, turn_with}
use Rattle.hac_top.specs.Storing.{Stores, StoresSteps, StoresTurn, storing_reply}
use Rattle.hac_top.specs.Writes.{GrowsBy}
use Rattle.hac_top.proofs.WriteLemmas.{grows-none, grows-once, grows-same, grows-then, untouched}
use Rattle.hac_top.specs.declared.status.Status.TheVariants.{Memory}
use Rattle.std.proofs.lemmas.Bool.Decides.{nat_tests}
use Rattle.std.proofs.lemmas.List.{length-replicate, replicate-append-replicate, take-replicate}
use Rattle.hac_model.specs.Laws.{AllHappen}
use Rattle.hac_model.specs.declared.events.Event.TheVariants.{Step}
use Rattle.hac_model.specs.declared.states.State.{State}
use Rattle.hac_model.proofs.PlayLemmas.{apply_all-append, end_behind-append, stored-all}
use Rattle.hac_store.proofs.RoomLemmas.{end-steps, steps-have-room}
use Rattle.hac_store.proofs.StoredLemmas.{unstored-same}
use Rattle.hac_model.proofs.VersionLemmas.{apply-version, apply_all-version}
use Rattle.hac_model.specs.declared.versions.Version.{Version}
use Rattle.hac_model.specs.Versions.{store_limit}

-- nothing of the events has happened
pub held-before : (setting : Setting) (events : List Event) (c : List ℕ) → held c ≡ Ok (stored_setting setting) → Holds (IsTreeAfter (stored setting.state) events) c
held-before setting events c is = record { kept = stored_setting setting; is = is; state = record { count = 0; within = omega arith; is = refl } }

-- events that are all stored, as each that a store puts into its log
abbrev AreStored : List Event → Type 0
AreStored events = filter is_stored events ≡ events

-- what is stored after such events is what they make of what was stored
after-stored : (s : State) (events : List Event) → AreStored events → stored (apply_all (sessionless s) events) ≡ apply_all (stored s) events
after-stored s events all = stored-all events (sessionless s) ∙ ap (apply_all (stored s)) all

-- some of them, or all
held-between : (setting : Setting) (events : List Event) (c : List ℕ) → AreStored events → HeldBetween setting events c → Holds (IsTreeAfter (stored setting.state) events) c
held-between setting events c all (inl before) = held-before setting events c before
held-between setting events c all (inr after) =
    record {
      kept = after_events (stored_setting setting) events;
      is = after;
      state = record { count = length events; within = omega arith; is = after-stored setting.state events all ∙ ap (apply_all (stored setting.state)) (sym (take-length events)) };
    }

-- the turn that stores events, given whether there is room for them
pub storing-turn : (setting : Setting) (events : List Event) (room : Bool) → have_room setting events ≡ room → storing_turn setting events ≡ (if room then turn_with setting (Lines []) events else refused_turn nothing_given setting (Limit Store))
storing-turn setting events room is = ap (λ (b : Bool). if b then turn_with setting (Lines []) events else refused_turn nothing_given setting (Limit Store)) is

-- the turn that begins a new area, by the place of that
saving-turn : (setting : Setting) (place : Option ℕ) → next_place setting ≡ place → saving_turn setting ≡ option_map_or (saved_turn setting) place (refused_turn nothing_given setting (Limit Store))
saving-turn setting place is = ap (λ (o : Option ℕ). option_map_or (saved_turn setting) o (refused_turn nothing_given setting (Limit Store))) is

pub turn-events : (setting : Setting) (events : List Event) → have_room setting events ≡ true → all_events (storing_turn setting events ∷ []) ≡ events
turn-events setting events room = ap (λ (turn : Turn). all_events (turn ∷ [])) (storing-turn setting events true room) ∙ append-nil (events ++ []) ∙ append-nil events

-- a disk stands for all that is stored alike
stands-same : (disk : DiskSeen) (z w : Setting) → stored_setting z ≡ stored_setting w → Stands disk z → Stands disk w
stands-same disk z w same stands = record { file = stands.file; is = stands.is; each = λ c left. stands.each c left ∙ ap Ok same }

module _ (disk : DiskSeen) (lawful : IsLawful disk) where
  -- the disk isn't touched
  pub stores-nothing : (setting last : Setting) (events : List Event) → Stores disk disk setting last events false
  stores-nothing setting last events =
      record {
        moments = λ stands.
            started disk (Holds (IsTreeAfter (stored setting.state) events)) (λ c left. held-before setting events c (stands.each c (lawful.only_now c left)));
        idle = λ _. untouched disk;
        settled = λ _ settled. settled;
        names = refl;
        reported = refl;
      }

  -- a reply without events
  pub answers-only : (store : Seen) (reply : Reply) → Bears disk store → StoresTurn disk disk store store (turn_with store.setting reply []) (Ok reply)
  answers-only store reply place =
      record {
        ok = record { reply_is = refl; on = record { setting = refl; intact = refl; place = place; stands = λ stands. stands; grows = grows-none disk.contents store.setting } };
        err = tt;
        stores = stores-nothing store.setting store.setting [];
      }

  -- a session moves, and what is stored stays
  pub moves-session : (store now : Seen) (event : Event) → is_stored event ≡ false → now ≡ record store { setting = unstored_after store.setting event } → Bears disk store →
      StoresTurn disk disk store now (standing_turn store.setting event) (Ok (Lines []))
  moves-session store now event unstored is place =
      let kept : stored_setting store.setting ≡ stored_setting (unstored_after store.setting event) = ap (λ (s : State). record store.setting { state = s }) (sym (unstored-same store.setting.state event unstored)) in
      record {
        ok = record {
          reply_is = refl;
          on = record {
            setting = ap (λ (z : Seen). z.setting) is;
            intact = ap (λ (z : Seen). z.broken) is;
            place = subst (λ (z : Seen). Bears disk z) (sym is) place;
            stands = λ stands.
                subst (λ (z : Seen). Stands disk z.setting) (sym is) (stands-same disk store.setting (unstored_after store.setting event) kept stands);
            grows = record { later = omega arith; version = λ _. apply-version store.setting.state event; end = λ _. refl; written = λ _. ([], refl, refl) };
          };
        };
        err = tt;
        stores = stores-nothing store.setting (unstored_after store.setting event) [];
      }

  -- memory runs out before anything is stored
  pub stops-first : (store : Seen) (turn : Turn) → StoresTurn disk disk store store turn (Err Memory)
  stops-first store turn = record { ok = tt; err = tt; stores = stores-nothing store.setting turn.after (all_events (turn ∷ [])) }

  -- the store is full
  pub full-turn : (store : Seen) (events : List Event) → Bears disk store → have_room store.setting events ≡ false →
      StoresTurn disk disk store store (storing_turn store.setting events) (Ok (Refused (Limit Store)))
  full-turn store events place full =
      subst (λ (turn : Turn). StoresTurn disk disk store store turn (Ok (Refused (Limit Store)))) (sym (storing-turn store.setting events false full))
      (answers-only store (Refused (Limit Store)) place)

-- one call, before and after which the store is held
once : (old new : DiskSeen) (before : Seen) (last : Setting) (events : List Event) (failed : Bool) → AreStored events → 0 < length events → have_room before.setting events ≡ true → (Stands old before.setting → LeavesOnly old new (HeldBetween before.setting events)) →
    (failed ≡ false → IsSettled new) → new.attached ≡ old.attached → ReportsFault failed old.faults new.faults → Stores old new before.setting last (all_events (storing_turn before.setting events ∷ [])) failed
once old new before last events failed all some room moments settled names told =
    record {
      idle = λ nothing. absurd (omega (arith, some, ap length (sym (turn-events before.setting events room) ∙ nothing.1)));
      settled = λ fine _. settled fine;
      moments = λ stands.
          subst (λ (es : List Event). LeavesOnly old new (Holds (IsTreeAfter (stored before.setting.state) es))) (sym (turn-events before.setting events room))
          (weaken old new (HeldBetween before.setting events) (Holds (IsTreeAfter (stored before.setting.state) events)) (λ c. held-between before.setting events c all) (moments stands));
      names = names;
      reported = told;
    }

module _ {D : Type 0} {seen : D → DiskSeen} {old new : D} {before after : Seen} {events : List Event} (lawful : IsLawful (seen old)) where
  pub stores-once : (result : Result (Unit {0}) StoreFault) → AreStored events → 0 < length events → Bears (seen old) before → StoresEvents seen old new before after events result →
      StoresTurn (seen old) (seen new) before after (storing_turn before.setting events) (storing_reply result)
  stores-once (Ok done) all some place went =
      let turn = storing-turn before.setting events true went.ends.room in
      record {
        ok = record {
          reply_is = ap (λ (t : Turn). t.reply) (sym turn);
          on = record {
            setting = ap (λ (z : Seen). z.setting) went.ends.store ∙ ap (λ (t : Turn). t.after) (sym turn);
            intact = ap (λ (z : Seen). z.broken) went.ends.store;
            place = went.ends.place;
            stands = went.stands;
            grows =
                subst (λ (t : Turn). GrowsBy (seen old).contents (seen new).contents before.setting t.after t.events) (sym turn)
                (grows-once (seen old).contents (seen new).contents before.setting events went.ends.written);
          };
        };
        err = tt;
        stores = once (seen old) (seen new) before (storing_turn before.setting events).after events false all some went.ends.room went.moments (λ _. went.ends.settled) went.names went.reported;
      }
  stores-once (Err fault.Full) all some place went =
      subst (λ (store : Seen). StoresTurn (seen old) (seen new) before store (storing_turn before.setting events) (Ok (Refused (Limit Store)))) (sym went.ends.1.0)
      (subst (λ (disk : D). StoresTurn (seen old) (seen disk) before before (storing_turn before.setting events) (Ok (Refused (Limit Store)))) (sym went.ends.1.1)
      (full-turn (seen old) lawful before events place went.ends.0))
  stores-once (Err fault.Memory) all some place went =
      subst (λ (store : Seen). StoresTurn (seen old) (seen new) before store (storing_turn before.setting events) (Err Memory)) (sym went.ends.0)
      (subst (λ (disk : D). StoresTurn (seen old) (seen disk) before before (storing_turn before.setting events) (Err Memory)) (sym went.ends.1)
      (stops-first (seen old) lawful before (storing_turn before.setting events)))
  stores-once (Err fault.Disk) all some place went =
      record { ok = tt; err = tt; stores = once (seen old) (seen new) before (storing_turn before.setting events).after events true all some went.ends.0 went.moments (λ e. absurd cc) went.names went.reported }
  stores-once (Err (fault.NotStore at)) all some place went = absurd went.ends
  stores-once (Err fault.AlreadyStore) all some place went = absurd went.ends

-- A new area that is begun with the whole state.

-- a crash at each moment leaves what was held, which is the tree before any event
holding : (old new : DiskSeen) (before : Seen) (last : Setting) (events : List Event) (failed : Bool) → (Stands old before.setting → LeavesOnly old new (HoldsState before.setting.state)) → (last.generation ≡ before.setting.generation → ⊥) →
    (failed ≡ false → IsSettled new) → new.attached ≡ old.attached → ReportsFault failed old.faults new.faults → Stores old new before.setting last events failed
holding old new before last events failed moments begun settled names told =
    record {
      idle = λ nothing. absurd (begun nothing.0);
      settled = λ fine _. settled fine;
      moments = λ stands.
          weaken old new (HoldsState before.setting.state) (Holds (IsTreeAfter (stored before.setting.state) events))
          (λ c holds. record { kept = holds.0; is = holds.1; state = record { count = 0; within = omega arith; is = holds.2 } }) (moments stands);
      names = names;
      reported = told;
    }

-- where there is a place for a new area, its turn begins one
begins-area : (setting : Setting) (place : Option ℕ) → next_place setting ≡ place → (next_place setting ≡ None → ⊥) → (saving_turn setting).after.generation ≡ setting.generation → ⊥
begins-area setting None is some same = some is
begins-area setting (Some at) is some same = absurd (omega (arith, ap (λ (t : Turn). t.after.generation) (sym (saving-turn setting (Some at) is)) ∙ same))

saved-grows : (old new : Option (List ℕ)) (setting : Setting) (at : ℕ) → GrowsBy old new setting (saved_turn setting at).after []
saved-grows old new setting at =
    record { later = omega arith; version = λ same. absurd (omega (arith, same)); end = λ same. absurd (omega (arith, same)); written = λ same. absurd (omega (arith, same)) }

module _ {D : Type 0} {seen : D → DiskSeen} {old new : D} {before after : Seen} (lawful : IsLawful (seen old)) where
  pub stores-saved : (result : Result (Unit {0}) StoreFault) → Bears (seen old) before → Checkpoints seen old new before after result →
      StoresTurn (seen old) (seen new) before after (saving_turn before.setting) (storing_reply result)
  stores-saved (Ok done) place went =
      let made = went.ends.1 in
      let turn = saving-turn before.setting (Some went.ends.0) made.free in
      record {
        ok = record {
          reply_is = ap (λ (t : Turn). t.reply) (sym turn);
          on = record {
            setting = ap (λ (z : Seen). z.setting) made.store ∙ ap (λ (t : Turn). t.after) (sym turn);
            intact = ap (λ (z : Seen). z.broken) made.store;
            place = made.place;
            stands = went.stands;
            grows =
                subst (λ (t : Turn). GrowsBy (seen old).contents (seen new).contents before.setting t.after t.events) (sym turn)
                (saved-grows (seen old).contents (seen new).contents before.setting went.ends.0);
          };
        };
        err = tt;
        stores =
            holding (seen old) (seen new) before (saving_turn before.setting).after (all_events (saving_turn before.setting ∷ [])) false went.moments
            (begins-area before.setting (Some went.ends.0) made.free (λ none. let never : None ≡ Some went.ends.0 = sym none ∙ made.free in cc)) (λ _. made.settled) went.names went.reported;
      }
  stores-saved (Err fault.Full) place went =
      subst (λ (store : Seen). StoresTurn (seen old) (seen new) before store (saving_turn before.setting) (Ok (Refused (Limit Store)))) (sym went.ends.1.0)
      (subst (λ (disk : D). StoresTurn (seen old) (seen disk) before before (saving_turn before.setting) (Ok (Refused (Limit Store)))) (sym went.ends.1.1)
      (subst (λ (turn : Turn). StoresTurn (seen old) (seen old) before before turn (Ok (Refused (Limit Store)))) (sym (saving-turn before.setting None went.ends.0))
      (answers-only (seen old) lawful before (Refused (Limit Store)) place)))
  stores-saved (Err fault.Memory) place went =
      subst (λ (store : Seen). StoresTurn (seen old) (seen new) before store (saving_turn before.setting) (Err Memory)) (sym went.ends.0)
      (subst (λ (disk : D). StoresTurn (seen old) (seen disk) before before (saving_turn before.setting) (Err Memory)) (sym went.ends.1)
      (stops-first (seen old) lawful before (saving_turn before.setting)))
  stores-saved (Err fault.Disk) place went =
      record {
        ok = tt;
        err = tt;
        stores =
            holding (seen old) (seen new) before (saving_turn before.setting).after (all_events (saving_turn before.setting ∷ [])) true went.moments
            (begins-area before.setting (next_place before.setting) refl went.ends.0) (λ e. absurd cc) went.names went.reported;
      }
  stores-saved (Err (fault.NotStore at)) place went = absurd went.ends
  stores-saved (Err fault.AlreadyStore) place went = absurd went.ends

-- a count that rose since a later moment rose since an earlier one
pub told-since : (failed : Bool) (a b c : ℕ) → b ≡ a → ReportsFault failed b c → ReportsFault failed a c
told-since failed a b c same reported = subst (λ (n : ℕ). ReportsFault failed n c) same reported

-- Index steps that are stored in parts.

abbrev pub steps : ℕ → List Event
steps count = replicate count Step

-- what steps lead to, and then more steps, all of them lead to
after-steps : (setting : Setting) (n m : ℕ) → after_events (after_events setting (steps n)) (steps m) ≡ after_events setting (steps (n + m))
after-steps setting n m = λ i. record setting {
  state = (sym (apply_all-append (steps n) (steps m) setting.state) ∙ ap (apply_all setting.state) (replicate-append-replicate n m Step)) i;
  end = (
      (λ i. end_behind (apply_all-version setting.state (steps n) i) (end_behind setting.state.version setting.end (steps n)) (steps m))
      ∙ sym (end_behind-append setting.state.version (steps n) (steps m) setting.end)
      ∙ ap (end_behind setting.state.version setting.end) (replicate-append-replicate n m Step)
      ) i;
}

-- those behind the first of some steps can happen once these have
happen-behind : (s : State) (n m k : ℕ) → n + m ≤ k → AllHappen s (steps k) → AllHappen (apply_all s (steps n)) (steps m)
happen-behind s zero zero k few happen = tt
happen-behind s zero (suc m) zero few happen = absurd (omega (arith, few))
happen-behind s zero (suc m) (suc k) few happen = (happen.0, happen-behind (apply s Step) zero m k (omega (arith, few)) happen.1)
happen-behind s (suc n) m zero few happen = absurd (omega (arith, few))
happen-behind s (suc n) m (suc k) few happen = happen-behind (apply s Step) n m k (omega (arith, few)) happen.1

-- the first of some steps, as a tree after all
part-tree : (s : State) (n k : ℕ) → n ≤ k → IsTreeAfter s (steps k) (apply_all s (steps n))
part-tree s n k few = record { count = n; within = omega (arith, few, length-replicate k Step); is = ap (apply_all s) (sym (take-replicate n k Step few)) }

-- steps are stored
steps-are-stored : (n : ℕ) → AreStored (steps n)
steps-are-stored zero = refl
steps-are-stored (suc n) = ap (λ (events : List Event). Step ∷ events) (steps-are-stored n)

-- sessions play no part in steps
steps-sessionless : (s : State) (n : ℕ) → sessionless (apply_all s (steps n)) ≡ apply_all (sessionless s) (steps n)
steps-sessionless s zero = refl
steps-sessionless s (suc n) = steps-sessionless (apply s Step) n ∙ ap (λ (t : State). apply_all t (steps n)) (one (next_dirty s.entries))
  where
    one : (o : Option ℕ) → sessionless (option_map_or (λ file. changed_at s file (edited indexed)) o s) ≡ option_map_or (λ file. changed_at (sessionless s) file (edited indexed)) o (sessionless s)
    one None = refl
    one (Some file) = refl

-- what a store holds after steps is what they make of what it held
steps-stored : (setting : Setting) (n : ℕ) → stored_setting (after_events setting (steps n)) ≡ after_events (stored_setting setting) (steps n)
steps-stored setting n =
    ap (λ (s : State). record setting { state = s; end = end_behind setting.state.version setting.end (steps n) }) (steps-sessionless setting.state n)

-- the steps of one part are some of all, where they happen behind the first ones
part-held : (setting : Setting) (done batch count : ℕ) (c : List ℕ) → done + batch ≤ count → HeldBetween (after_events setting (steps done)) (steps batch) c → Holds (IsTreeAfter (stored setting.state) (steps count)) c
part-held setting done batch count c few (inl before) =
    record {
      kept = after_events (stored_setting setting) (steps done);
      is = before ∙ ap Ok (steps-stored setting done);
      state = part-now done (omega (arith, few));
    }
  where
    part-now : (n : ℕ) → n ≤ count → IsTreeAfter (stored setting.state) (steps count) (stored (apply_all (sessionless setting.state) (steps n)))
    part-now n few = subst (IsTreeAfter (stored setting.state) (steps count)) (sym (after-stored setting.state (steps n) (steps-are-stored n))) (part-tree (stored setting.state) n count few)
part-held setting done batch count c few (inr after) =
    record {
      kept = after_events (stored_setting setting) (steps (done + batch));
      is = after ∙ ap Ok (ap (λ (z : Setting). after_events z (steps batch)) (steps-stored setting done) ∙ after-steps (stored_setting setting) done batch);
      state = subst (IsTreeAfter (stored setting.state) (steps count)) (sym (after-stored setting.state (steps (done + batch)) (steps-are-stored (done + batch)))) (part-tree (stored setting.state) (done + batch) count few);
    }

-- the tree after some of the events of the turn that stores steps
abbrev HoldsSome : Setting → ℕ → List ℕ → Type 0
HoldsSome setting count c = Holds (IsTreeAfter (stored setting.state) (all_events (storing_turn setting (steps count) ∷ []))) c

-- where all steps have room, so does a part behind the first ones
part-room : (version : Version) (end done batch count : ℕ) → done + batch ≤ count → 0 < batch → fit_behind version end count 2 ≡ true → fit_behind version (end_behind version end (steps done)) batch 2 ≡ true
part-room version end done batch count few some fits =
    let at : end_behind version end (steps done) ≡ end + done * 7 = end-steps version done end in
    let more : (count == 0) ≡ false = grind (arith, nat_tests, few, some) in
    let below : end + count * 7 < store_limit version = grind (arith, nat_tests, fits, more) in
    grind (arith, nat_tests, at, below, few)

-- of all steps, for which there is room, the first ones have happened; a crash since then leaves some of all
pub record Stepped (old now : DiskSeen) (first store : Seen) (done count : ℕ) : Type 0 where
  pub room : fit_behind first.setting.state.version first.setting.end count 2 ≡ true
  pub store_is : store ≡ store_after first (steps done)
  pub place : Bears now store
  pub stands : Stands old first.setting → Stands now store.setting
  pub moments : Stands old first.setting → LeavesOnly old now (HoldsSome first.setting count)
  pub grows : GrowsBy old.contents now.contents first.setting (after_events first.setting (steps done)) (steps done)
  pub still : done ≡ 0 → IsQuiet old now
  pub settled : IsSettled old → IsSettled now
  pub names : now.attached ≡ old.attached
  pub quiet : now.faults ≡ old.faults

-- none has happened yet
pub none-stepped : (disk : DiskSeen) → IsLawful disk → (first : Seen) (done count : ℕ) → done ≡ 0 → fit_behind first.setting.state.version first.setting.end count 2 ≡ true → Bears disk first → Stepped disk disk first first done count
none-stepped disk lawful first done count none room place =
    let events = all_events (storing_turn first.setting (steps count) ∷ []) in
    let nothing : Stores disk disk first.setting first.setting events false = stores-nothing disk lawful first.setting first.setting events in
    record {
      room = room;
      store_is = ap (λ (n : ℕ). store_after first (steps n)) (sym none);
      place = place;
      stands = λ stands. stands;
      moments = nothing.moments;
      grows = subst (λ (n : ℕ). GrowsBy disk.contents disk.contents first.setting (after_events first.setting (steps n)) (steps n)) (sym none) (grows-none disk.contents first.setting);
      still = λ _. untouched disk;
      settled = λ settled. settled;
      names = refl;
      quiet = refl;
    }

module _ {old now : DiskSeen} {first store : Seen} {done count : ℕ} (was : Stepped old now first store done count) where
  pub part-happens : (batch : ℕ) → done + batch ≤ count → AllHappen first.setting.state (steps count) → AllHappen store.setting.state (steps batch)
  part-happens batch few happen =
      subst (λ (z : Seen). AllHappen z.setting.state (steps batch)) (sym was.store_is) (happen-behind first.setting.state done batch count few happen)

  -- all have happened
  pub all-stepped : done ≡ count → StoresTurn old now first store (storing_turn first.setting (steps count)) (storing_reply (Ok tt))
  all-stepped all =
      let room : have_room first.setting (steps count) ≡ true = steps-have-room first.setting count ∙ was.room in
      let turn = storing-turn first.setting (steps count) true room in
      record {
        ok = record {
          reply_is = ap (λ (t : Turn). t.reply) (sym turn);
          on = record {
            setting = ap (λ (z : Seen). z.setting) was.store_is ∙ ap (λ (n : ℕ). after_events first.setting (steps n)) all ∙ ap (λ (t : Turn). t.after) (sym turn);
            intact = ap (λ (z : Seen). z.broken) was.store_is;
            place = was.place;
            stands = was.stands;
            grows =
                subst (λ (t : Turn). GrowsBy old.contents now.contents first.setting t.after t.events) (sym turn)
                (subst (λ (n : ℕ). GrowsBy old.contents now.contents first.setting (after_events first.setting (steps n)) (steps n)) all was.grows);
          };
        };
        err = tt;
        stores = record {
          moments = was.moments;
          idle = λ nothing. was.still (omega (arith, all, ap length (sym (turn-events first.setting (steps count) room) ∙ nothing.1), length-replicate count Step));
          settled = λ _. was.settled;
          names = was.names;
          reported = was.quiet;
        };
      }

module _ {D : Type 0} (seen : D → DiskSeen) (mid new : D) {old : DiskSeen} {first store after : Seen} {done count : ℕ} (was : Stepped old (seen mid) first store done count)
    (batch : ℕ) (few : done + batch ≤ count) where
  part-moments : (result : Result (Unit {0}) StoreFault) → StoresEvents seen mid new store after (steps batch) result → Stands old first.setting → LeavesOnly old (seen new) (HoldsSome first.setting count)
  part-moments result went stands =
      then_run old (seen mid) (seen new) (HoldsSome first.setting count) (was.moments stands)
      (weaken (seen mid) (seen new) (HeldBetween store.setting (steps batch)) (HoldsSome first.setting count)
      (λ c between.
      subst (λ (es : List Event). Holds (IsTreeAfter (stored first.setting.state) es) c) (sym (turn-events first.setting (steps count) (steps-have-room first.setting count ∙ was.room)))
      (part-held first.setting done batch count c few (subst (λ (z : Seen). HeldBetween z.setting (steps batch) c) was.store_is between))) (went.moments (was.stands stands)))

  -- one part more
  pub part-stepped : 0 < batch → StoresEvents seen mid new store after (steps batch) (Ok tt) → (next : ℕ) → done + batch ≡ next → Stepped old (seen new) first after next count
  part-stepped some went next is =
      record {
        room = was.room;
        store_is = went.ends.store ∙ ap (λ (z : Seen). store_after z (steps batch)) was.store_is ∙ ap (λ (z : Setting). record first { setting = z }) (after-steps first.setting done batch ∙ ap (λ (n : ℕ). after_events first.setting (steps n)) is);
        place = went.ends.place;
        stands = λ stands. went.stands (was.stands stands);
        moments = part-moments (Ok tt) went;
        grows =
            grows-same old.contents (seen new).contents first.setting (after_events (after_events first.setting (steps done)) (steps batch)) (after_events first.setting (steps next)) (steps done ++ steps batch) (steps next)
            (after-steps first.setting done batch ∙ ap (λ (n : ℕ). after_events first.setting (steps n)) is) (replicate-append-replicate done batch Step ∙ ap steps is)
            (grows-then old.contents (seen mid).contents (seen new).contents first.setting (after_events first.setting (steps done)) (after_events (after_events first.setting (steps done)) (steps batch)) (steps done) (steps batch) was.grows
            (subst (λ (z : Seen). GrowsBy (seen mid).contents (seen new).contents z.setting (after_events z.setting (steps batch)) (steps batch)) was.store_is
            (grows-once (seen mid).contents (seen new).contents store.setting (steps batch) went.ends.written)));
        still = λ none. absurd (omega (arith, some, is, none));
        settled = λ _. went.ends.settled;
        names = went.names ∙ was.names;
        quiet = went.reported ∙ was.quiet;
      }

  stopped : (failed : Bool) (reason : StoreFault) → 0 < batch → StoresEvents seen mid new store after (steps batch) (Err reason) → (failed ≡ false → IsSettled (seen mid) → IsSettled (seen new)) → ReportsFault failed (seen mid).faults (seen new).faults →
      Stores old (seen new) first.setting (storing_turn first.setting (steps count)).after (all_events (storing_turn first.setting (steps count) ∷ [])) failed
  stopped failed reason some went settled told =
      record {
        moments = part-moments (Err reason) went;
        idle = λ nothing.
            absurd (omega (arith, some, few, ap length (sym (turn-events first.setting (steps count) (steps-have-room first.setting count ∙ was.room)) ∙ nothing.1), length-replicate count Step));
        settled = λ fine before. settled fine (was.settled before);
        names = went.names ∙ was.names;
        reported = told-since failed old.faults (seen mid).faults (seen new).faults was.quiet told;
      }

  -- or none, and then the disk failed or memory ran out, as there is room for all
  pub part-stopped : 0 < batch → (reason : StoreFault) → StoresEvents seen mid new store after (steps batch) (Err reason) →
      StoresTurn old (seen new) first after (storing_turn first.setting (steps count)) (storing_reply (Err reason))
  part-stopped some fault.Disk went = record { ok = tt; err = tt; stores = stopped true fault.Disk some went (λ e. absurd cc) went.reported }
  part-stopped some fault.Memory went =
      record { ok = tt; err = tt; stores = stopped false fault.Memory some went (λ _ settled. subst (λ (disk : D). IsSettled (seen disk)) (sym went.ends.1) settled) went.reported }
  part-stopped some fault.Full went =
      let fits : fit_behind store.setting.state.version store.setting.end batch 2 ≡ true =
      subst (λ (z : Seen). fit_behind z.setting.state.version z.setting.end batch 2 ≡ true) (sym was.store_is)
      (subst (λ (version : Version). fit_behind version (end_behind first.setting.state.version first.setting.end (steps done)) batch 2 ≡ true) (sym (apply_all-version first.setting.state (steps done)))
      (part-room first.setting.state.version first.setting.end done batch count few some was.room)) in
      let never : false ≡ true = sym went.ends.0 ∙ steps-have-room store.setting batch ∙ fits in
      absurd cc
  part-stopped some (fault.NotStore at) went = absurd went.ends
  part-stopped some fault.AlreadyStore went = absurd went.ends

-- Index steps that follow a command by themselves.

stores-due : (old new : DiskSeen) (setting : Setting) (count : ℕ) (due : List Event) (failed : Bool) → have_room setting (steps count) ≡ true → due ≡ steps count →
    Stores old new setting (storing_turn setting (steps count)).after (all_events (storing_turn setting (steps count) ∷ [])) failed → Stores old new setting (after_events setting due) due failed
stores-due old new setting count due failed room is stores =
    let turn = storing-turn setting (steps count) true room in
    subst (λ (z : Setting). Stores old new setting z due failed) (ap (λ (t : Turn). t.after) turn ∙ ap (after_events setting) (sym is))
    (subst (λ (es : List Event). Stores old new setting (storing_turn setting (steps count)).after es failed) (turn-events setting (steps count) room ∙ sym is) stores)

-- all that are due were stored; or the disk failed or memory ran out, as there is room for all
pub due-stored : {old new : DiskSeen} {before after : Seen} (count : ℕ) (due : List Event) → have_room before.setting (steps count) ≡ true → due ≡ steps count → (result : Result (Unit {0}) StoreFault) →
    StoresTurn old new before after (storing_turn before.setting (steps count)) (storing_reply result) → StoresSteps old new before after due result
due-stored {old} {new} {before} {after} count due room is (Ok done) went =
    let turn = storing-turn before.setting (steps count) true room in
    record {
      ok = record {
        setting = went.ok.on.setting ∙ ap (λ (t : Turn). t.after) turn ∙ ap (after_events before.setting) (sym is);
        intact = went.ok.on.intact;
        place = went.ok.on.place;
        stands = went.ok.on.stands;
        grows =
            grows-same old.contents new.contents before.setting (storing_turn before.setting (steps count)).after (after_events before.setting due) (storing_turn before.setting (steps count)).events due
            (ap (λ (t : Turn). t.after) turn ∙ ap (after_events before.setting) (sym is)) (ap (λ (t : Turn). t.events) turn ∙ sym is) went.ok.on.grows;
      };
      err = tt;
      stores = stores-due old new before.setting count due false room is went.stores;
    }
due-stored {old} {new} {before} {after} count due room is (Err fault.Full) went =
    let never : Refused (Limit Store) ≡ Lines [] = went.ok.reply_is ∙ ap (λ (t : Turn). t.reply) (storing-turn before.setting (steps count) true room) in
    absurd cc
due-stored {old} {new} {before} {after} count due room is (Err fault.Disk) went = record { ok = tt; err = tt; stores = stores-due old new before.setting count due true room is went.stores }
due-stored {old} {new} {before} {after} count due room is (Err fault.Memory) went = record { ok = tt; err = tt; stores = stores-due old new before.setting count due false room is went.stores }
due-stored {old} {new} {before} {after} count due room is (Err (fault.NotStore at)) went = absurd went.err
due-stored {old} {new} {before} {after} count due room is (Err fault.AlreadyStore) went = absurd went.err
