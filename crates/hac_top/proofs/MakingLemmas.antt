-- A script that is drawn from a number is played, and what it left is told.
use Rattle.std.proofs.Common.{◌≡◌, ◌∙◌, ℕ, ◌+◌, Bool, true, false, true≢false, ◌≤◌, List, Option, None, Some, refl, sym, ap, subst, arith, rules}
use Rattle.std.specs.Prelude.{⊤, Result, Ok, Err, IfOk, IfErr, OnOk}
use Rattle.std.specs.Option.{IfSome}
use Rattle.hac_outside.specs.Causes.{ReportsFault, Rose}
use Rattle.hac_outside.specs.Seen.{SinkSeen}
use Rattle.hac_model.specs.Run.Play.{Setting, left_by, play}
use Rattle.hac_model.specs.Script.CommandLine.{Options}
use Rattle.hac_model.specs.Script.Generator.{generated}
use Rattle.hac_model.specs.declared.states.State.{State}
use Rattle.hac_store.specs.Held.{held}
use Rattle.hac_store.specs.Loading.{loading}
use Rattle.sem_mounts.specs.Seen.{Contents, SpacesSeen}
use Rattle.hac_top.specs.Asking.{given_by}
use Rattle.hac_top.specs.Crashes.{IsOpened, StopsOpening, opening_outcome}
use Rattle.hac_top.specs.Devices.{ScriptLeft, seen_of_nothing, seen_of_script}
use Rattle.hac_top.specs.Ends.{IsFinished, IsOpenStatus, end_status, finished_status, is_bad_space, is_disk_fault, is_read_fault, is_write_fault}
use Rattle.hac_top.specs.Making.{IfMakes, Makes, MakesStore, PlaysMade, RunsMade, Tells, TellsEnd, TellsLeft, counts_text}
use Rattle.hac_top.specs.Replies.{StopsWriting, WritesAll}
use Rattle.hac_top.specs.Run.{Ends, Outside, PlaysOn, outside}
use Rattle.hac_top.specs.Storing.{IsUsable}
use Rattle.hac_top.specs.declared.status.Status.{Status}
use Rattle.hac_top.specs.declared.status.Status.TheVariants.{Done, SomeRefused, WriteFault, Memory}
use Rattle.hac_disk.specs.Images.{IsQuiet}
use Rattle.hac_disk.specs.Seen.{DiskSeen, IsLawful}
use Rattle.hac_store.specs.Stores.{Seen, Stands}
use Rattle.hac_top.proofs.GoesOn.{fresh_reader}
use Rattle.hac_top.proofs.LineLemmas.{on-stop, runs-begin, stops-unread}
use Rattle.hac_top.proofs.OpenedLemmas.{Opening, ran-opened-with, ran-unopened}
use Rattle.hac_top.proofs.UnattachedLemmas.{IsUnattached, ran-given, ran-unattached, within-same}

-- ---- the devices of a drawn script

-- a source that has given nothing yet, and a sink that keeps nothing
abbrev pub own_outside : ℕ → ℕ → Outside
own_outside number probes = outside (seen_of_script (record { left = generated number; ended = false })) seen_of_nothing probes

-- a device that didn't fail reports no fault
no-fault : (failed : Bool) (before now : ℕ) → ReportsFault failed before now → now ≡ before → (Rose before before → ⊥) → failed ≡ false
no-fault true before now told same never = absurd (never (subst (λ (n : ℕ). Rose before n) same told.1))
no-fault false before now told same never = refl

never-rose : Rose 0 0 → ⊥
never-rose rose = absurd (omega (arith, rose))

-- ---- what is told

-- the reply was written, or not
pub told-all : (played : Result Bool Status) (refused : Bool) (s : State) (before after : SinkSeen) → played ≡ Ok refused → WritesAll before after (counts_text s) → TellsLeft played (Ok refused) s before after
told-all played refused s before after is all = subst (λ (p : Result Bool Status). TellsLeft p (Ok refused) s before after) (sym is) (refl, all)

pub told-some : (played : Result Bool Status) (refused : Bool) (status : Status) (s : State) (before after : SinkSeen) → played ≡ Ok refused → StopsWriting status before after (counts_text s) → TellsLeft played (Err status) s before after
told-some played refused status s before after is some = subst (λ (p : Result Bool Status). TellsLeft p (Err status) s before after) (sym is) some

-- a status that stops a play is what the run ends with
tells-stop : (stop : Status) (s : State) (before after : SinkSeen) → (IsFinished stop → ⊥) → after ≡ before → Tells stop stop s before after
tells-stop Done s before after unfinished same = absurd (unfinished tt)
tells-stop SomeRefused s before after unfinished same = absurd (unfinished tt)
tells-stop other s before after unfinished same = (refl, same)

-- nothing is told of what isn't played
pub tells-none : (status : Status) (s : State) (sink : SinkSeen) → (IsFinished status → ⊥) → Tells status status s sink sink
tells-none status s sink unfinished = tells-stop status s sink sink unfinished refl

tells-by : (refused : Bool) (told : Result Bool Status) (s : State) (before after : SinkSeen) → TellsLeft (Ok refused) told s before after
    → Tells (finished_status refused) (end_status told) s before after
tells-by true (Ok true) s before after told = (refl, told.1)
tells-by true (Ok false) s before after told = absurd (true≢false (sym told.0))
tells-by false (Ok true) s before after told = absurd (true≢false told.0)
tells-by false (Ok false) s before after told = (refl, told.1)
tells-by true (Err WriteFault) s before after told = told
tells-by true (Err Memory) s before after told = told
tells-by true (Err other) s before after told = absurd told
tells-by false (Err WriteFault) s before after told = told
tells-by false (Err Memory) s before after told = told
tells-by false (Err other) s before after told = absurd told

-- ---- how the run ends then

-- what is known of a run that told what its script left, whatever that was
pub record EndsTelling (played status : Status) (before after : SinkSeen) : Type 0 where
  pub opened : IsOpenStatus status
  pub disk : is_disk_fault status ≡ is_disk_fault played
  pub unread : is_read_fault status ≡ false
  pub wrote : ReportsFault (is_write_fault status) before.faults after.faults
  pub passed : (status ≡ WriteFault → ⊥) → before.held_back ≡ 0 → after.held_back ≡ 0

ends-all : (played : Status) (bytes : List ℕ) (before after : SinkSeen) → IsOpenStatus played → is_read_fault played ≡ false → is_write_fault played ≡ false → WritesAll before after bytes → EndsTelling played played before after
ends-all played bytes before after opened unread unwritten all = record {
  opened = opened;
  disk = refl;
  unread = unread;
  wrote = subst (λ (b : Bool). ReportsFault b before.faults after.faults) (sym unwritten) all.faults;
  passed = λ _. all.passed;
}

ends-same : (played : Status) (before after : SinkSeen) → IsOpenStatus played → is_read_fault played ≡ false → is_write_fault played ≡ false → after ≡ before → EndsTelling played played before after
ends-same played before after opened unread unwritten same = record {
  opened = opened;
  disk = refl;
  unread = unread;
  wrote = subst (λ (b : Bool). ReportsFault b before.faults after.faults) (sym unwritten) (ap (λ (k : SinkSeen). k.faults) same);
  passed = λ _ none. ap (λ (k : SinkSeen). k.held_back) same ∙ none;
}

ends-memory : (played : Status) (before after : SinkSeen) → is_disk_fault played ≡ false → after ≡ before → EndsTelling played Memory before after
ends-memory played before after disk same = record {
  opened = tt;
  disk = sym disk;
  unread = refl;
  wrote = ap (λ (k : SinkSeen). k.faults) same;
  passed = λ _ none. ap (λ (k : SinkSeen). k.held_back) same ∙ none;
}

ends-failed : (played : Status) (s : State) (before after : SinkSeen) → is_disk_fault played ≡ false → TellsEnd played WriteFault s before after → EndsTelling played WriteFault before after
ends-failed played s before after disk told = record { opened = tt; disk = sym disk; unread = refl; wrote = told.1; passed = λ other. absurd (other refl) }

finished-facts : (refused : Bool) → IsOpenStatus (finished_status refused) × (is_disk_fault (finished_status refused) ≡ false) × (is_read_fault (finished_status refused) ≡ false) × (is_write_fault (finished_status refused) ≡ false)
finished-facts true = (tt, refl, refl, refl)
finished-facts false = (tt, refl, refl, refl)

ends-by : (refused : Bool) (told : Result Bool Status) (s : State) (before after : SinkSeen) → TellsLeft (Ok refused) told s before after → EndsTelling (finished_status refused) (end_status told) before after
ends-by refused (Ok now) s before after told =
    let facts = finished-facts refused in
    subst (λ (b : Bool). EndsTelling (finished_status refused) (finished_status b) before after) (sym told.0)
    (ends-all (finished_status refused) _ before after facts.0 facts.2 facts.3 told.1)
ends-by refused (Err WriteFault) s before after told = ends-failed (finished_status refused) s before after (finished-facts refused).1 told
ends-by refused (Err Memory) s before after told = ends-memory (finished_status refused) before after (finished-facts refused).1 told
ends-by refused (Err other) s before after told = absurd told

pub ends-of : (played told : Result Bool Status) (s : State) (before after : SinkSeen) → IsOpenStatus (end_status played) → is_read_fault (end_status played) ≡ false → is_write_fault (end_status played) ≡ false →
    TellsLeft played told s before after → EndsTelling (end_status played) (end_status told) before after
ends-of (Ok refused) told s before after opened unread unwritten left = ends-by refused told s before after left
ends-of (Err stop) told s before after opened unread unwritten left =
    subst (λ (r : Result Bool Status). EndsTelling stop (end_status r) before after) (sym left.0) (ends-same stop before after opened unread unwritten left.1)

-- ---- what is said of a run

-- a script was played by devices of its own
pub made-by : {old new : DiskSeen} {tick : ℕ} {setting : Setting} {number : ℕ} {spaces left : SpacesSeen} {probes probes_now : ℕ} {result : Result Bool Status} {kept : Setting} (first last : ScriptLeft) → first.left ≡ generated number →
    PlaysOn old new tick setting (outside (seen_of_script first) seen_of_nothing probes) (outside (seen_of_script last) seen_of_nothing probes_now) spaces left result kept →
    PlaysMade old new tick setting number spaces left probes probes_now result kept
made-by {old} {new} {tick} {setting} {number} {spaces} {left} {probes} {probes_now} {result} {kept} first last is on = record {
  own = record {
    before = outside (seen_of_script first) seen_of_nothing probes;
    after = outside (seen_of_script last) seen_of_nothing probes_now;
    script_is = ap (λ (bytes : List ℕ). Some bytes) is;
    reads = refl;
    writes = refl;
    begins = refl;
    asks = omega arith;
  };
  unread = no-fault (is_read_fault (end_status result)) 0 0 on.plays.ends.reads refl never-rose;
  unwritten = no-fault (is_write_fault (end_status result)) 0 0 on.plays.ends.writes refl never-rose;
  on = on;
}

-- there was no memory for the script
pub made-none : (disk : DiskSeen) → IsLawful disk → (tick number probes : ℕ) (spaces : SpacesSeen) (store : Seen) (refused : Bool) → refused ≡ false → IsUsable disk store →
    PlaysMade disk disk tick store.setting number spaces spaces probes probes (Err Memory) store.setting
made-none disk lawful tick number probes spaces store refused begun usable =
    let first : ScriptLeft = record { left = generated number; ended = false } in
    made-by first first refl
    (on-stop (runs-begin disk lawful tick (own_outside number probes) spaces fresh_reader store refused refl refl begun usable) (stops-unread (seen_of_script first)))

-- and then what it left was told
pub makes-store : {old new : DiskSeen} {tick : ℕ} {setting : Setting} {number : ℕ} {spaces left : SpacesSeen} {probes mid now : ℕ} {played : Result Bool Status} (told : Result Bool Status) {kept : Setting} {before after : SinkSeen} →
    PlaysMade old new tick setting number spaces left probes mid played kept → TellsLeft played told kept.state before after → now ≤ mid →
    MakesStore old new tick setting number before after spaces left probes now (end_status told)
makes-store {old} {new} {tick} {setting} {number} {spaces} {left} {probes} {mid} {now} {played} told {kept} {before} {after} made tells few =
    record {
      played = end_status played;
      own = record {
        before = made.own.before;
        after = made.own.after;
        script_is = made.own.script_is;
        reads = made.own.reads;
        writes = made.own.writes;
        begins = made.own.begins;
        asks = omega (arith, few, made.own.asks);
      };
      plays = made.on.plays;
      tells = of spaces.contents made.own.before.source.left made.own.script_is played made.on.leaves made.on.stops tells;
      opened = ends.opened;
      reported = subst (λ (b : Bool). ReportsFault b old.faults new.faults) (sym ends.disk) made.on.plays.reported;
      unread = ends.unread;
      wrote = ends.wrote;
      passed = ends.passed;
    }
  where
    ends : EndsTelling (end_status played) (end_status told) before after
    ends = ends-of played told kept.state before after made.on.plays.opened made.unread made.unwritten tells

    of : (o : Option Contents) (script : Option (List ℕ)) → script ≡ Some (generated number) → (played : Result Bool Status) →
        OnOk played (IfSome o (λ c. IfSome script (λ bytes. kept ≡ left_by setting (play (given_by c made.on.plays.met tick) setting bytes)))) → IfErr played (λ stop. IsFinished stop → ⊥) → TellsLeft played told kept.state before after →
        IfSome o (λ c. Tells (end_status played) (end_status told) (left_by setting (play (given_by c made.on.plays.met tick) setting (generated number))).state before after)
    of None script is played leaves stops tells = search rules
    of (Some c) script is (Ok refused) leaves stops tells =
        subst (λ (z : Setting). Tells (finished_status refused) (end_status told) z.state before after)
        (subst (λ (o : Option (List ℕ)). IfSome o (λ bytes. kept ≡ left_by setting (play (given_by c made.on.plays.met tick) setting bytes))) is leaves) (tells-by refused told kept.state before after tells)
    of (Some c) script is (Err stop) leaves stops tells =
        subst (λ (r : Result Bool Status). Tells stop (end_status r) (left_by setting (play (given_by c made.on.plays.met tick) setting (generated number))).state before after) (sym tells.0)
        (tells-stop stop _ before after stops tells.1)

-- a status that says why no store was opened, or no space attached, isn't one of a script that was played to its end
pub opening-unfinished : (status : Status) → StopsOpening status → IsFinished status → ⊥
opening-unfinished Done stops finished = stops
opening-unfinished SomeRefused stops finished = stops
opening-unfinished other stops finished = finished

pub unattached-unfinished : (status : Status) → IsUnattached status → IsFinished status → ⊥
unattached-unfinished Done un finished = un
unattached-unfinished SomeRefused un finished = un
unattached-unfinished other un finished = finished

-- the same of it where more is known
pub makes-given : {number : ℕ} {before after : Outside} (P R : Status → Outside → Outside → Type 0) → ((played : Status) (own own_after : Outside) → P played own own_after → R played own own_after) → Makes number before after P → Makes number before after R
makes-given P R then_r makes = record { played = makes.played; own = makes.own; unread = makes.unread; says = then_r makes.played makes.own.before makes.own.after makes.says }

pub makes-each : (make : Option ℕ) (P R : ℕ → Type 0) → ((number : ℕ) → P number → R number) → IfSome make P → IfSome make R
makes-each None P R then_r made = search rules
makes-each (Some number) P R then_r made = then_r number made

pub makes-all : (make : Option ℕ) (P : ℕ → Type 0) → ((number : ℕ) → P number) → IfSome make P
makes-all None P each = search rules
makes-all (Some number) P each = each number

-- nothing was played
pub makes-none : (asked : Options) (old new : DiskSeen) (before after : Outside) (spaces left : SpacesSeen) (premise : Type 0) (status : Status) (number : ℕ) → after.source ≡ before.source →
    RunsMade old new spaces left asked premise status before.sink after.sink status (own_outside number before.probes) (own_outside number after.probes) →
    Makes number before after (RunsMade old new spaces left asked premise status before.sink after.sink)
makes-none asked old new before after spaces left premise status number unread ran =
    record {
      played = status;
      own = record { before = own_outside number before.probes; after = own_outside number after.probes; script_is = refl; reads = refl; writes = refl; begins = refl; asks = omega arith };
      unread = unread;
      says = ran;
    }

-- a store was opened, and the script was played on it
pub makes-opened : (asked : Options) (old mid new : DiskSeen) → IsLawful new → (setting : Setting) (before after : Outside) (spaces left : SpacesSeen) (status : Status) (number mid_probes : ℕ) →
    MakesStore mid new asked.tick setting number before.sink after.sink spaces left mid_probes after.probes status → mid.faults ≡ old.faults → (asked.fresh ≡ false → IsQuiet old mid) → after.source ≡ before.source →
    IfSome old.contents (λ f. opening_outcome asked.fresh (held f) ≡ Ok setting) → IfSome old.contents (λ f. mid_probes ≤ before.probes + loading f) → IfSome old.contents (λ _. Stands mid setting) →
    IfSome old.contents (λ f. IfOk (opening_outcome asked.fresh (held f)) (Opening asked.fresh old mid)) →
    Makes number before after (RunsMade old new spaces left asked ⊤ status before.sink after.sink)
makes-opened asked old mid new lawful setting before after spaces left status number mid_probes made quiet still unread is few stands opening =
    record {
      played = made.played;
      own = record {
        before = record made.own.before { probes = before.probes };
        after = made.own.after;
        script_is = made.own.script_is;
        reads = made.own.reads;
        writes = made.own.writes;
        begins = refl;
        asks = made.own.asks;
      };
      unread = unread;
      says =
          ran-opened-with asked.fresh asked.tick old mid new lawful setting made.own.before made.own.after before.probes spaces left made.played made.plays quiet still
          (λ given z script. Tells made.played status (left_by z (play given z script)).state before.sink after.sink) old.contents is (subst (λ (n : ℕ). IfSome old.contents (λ f. n ≤ before.probes + loading f)) (sym made.own.begins) few) stands opening (tells spaces.contents made.own.before.source.left made.own.script_is made.tells);
    }
  where
    tells : (o : Option Contents) (script : Option (List ℕ)) → script ≡ Some (generated number) →
        IfSome o (λ c. Tells made.played status (left_by setting (play (given_by c made.plays.met asked.tick) setting (generated number))).state before.sink after.sink) →
        IfSome o (λ c. IfSome script (λ s. Tells made.played status (left_by setting (play (given_by c made.plays.met asked.tick) setting s)).state before.sink after.sink))
    tells None script is told = search rules
    tells (Some c) script is told =
        subst (λ (l : Option (List ℕ)). IfSome l (λ s. Tells made.played status (left_by setting (play (given_by c made.plays.met asked.tick) setting s)).state before.sink after.sink)) (sym is) told

-- how such a run ends
pub made-ends : {old new : DiskSeen} {tick : ℕ} {setting : Setting} {number : ℕ}
    {spaces left : SpacesSeen} {probes probes_now : ℕ} {status : Status} (before : Outside) (after : SinkSeen) → MakesStore old new tick setting number before.sink after spaces left probes probes_now status →
    Ends status before (outside before.source after probes_now)
made-ends before after made = record {
  reads = subst (λ (b : Bool). ReportsFault b before.source.faults before.source.faults) (sym made.unread) refl;
  writes = made.wrote;
  within = within-same before.source.left;
  passed = made.passed;
}

-- no store was opened
pub made-unopened : (asked : Options) (old new : DiskSeen) → IsLawful new → (asked.fresh ≡ false → IsQuiet old new) → (before : Outside) (now : ℕ) (spaces : SpacesSeen) (status : Status) → StopsOpening status → ReportsFault (is_disk_fault status) old.faults new.faults →
    IfSome old.contents (λ f. IsOpened (Err status) (opening_outcome asked.fresh (held f))) → IfSome old.contents (λ f. now ≤ before.probes + loading f) →
    IfSome old.contents (λ f. IfOk (opening_outcome asked.fresh (held f)) (Opening asked.fresh old new)) →
    (make : Option ℕ) → IfSome make (λ number. Makes number before (record before { probes = now }) (RunsMade old new spaces spaces asked ⊤ status before.sink before.sink))
made-unopened asked old new lawful still before now spaces status stops told opened few opening make =
    makes-all make (λ number. Makes number before (record before { probes = now }) (RunsMade old new spaces spaces asked ⊤ status before.sink before.sink))
    (λ number.
    makes-none asked old new before (record before { probes = now }) spaces spaces ⊤ status number refl
    (ran-unopened asked old new lawful still (own_outside number before.probes) now spaces (λ given setting script. Tells status status (left_by setting (play given setting script)).state before.sink before.sink)
    (λ given setting script. tells-none status _ before.sink (opening-unfinished status stops)) status stops told opened few opening))

-- no space was attached
pub made-unattached : (premise : Type 0) (status : Status) → IsUnattached status → (premise → is_bad_space status ≡ true → ⊥) → (asked : Options) (disk : DiskSeen) → IsLawful disk → (before : Outside) (old new : SpacesSeen) → old.faults ≤ new.faults →
    (make : Option ℕ) → IfSome make (λ number. Makes number before before (RunsMade disk disk old new asked premise status before.sink before.sink))
made-unattached premise status un good asked disk lawful before old new later make =
    makes-all make (λ number. Makes number before before (RunsMade disk disk old new asked premise status before.sink before.sink))
    (λ number.
    makes-none asked disk disk before before old new premise status number refl
    (ran-unattached premise status un good asked disk lawful (own_outside number before.probes) old new later
    (λ given setting script. Tells status status (left_by setting (play given setting script)).state before.sink before.sink) (λ given setting script. tells-none status _ before.sink (unattached-unfinished status un))))

-- memory ran out before any space was attached
pub memory-made : (premise : Options → Type 0) (words : Option Options) (disk : DiskSeen) → IsLawful disk → (before : Outside) (spaces : SpacesSeen) →
    IfMakes words (λ asked number. Makes number before before (RunsMade disk disk spaces spaces asked (premise asked) Memory before.sink before.sink))
memory-made premise None disk lawful before spaces = search rules
memory-made premise (Some asked) disk lawful before spaces = made-unattached (premise asked) Memory tt (λ _ never. absurd (true≢false (sym never))) asked disk lawful before spaces spaces (omega arith) asked.make

-- spaces were attached before
pub made-given : (asked : Options) (old new : DiskSeen) (before after : Outside) (spaces mid left : SpacesSeen) (status : Status) (premise : Type 0) → mid.faults ≡ spaces.faults →
    (make : Option ℕ) → IfSome make (λ number. Makes number before after (RunsMade old new mid left asked ⊤ status before.sink after.sink)) →
    IfSome make (λ number. Makes number before after (RunsMade old new spaces left asked premise status before.sink after.sink))
made-given asked old new before after spaces mid left status premise same make made =
    let was = RunsMade old new mid left asked ⊤ status before.sink after.sink in
    let now = RunsMade old new spaces left asked premise status before.sink after.sink in
    makes-each make (λ number. Makes number before after was) (λ number. Makes number before after now)
    (λ number.
    makes-given was now
    (λ played own own_after.
    ran-given old new spaces mid left same asked ⊤ premise (λ _. tt) own own_after played
    (λ given setting script. Tells played status (left_by setting (play given setting script)).state before.sink after.sink))) made
