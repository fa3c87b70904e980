-- A line is decided on, and its turn is stored.
use Rattle.std.proofs.Common.{◌≡◌, ℕ, ◌+◌, ◌≤◌, arith, Bool, true, false, List, [], ◌∷◌, ◌++◌, refl, ap, subst, sym, ◌∙◌, append-nil, rules}
use Rattle.std.specs.Prelude.{if◌then◌else◌, filter, replicate, IfOk, Option, None, Some, Result, Ok, Err}
use Rattle.std.specs.Option.{IfSome, option_map_or}
use Rattle.hac_disk.specs.Seen.{DiskSeen, IsLawful}
use Rattle.hac_core.specs.declared.drafts.Settled.{Settled}
use Rattle.hac_core.specs.declared.drafts.Settled.TheVariants as settled
use Rattle.hac_model.specs.Run.Costs.{answering_line}
use Rattle.hac_model.specs.Tree.Costs.{costs}
use Rattle.hac_model.specs.Run.Play.{MayFail, Setting, Turn, all_events, have_room, item_turn, next_place, nothing_given, refused_turn}
use Rattle.hac_model.specs.Script.Lines.{Item}
use Rattle.hac_model.specs.Tree.Events.{apply_all}
use Rattle.hac_model.specs.Tree.Sessions.{is_stored, stored}
use Rattle.hac_model.specs.declared.events.Event.{Event}
use Rattle.hac_model.specs.declared.events.Event.TheVariants.{Step}
use Rattle.hac_model.specs.declared.limits.LimitWord.TheVariants.{Store}
use Rattle.hac_model.specs.declared.memory.Memory.{Memory}
use Rattle.hac_model.specs.declared.replies.Refusal.TheVariants.{Limit}
use Rattle.hac_model.specs.declared.replies.Reply.{Reply}
use Rattle.hac_model.specs.declared.replies.Reply.TheVariants.{Lines}
use Rattle.hac_model.specs.declared.states.State.{State}
use Rattle.hac_model.proofs.PlayLemmas.{events-lead, stored-all}
use Rattle.hac_store.specs.Stores.{Seen}
use Rattle.hac_store.proofs.StoredLemmas.{unstored-same}
use Rattle.sem_mounts.specs.Seen.{Contents, SpacesSeen}
use Rattle.hac_top.specs.Asking.{given_by}
use Rattle.hac_top.specs.Deciding.{CanHappen, Decides, DecidesItem, decided_turn, saved_turn, settled_turn, storing_turn, turn_with}
use Rattle.hac_top.specs.Storing.{IsBare, IsTurnOf, StoresItem, StoresTurn}
use Rattle.hac_top.specs.declared.deciding.Decision.{Decision}
use Rattle.hac_top.specs.declared.deciding.Decision.TheVariants.{Answer, Change}
use Rattle.hac_top.specs.declared.status.Status.{Status}
use Rattle.hac_top.specs.declared.status.Status.TheVariants as status
use Rattle.hac_top.proofs.DecidingLemmas.{steps-kept}
use Rattle.hac_top.proofs.TickLemmas.{turn-ticks}
use Rattle.hac_top.proofs.StoringLemmas.{stops-first, storing-turn}
use Rattle.hac_model.specs.Tree.{raised}

-- events that are all stored
storing-bare : (setting : Setting) (events : List Event) → filter is_stored events ≡ events → (room : Bool) → have_room setting events ≡ room → IsBare setting (storing_turn setting events)
storing-bare setting events kept true room =
    subst (IsBare setting) (sym (storing-turn setting events true room))
    (record { own = append-nil (events ++ []) ∙ append-nil events; leads = stored-all events setting.state ∙ ap (apply_all (stored setting.state)) kept })
storing-bare setting events kept false room = subst (IsBare setting) (sym (storing-turn setting events false room)) (record { own = refl; leads = refl })

settled-bare : (setting : Setting) (outcome : Settled) → CanHappen setting.state (Change outcome) → IsBare setting (settled_turn setting outcome)
settled-bare setting (settled.Session event) can = record { own = refl; leads = ap raised (unstored-same setting.state event can.1) }
settled-bare setting (settled.Change change) can = storing-bare setting (change.event ∷ []) (ap (λ (b : Bool). if b then change.event ∷ [] else []) can.2) (have_room setting (change.event ∷ [])) refl
settled-bare setting settled.Checkpoint can =
    elim (next_place setting) as (λ o. IsBare setting (option_map_or (saved_turn setting) o (refused_turn nothing_given setting (Limit Store)))) [
      | None ↦ record { own = refl; leads = refl }
      | Some at ↦ record { own = refl; leads = refl }
    ]
settled-bare setting (settled.Steps count) can = storing-bare setting (replicate count Step) (steps-kept count) (have_room setting (replicate count Step)) refl

decided-bare : (setting : Setting) (decision : Decision) → CanHappen setting.state decision → IsBare setting (decided_turn setting decision)
decided-bare setting (Answer reply) can = record { own = refl; leads = refl }
decided-bare setting (Change outcome) can = settled-bare setting outcome can

-- so is that of a line
item-bare : (contents : Contents) (met : List (Option (List ℕ))) (setting : Setting) (item : Item) → IsBare setting (item_turn (given_by contents met 0) setting item)
item-bare contents met setting item =
    let turn = item_turn (given_by contents met 0) setting item in
    let steps : turn.steps ≡ [] = ap (λ (t : Turn). t.steps) (turn-ticks contents met 0 setting item) in
    let own : all_events (turn ∷ []) ≡ turn.events = append-nil (turn.events ++ turn.steps) ∙ ap (λ (more : List Event). turn.events ++ more) steps ∙ append-nil turn.events in
    record { own = own; leads = events-lead (given_by contents met 0) setting (item ∷ []) ∙ ap (apply_all (stored setting.state)) own }

-- what was decided was stored
pub item-stored : (old new : DiskSeen) (spaces left : SpacesSeen) (before after : Seen) (s : State) (item : Item) (decision : Decision) {result : Result Reply Status} {probes mid now : ℕ} → s ≡ before.setting.state → DecidesItem spaces left s item (Ok decision) →
    mid ≤ probes + answering_line s item → now ≤ mid + costs before.setting.state (decided_turn before.setting decision).events →
    StoresTurn old new before after (decided_turn before.setting decision) result → StoresItem old new spaces left before after item probes now result
item-stored old new spaces left before after s item decision {result} {probes} {mid} {now} same decides asked asks stores =
    record {
      fault = decides.fault;
      asked = decides.asked;
      turn = decided_turn before.setting decision;
      bare = decided-bare before.setting decision (subst (λ (t : State). CanHappen t decision) same decides.happen);
      told = by spaces.contents (subst (λ (t : State). IfSome spaces.contents (λ c. Says t c)) same decides.told);
      stores = stores;
      asks =
          let answering : mid ≤ probes + answering_line before.setting.state item = subst (λ (t : State). mid ≤ probes + answering_line t item) same asked in
          omega (arith, answering, asks);
    }
  where
    Says : State → Contents → Type 0
    Says t c = MayFail (given_by c (decides.fault ∷ []) 0) t item decides.fault × Decides t (λ setting. item_turn (given_by c (decides.fault ∷ []) 0) setting item) decision

    by : (o : Option Contents) → IfSome o (λ c. Says before.setting.state c) → IfSome o (λ c. IsTurnOf c decides.fault before.setting item (decided_turn before.setting decision))
    by None told = search rules
    by (Some c) told = record { is = sym (told.1.leads before.setting refl); may = told.0 }

-- memory ran out before
pub item-first : (disk : DiskSeen) → IsLawful disk → (spaces left : SpacesSeen) (store : Seen) (s : State) (item : Item) (result : Result Decision Memory) {probes now : ℕ} → s ≡ store.setting.state → DecidesItem spaces left s item result →
    now ≤ probes + answering_line s item → StoresItem disk disk spaces left store store item probes now (Err status.Memory)
item-first disk lawful spaces left store s item result {probes} {now} same decides asked = by spaces.contents refl
  where
    answering : now ≤ probes + answering_line store.setting.state item
    answering = subst (λ (t : State). now ≤ probes + answering_line t item) same asked

    of : (turn : Turn) → IsBare store.setting turn → IfSome spaces.contents (λ c. IsTurnOf c decides.fault store.setting item turn) → StoresItem disk disk spaces left store store item probes now (Err status.Memory)
    of turn bare told = record { fault = decides.fault; asked = decides.asked; turn = turn; bare = bare; told = told; stores = stops-first disk lawful store turn; asks = omega (arith, answering) }

    first : {P Q : Type 0} → P × Q → P
    first both = both.0

    by : (o : Option Contents) → spaces.contents ≡ o → StoresItem disk disk spaces left store store item probes now (Err status.Memory)
    by None is = of (turn_with store.setting (Lines []) []) (record { own = refl; leads = refl }) (subst (λ (o : Option Contents). IfSome o (λ c. IsTurnOf c decides.fault store.setting item (turn_with store.setting (Lines []) []))) (sym is) (search rules))
    by (Some c) is =
        let turn = item_turn (given_by c (decides.fault ∷ []) 0) store.setting item in
        of turn (item-bare c (decides.fault ∷ []) store.setting item)
        (subst (λ (o : Option Contents). IfSome o (λ c. IsTurnOf c decides.fault store.setting item turn)) (sym is)
        (record { is = refl; may = subst (λ (t : State). MayFail (given_by c (decides.fault ∷ []) 0) t item decides.fault) same (first (subst (λ (o : Option Contents). IfSome o (λ c. MayFail (given_by c (decides.fault ∷ []) 0) s item decides.fault × IfOk result (Decides s (λ setting. item_turn (given_by c (decides.fault ∷ []) 0) setting item)))) is decides.told)) }))
