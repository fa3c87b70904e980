-- How many questions for terms lines may take: item by item, and where index steps follow by themselves.
use Rattle.std.proofs.Common.{◌≡◌, ℕ, zero, suc, ◌+◌, ◌-◌, ◌*◌, ◌≤◌, Bool, true, false, List, [], ◌∷◌, ◌++◌, length, filter, take, refl, ap, ap₂, sym, ◌∙◌, arith}
use Rattle.std.specs.Prelude.{if◌then◌else◌, replicate, Option}
use Rattle.std.specs.List.{range_with_len}
use Rattle.std.proofs.Math.Seq.{take-append_seam}
use Rattle.std.proofs.lemmas.List.{replicate-append-replicate}
use Rattle.hac_model.specs.Run.Costs.{answering_line, lines_cost}
use Rattle.hac_model.specs.Run.Play.{Given, Setting, Turn, after_events, can_step, events_in, given_behind, have_room, item_turn, left_by, nothing_given, refused_turn, steps_behind, turns}
use Rattle.hac_model.specs.Script.Lines.{Item}
use Rattle.hac_model.specs.Tree.Costs.{cost, costs, weight}
use Rattle.hac_model.specs.Tree.Events.{apply, apply_all}
use Rattle.hac_model.specs.Tree.Sessions.{stored}
use Rattle.hac_model.specs.Tree.Touched.{touches}
use Rattle.hac_model.specs.declared.events.Event.{Event}
use Rattle.hac_model.specs.declared.events.Event.TheVariants.{Step}
use Rattle.hac_model.specs.declared.states.State.{State}
use Rattle.hac_model.proofs.PlayLemmas.{stored-all}
use Rattle.sem_mounts.specs.Seen.{Contents}
use Rattle.hac_model.specs.declared.limits.LimitWord.TheVariants.{Store}
use Rattle.hac_model.specs.declared.replies.Refusal.TheVariants.{Limit}
use Rattle.hac_model.specs.declared.replies.Reply.TheVariants.{Lines}
use Rattle.hac_store.specs.Storing.{storing_cost}
use Rattle.hac_store.proofs.RoomLemmas.{room-costs, storing-within}
use Rattle.hac_top.specs.Asking.{given_by}
use Rattle.hac_top.specs.Deciding.{storing_turn, turn_with}
use Rattle.hac_top.specs.Storing.{IsBare, IsTurnOf}
use Rattle.hac_top.proofs.AskLemmas.{turn-same}
use Rattle.hac_top.proofs.TickLemmas.{ticked, turn-ticks}

-- Events.

-- several events and then more
pub costs-append : (xs ys : List Event) (s : State) → costs s (xs ++ ys) ≡ costs s xs + costs (apply_all s xs) ys
costs-append [] ys s = omega arith
costs-append (x ∷ xs) ys s = let rest = costs-append xs ys (apply s x) in omega (arith, rest)

-- an index step asks the same wherever sessions stand, and in each version
step-stored : (s : State) → cost (stored s) Step ≡ cost s Step
step-stored s =
    ap
    (λ (t : State).
    (length (filter (touches s Step) (range_with_len 0 t.next)) + length (filter (λ (item : ℕ). false) (range_with_len 0 t.next))) * (weight s + weight t) + 0)
    (sym (stored-all (Step ∷ []) s))

steps-stored : (count : ℕ) (s : State) → costs (stored s) (replicate count Step) ≡ costs s (replicate count Step)
steps-stored zero s = refl
steps-stored (suc count) s =
    ap₂ (λ (first rest : ℕ). first + rest) (step-stored s)
    (ap (λ (t : State). costs t (replicate count Step)) (sym (stored-all (Step ∷ []) s)) ∙ steps-stored count (apply s Step))

-- so they ask what they do behind the stored events, where these lead to what is stored
pub steps-alike : (s now : State) (events : List Event) (count : ℕ) → stored now ≡ apply_all (stored s) events → costs now (replicate count Step) ≡ costs (apply_all s events) (replicate count Step)
steps-alike s now events count leads =
    let asks = λ (t : State). costs t (replicate count Step) in
    sym (steps-stored count now) ∙ ap asks leads ∙ sym (steps-stored count (apply_all (stored s) events))
    ∙ ap asks (stored-all events (stored s) ∙ sym (stored-all events s)) ∙ steps-stored count (apply_all s events)

-- the steps that follow by themselves are some
steps-are : (most : ℕ) (setting : Setting) → (count : ℕ) × (steps_behind most setting ≡ replicate count Step)
steps-are zero setting = (0, refl)
steps-are (suc most) setting =
    let next = after_events setting (Step ∷ []) in
    let rest = steps-are most next in
    elim (can_step setting) as (λ b. (count : ℕ) × ((if b then Step ∷ steps_behind most next else []) ≡ replicate count Step)) [
      | true ↦ (suc rest.0, ap (λ (events : List Event). Step ∷ events) rest.1)
      | false ↦ (0, refl)
    ]

-- as many steps as are due ask no more than those that follow by themselves
pub due-asks : (setting : Setting) (most count probes probes_now : ℕ) → steps_behind most setting ≡ replicate count Step → probes_now ≤ probes + storing_cost setting (replicate count Step) →
    probes_now ≤ probes + costs setting.state (steps_behind most setting)
due-asks setting most count probes probes_now due asks =
    let same = ap (costs setting.state) due in
    omega (arith, asks, same, storing-within setting (replicate count Step))

-- the events of a turn that stores them may ask what they do where there is room
turn-asks : (setting : Setting) (events : List Event) → costs setting.state (storing_turn setting events).events ≡ storing_cost setting events
turn-asks setting events = by (have_room setting events)
  where
    by : (room : Bool) → costs setting.state (if room then turn_with setting (Lines []) events else refused_turn nothing_given setting (Limit Store)).events ≡ (if room then costs setting.state events else 0)
    by true = refl
    by false = refl

pub turn-within : (setting : Setting) (events : List Event) (probes now : ℕ) → now ≤ probes + storing_cost setting events → now ≤ probes + costs setting.state (storing_turn setting events).events
turn-within setting events probes now asks = omega (arith, asks, turn-asks setting events)

-- steps, and then a batch of them
steps-more : (s : State) (done batch : ℕ) → costs s (replicate (done + batch) Step) ≡ costs s (replicate done Step) + costs (apply_all s (replicate done Step)) (replicate batch Step)
steps-more s done batch = ap (costs s) (sym (replicate-append-replicate done batch Step)) ∙ costs-append (replicate done Step) (replicate batch Step) s

-- a batch asks no more than it adds
pub batch-asks : (s : State) (setting : Setting) (done batch all probes mid now : ℕ) → done + batch ≡ all → setting.state ≡ apply_all s (replicate done Step) → mid ≤ probes + costs s (replicate done Step) →
    now ≤ mid + storing_cost setting (replicate batch Step) → now ≤ probes + costs s (replicate all Step)
batch-asks s setting done batch all probes mid now is state had asks =
    let more = steps-more s done batch in
    let same : costs setting.state (replicate batch Step) ≡ costs (apply_all s (replicate done Step)) (replicate batch Step) = ap (λ (t : State). costs t (replicate batch Step)) state in
    let sum : costs s (replicate (done + batch) Step) ≡ costs s (replicate all Step) = ap (λ (n : ℕ). costs s (replicate n Step)) is in
    omega (arith, had, asks, storing-within setting (replicate batch Step), more, same, sum)

-- and fewer steps ask no more than all
pub fewer-steps : (setting : Setting) (done count : ℕ) → done ≤ count → have_room setting (replicate count Step) ≡ true → costs setting.state (replicate done Step) ≤ storing_cost setting (replicate count Step)
fewer-steps setting done count few room =
    let rest = count - done in
    let more = steps-more setting.state done rest in
    let sum : costs setting.state (replicate (done + rest) Step) ≡ costs setting.state (replicate count Step) = ap (λ (n : ℕ). costs setting.state (replicate n Step)) (omega (arith, few)) in
    let all = room-costs setting (replicate count Step) room in
    omega (arith, more, sum, all)

-- Lines.

-- a line takes what its data lines, its events and the steps behind it do
pub line-cost : (contents : Contents) (fault : Option (List ℕ)) (tick : ℕ) (setting : Setting) (item : Item) (turn : Turn) → IsTurnOf contents fault setting item turn → IsBare setting turn →
    lines_cost (given_by contents (fault ∷ []) tick) setting (item ∷ [])
    ≡ answering_line setting.state item + costs setting.state turn.events + costs turn.after.state (steps_behind tick turn.after)
line-cost contents fault tick setting item turn of bare =
    let s = setting.state in
    let steps = steps-are tick turn.after in
    let is : item_turn (given_by contents (fault ∷ []) tick) setting item ≡ ticked tick turn = turn-ticks contents (fault ∷ []) tick setting item ∙ ap (ticked tick) (sym of.is) in
    let own : costs s (events_in (item_turn (given_by contents (fault ∷ []) tick) setting item)) ≡ costs s (turn.events ++ steps_behind tick turn.after) = ap (λ (t : Turn). costs s (events_in t)) is in
    let both = costs-append turn.events (steps_behind tick turn.after) s in
    let behind : costs (apply_all s turn.events) (steps_behind tick turn.after) ≡ costs turn.after.state (steps_behind tick turn.after) =
    ap (costs (apply_all s turn.events)) steps.1 ∙ sym (steps-alike s turn.after.state turn.events steps.0 bare.leads) ∙ ap (costs turn.after.state) (sym steps.1) in
    omega (arith, own, both, behind)

-- fewer lines take no more
pub fewer-lines : (given : Given) (setting : Setting) (m n : ℕ) (items : List Item) → m ≤ n → lines_cost given setting (take m items) ≤ lines_cost given setting (take n items)
fewer-lines given setting zero n items fewer = omega arith
fewer-lines given setting (suc m) n [] fewer = by n
  where
    by : (n : ℕ) → 0 ≤ lines_cost given setting (take n [])
    by n = omega arith
fewer-lines given setting (suc m) zero (item ∷ items) fewer = absurd (omega (arith, fewer))
fewer-lines given setting (suc m) (suc n) (item ∷ items) fewer =
    let rest = fewer-lines (given_behind 1 given) (item_turn given setting item).after m n items (omega (arith, fewer)) in
    omega (arith, rest)

module _ (contents : Contents) (tick : ℕ) where
  -- lines and then more, whose commands met further faults
  pub further-lines : (met more : List (Option (List ℕ))) (setting : Setting) (items behind : List Item) → length met ≡ length items →
      lines_cost (given_by contents (met ++ more) tick) setting (items ++ behind)
      ≡ lines_cost (given_by contents met tick) setting items + lines_cost (given_by contents more tick) (left_by setting (turns (given_by contents met tick) setting items)) behind
  further-lines [] more setting [] behind same = omega arith
  further-lines (fault ∷ met) more setting [] behind same = absurd (omega (arith, same))
  further-lines [] more setting (item ∷ items) behind same = absurd (omega (arith, same))
  further-lines (fault ∷ met) more setting (item ∷ items) behind same =
      let turn = item_turn (given_by contents (fault ∷ met) tick) setting item in
      let asks = λ (t : Turn). answering_line setting.state item + costs setting.state (events_in t) in
      let rest = further-lines met more turn.after items behind (omega (arith, same)) in
      ap (λ (t : Turn). asks t + lines_cost (given_by contents (met ++ more) tick) t.after (items ++ behind)) (turn-same contents tick fault (met ++ more) met setting item)
      ∙ omega (arith, rest)

-- the first lines, as many as there are of them
pub take-lines : (count : ℕ) (items behind : List Item) → count ≡ length items → take count (items ++ behind) ≡ items
take-lines count items behind is = ap (λ (n : ℕ). take n (items ++ behind)) is ∙ take-append_seam items behind
