-- What payloads make of a state, one after the other.
use Rattle.std.proofs.Common.{◌≡◌, ℕ, suc, ◌+◌, List, [], ◌∷◌, ◌++◌, length, None, Result, Ok, Err, refl, sym, ◌∙◌, ap, subst, arith}
use Rattle.hac_model.specs.Run.History.{Fault, HistoriesGoOn, History, event_by, history, history_with, replay_costs, state_behind}
use Rattle.hac_model.specs.Tree.Events.{apply, apply_all}
use Rattle.hac_model.specs.declared.events.Event.{Event}
use Rattle.hac_model.specs.declared.states.State.{State}
use Rattle.hac_model.proofs.PlayLemmas.{apply_all-append}

pub history-none : (s : State) → history s [] ≡ record { events = []; fault = None }
unfolding history
history-none s = refl

pub history-step : (s : State) (payload : List ℕ) (payloads : List (List ℕ)) → history s (payload ∷ payloads) ≡ history_with (event_by s payload) (λ event. history (apply s event) payloads)
unfolding history
history-step s payload payloads = refl

-- a history behind events
abbrev behind_events : List Event → History → History
behind_events events more = record { events = events ++ more.events; fault = more.fault }

with-append : (s : State) (first more : List (List ℕ)) (r : Result Event Fault)
    → ((event : Event) → (history (apply s event) first).fault ≡ None
    → history (apply s event) (first ++ more) ≡ behind_events (history (apply s event) first).events (history (state_behind (apply s event) first) more))
    → (history_with r (λ event. history (apply s event) first)).fault ≡ None
    → history_with r (λ event. history (apply s event) (first ++ more))
    ≡ behind_events (history_with r (λ event. history (apply s event) first)).events (history (apply_all s (history_with r (λ event. history (apply s event) first)).events) more)
with-append s first more (Ok event) rest none = ap (λ (t : History). record { events = event ∷ t.events; fault = t.fault }) (rest event none)
with-append s first more (Err fault) rest none = absurd (cc)

pub histories-go-on : HistoriesGoOn
histories-go-on s [] more none = ap (λ (t : History). behind_events t.events (history (apply_all s t.events) more)) (sym (history-none s))
histories-go-on s (payload ∷ first) more none =
    let step = history-step s payload first in
    history-step s payload (first ++ more)
    ∙ with-append s first more (event_by s payload) (λ event. histories-go-on (apply s event) first more) (ap (λ (t : History). t.fault) (sym step) ∙ none)
    ∙ ap (λ (t : History). behind_events t.events (history (apply_all s t.events) more)) (sym step)

-- where all payloads happen, there are as many events
with-count : (n : ℕ) (r : Result Event Fault) (next : Event → History) → ((event : Event) → (next event).fault ≡ None → length (next event).events ≡ n)
    → (history_with r next).fault ≡ None → length (history_with r next).events ≡ suc n
with-count n (Ok event) next rest none = ap suc (rest event none)
with-count n (Err fault) next rest none = absurd (cc)

pub history-count : (s : State) (payloads : List (List ℕ)) → (history s payloads).fault ≡ None → length (history s payloads).events ≡ length payloads
history-count s [] none = ap (λ (h : History). length h.events) (history-none s)
history-count s (payload ∷ payloads) none =
    let step = history-step s payload payloads in
    ap (λ (h : History). length h.events) step
    ∙ with-count (length payloads) (event_by s payload) (λ event. history (apply s event) payloads) (λ event. history-count (apply s event) payloads)
    (ap (λ (h : History). h.fault) (sym step) ∙ none)

-- what each event keeps, a history keeps
with-keeps : (P : State → Type 0) (s : State) (r : Result Event Fault) (next : Event → History) → P s → ((event : Event) → r ≡ Ok event → P (apply_all (apply s event) (next event).events))
    → P (apply_all s (history_with r next).events)
with-keeps P s (Ok event) next p rest = rest event refl
with-keeps P s (Err fault) next p rest = p

pub histories-keep : (P : State → Type 0) → ((s : State) (payload : List ℕ) (event : Event) → P s → event_by s payload ≡ Ok event → P (apply s event))
    → (s : State) (payloads : List (List ℕ)) → P s → P (state_behind s payloads)
histories-keep P each s [] p = subst (λ (h : History). P (apply_all s h.events)) (sym (history-none s)) p
histories-keep P each s (payload ∷ payloads) p =
    subst (λ (h : History). P (apply_all s h.events)) (sym (history-step s payload payloads))
    (with-keeps P s (event_by s payload) (λ event. history (apply s event) payloads) p (λ event is. histories-keep P each (apply s event) payloads (each s payload event p is)))

-- what replaying costs, event by event
pub replay_costs-append : (first more : List Event) (s : State) → replay_costs s (first ++ more) ≡ replay_costs s first + replay_costs (apply_all s first) more
replay_costs-append [] more s = omega arith
replay_costs-append (event ∷ first) more s = omega (arith, replay_costs-append first more (apply s event))
