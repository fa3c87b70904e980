-- How many questions reading a store may take, record by record.
use Rattle.std.proofs.Common.{◌≡◌, ℕ, ◌+◌, ◌≤◌, Bool, true, false, if◌then◌else◌, List, [], ◌∷◌, None, Some, IfOk, IfSome, Result, Ok, Err, refl, sym, ◌∙◌, ap, arith, zero-add, Vec}
use Rattle.std.specs.declared.alloc.Global.{Global}
use Rattle.std.specs.declared.option.Option.{Option}
use Rattle.event_codec.specs.Kinds.{kind_of}
use Rattle.event_codec.specs.declared.kinds.PayloadKind.{PayloadKind}
use Rattle.event_codec.specs.declared.kinds.PayloadKind.TheVariants as kind
use Rattle.hac_checkpoint.specs.Roots.{root_of, IsRootSeen}
use Rattle.hac_checkpoint.specs.declared.heads.Root.{Root}
use Rattle.hac_checkpoint.specs.declared.heads.Stop.{Stop}
use Rattle.hac_journal.specs.Finding.{Whole, Closed, TellsAt, found_at}
use Rattle.hac_journal.specs.Logs.{Log, Record, behind_record, log_at, payloads_of}
use Rattle.hac_journal.specs.declared.finding.Next.TheVariants.{Entry, End}
use Rattle.hac_journal.proofs.LogLemmas.{log-found}
use Rattle.hac_model.specs.Payload.Payloads.{spelled}
use Rattle.hac_model.specs.Payload.States.{spelled_snapshot}
use Rattle.hac_model.specs.Run.Answers.{◌>>=◌}
use Rattle.hac_model.specs.Run.History.{Unaccepted, event_by, event_spelled, history, history_with, replay_cost}
use Rattle.hac_model.specs.Tree.{empty, root_alone}
use Rattle.hac_model.specs.Tree.Costs.{opening}
use Rattle.hac_model.specs.Tree.Events.{accepted, apply}
use Rattle.hac_model.specs.declared.events.Event.{Event}
use Rattle.hac_model.specs.declared.states.State.{State}
use Rattle.hac_model.specs.declared.versions.Version.{Version}
use Rattle.hac_model.specs.declared.versions.Version.TheVariants.{Two}
use Rattle.hac_model.proofs.HistoryLemmas.{history-none, history-step}
use Rattle.hac_store.specs.Held.{LiveArea, after_event, after_payload, after_snapshot, area_by_kind, area_in, begun_with}
use Rattle.hac_store.specs.Loading.{area_cost, cost_by, cost_with, judging, loading, loading_area, replaying}
use Rattle.hac_store.specs.declared.areas.Begun.{Begun}
use Rattle.hac_store.specs.declared.fault.StoreFault.{StoreFault}

-- what follows a record costs something where it is sound
abbrev reading_on : Result State Stop → (State → ℕ) → ℕ
reading_on (Err stop) next = 0
reading_on (Ok new) next = next new

replay-is : (s : State) (at : ℕ) (file : List ℕ) → replaying s at file ≡ cost_by s (log_at at file)
unfolding replaying
replay-is s at file = refl

replay-closed : (s : State) (at : ℕ) (file : List ℕ) → found_at at file ≡ Closed → replaying s at file ≡ opening s
replay-closed s at file found =
    replay-is s at file ∙ ap (cost_by s) (log-found at file Closed found) ∙ ap (cost_with s (Some at)) (history-none s) ∙ zero-add (opening s)

-- a record costs its event, and what is behind it costs as much as it does by itself
tested-costs : (s : State) (at : ℕ) (log : Log) (event : Event) (b : Bool) (next : State → ℕ) → next (apply s event) ≡ cost_by (apply s event) log
    → replay_cost s event + reading_on (after_event s at (if b then Ok event else Err (Unaccepted event))) next
    ≡ cost_with s log.end (history_with (if b then Ok event else Err (Unaccepted event)) (λ e. history (apply s e) (payloads_of log.records)))
tested-costs s at log event true next same = omega (arith, same)
tested-costs s at log event false next same = omega arith

payload-costs : (s : State) (at : ℕ) (log : Log) (r : Result Event ℕ) (next : State → ℕ) → ((new : State) → next new ≡ cost_by new log)
    → judging s r + reading_on (after_payload s at r) next ≡ cost_with s log.end (history_with (event_spelled s r) (λ e. history (apply s e) (payloads_of log.records)))
payload-costs s at log (Err offset) next same = refl
payload-costs s at log (Ok event) next same = tested-costs s at log event (accepted s event) next (same (apply s event))

replay-whole : (s : State) (at : ℕ) (file payload : List ℕ) (behind : ℕ) → found_at at file ≡ Whole payload behind
    → replaying s at file ≡ judging s (spelled s.version payload) + reading_on (after_payload s at (spelled s.version payload)) (λ new. replaying new behind file)
replay-whole s at file payload behind found =
    let rest = log_at behind file in
    replay-is s at file ∙ ap (cost_by s) (log-found at file (Whole payload behind) found)
    ∙ ap (cost_with s rest.end) (history-step s payload (payloads_of rest.records))
    ∙ sym (payload-costs s at rest (spelled s.version payload) (λ new. replaying new behind file) (λ new. replay-is new behind file))

-- so far so few questions were asked that those of the log from here on may follow
abbrev pub Leaves : Option (List ℕ) → State → ℕ → State → ℕ → ℕ → ℕ → Type 0
Leaves seen old start new at first count = IfSome seen (λ file. count + replaying new at file ≤ first + replaying old start file)

-- at most so many were asked as the log may take
abbrev pub Within : Option (List ℕ) → State → ℕ → ℕ → ℕ → Type 0
Within seen old start first count = IfSome seen (λ file. count ≤ first + replaying old start file)

pub leaves-within : (seen : Option (List ℕ)) (old : State) (start : ℕ) (s : State) (at first count : ℕ) → Leaves seen old start s at first count → Within seen old start first count
leaves-within None old start s at first count left = tt
leaves-within (Some file) old start s at first count left = omega (arith, left)

-- behind the log its state may be opened
pub leaves-end : (seen : Option (List ℕ)) (old : State) (start : ℕ) (s : State) (at first count : ℕ) → Leaves seen old start s at first count → TellsAt End at seen
    → IfSome seen (λ file. count + opening s ≤ first + replaying old start file)
leaves-end None old start s at first count left tells = tt
leaves-end (Some file) old start s at first count left tells = omega (arith, left, replay-closed s at file tells)

-- one record more
pub leaves-more : (seen : Option (List ℕ)) (old : State) (start : ℕ) (s new : State) (at next : ℕ) (payload : Vec ℕ Global) (first count more : ℕ) → Leaves seen old start s at first count
    → TellsAt (Entry payload next) at seen → after_payload s at (spelled s.version payload.items) ≡ Ok new → more ≤ count + judging s (spelled s.version payload.items)
    → Leaves seen old start new next first more
leaves-more None old start s new at next payload first count more left tells is few = tt
leaves-more (Some file) old start s new at next payload first count more left tells is few =
    let on = ap (λ (r : Result State Stop). reading_on r (λ after. replaying after next file)) is in
    omega (arith, left, few, replay-whole s at file payload.items next tells, on)

-- a record that stops the reading
pub leaves-stop : (seen : Option (List ℕ)) (old : State) (start : ℕ) (s : State) (at next : ℕ) (payload : Vec ℕ Global) (first count more : ℕ) → Leaves seen old start s at first count
    → TellsAt (Entry payload next) at seen → more ≤ count + judging s (spelled s.version payload.items) → Within seen old start first more
leaves-stop None old start s at next payload first count more left tells few = tt
leaves-stop (Some file) old start s at next payload first count more left tells few = omega (arith, left, few, replay-whole s at file payload.items next tells)

-- where an area is begun, its log goes on
abbrev pub Continues : Result Begun StoreFault → ℕ → List ℕ → Type 0
Continues result at file = IfOk result (λ begun. loading_area at file ≡ replaying begun.replay begun.at file)

area-costs : (at : ℕ) (file : List ℕ) → loading_area at file ≡ area_cost (area_in (log_at at file))
unfolding loading_area
area-costs at file = refl

loads-alone : (version : Version) (at : ℕ) (file : List ℕ) (result : Result Begun StoreFault) → area_in (log_at at file) ≡ begun_with (log_at at file) (root_alone version)
    → IfOk result (λ begun. begun ≡ record { replay = root_alone version; at = at }) → Continues result at file
loads-alone version at file (Ok begun) leads is =
    area-costs at file ∙ ap area_cost leads ∙ sym (replay-is (root_alone version) at file) ∙ ap (λ (b : Begun). replaying b.replay b.at file) (sym is)
loads-alone version at file (Err why) leads is = tt

pub loads-event : (at : ℕ) (file payload : List ℕ) (behind : ℕ) (version : Version) (result : Result Begun StoreFault) → found_at at file ≡ Whole payload behind → kind_of payload ≡ kind.Event version
    → IfOk result (λ begun. begun ≡ record { replay = root_alone version; at = at }) → Continues result at file
loads-event at file payload behind version result found event is =
    let first : Record = record { at = at; payload = payload } in
    let here = log-found at file (Whole payload behind) found in
    loads-alone version at file result
    (ap area_in here ∙ ap (area_by_kind first (log_at behind file)) event ∙ ap (λ (log : Log). begun_with log (root_alone version)) (sym here)) is

pub loads-state : (at : ℕ) (file payload : List ℕ) (behind : ℕ) (s : State) → found_at at file ≡ Whole payload behind → kind_of payload ≡ kind.State
    → after_snapshot at (spelled_snapshot payload) ≡ Ok s → loading_area at file ≡ replaying s behind file
loads-state at file payload behind s found whole is =
    let first : Record = record { at = at; payload = payload } in
    area-costs at file ∙ ap (λ (log : Log). area_cost (area_in log)) (log-found at file (Whole payload behind) found)
    ∙ ap (λ (k : PayloadKind). area_cost (area_by_kind first (log_at behind file) k)) whole
    ∙ ap (λ (r : Result State Stop). area_cost (r >>= begun_with (log_at behind file))) is ∙ sym (replay-is s behind file)

pub loads-closed : (seen : Option (List ℕ)) (at : ℕ) (result : Result Begun StoreFault) → TellsAt End at seen → IfOk result (λ begun. begun ≡ record { replay = empty; at = at })
    → IfSome seen (λ file. Continues result at file)
loads-closed None at result tells is = tt
loads-closed (Some file) at result tells is =
    let here = log-found at file Closed tells in
    loads-alone Two at file result (ap area_in here ∙ ap (λ (log : Log). begun_with log empty) (sym here)) is

-- the area of a root is what is read of a store
load-root : (file : List ℕ) (here : Root) → root_of file ≡ Ok here → loading file ≡ loading_area here.start file
unfolding loading
load-root file here is = ap (λ (r : Result Root Stop). area_cost (r >>= (λ root. area_in (log_at root.start file)))) is ∙ sym (area-costs here.start file)

-- at most so many were asked as reading the store may take
abbrev pub Loaded : Option (List ℕ) → ℕ → ℕ → Type 0
Loaded seen first count = IfSome seen (λ file. count ≤ first + loading file)

pub loaded-none : (seen : Option (List ℕ)) (first : ℕ) → Loaded seen first first
loaded-none None first = tt
loaded-none (Some file) first = omega arith

pub loaded-log : (seen : Option (List ℕ)) (here : Root) (begun : Begun) (first count : ℕ) → IsRootSeen (Ok here) seen → IfSome seen (λ file. Continues (Ok begun) here.start file)
    → Within seen begun.replay begun.at first count → Loaded seen first count
loaded-log None here begun first count root_is loads within = tt
loaded-log (Some file) here begun first count root_is loads within = omega (arith, load-root file here root_is, loads, within)

-- what is left then is enough to find the links of the state
pub loaded-ready : (seen : Option (List ℕ)) (here : Root) (begun : Begun) (s : State) (first count : ℕ) → IsRootSeen (Ok here) seen → IfSome seen (λ file. Continues (Ok begun) here.start file)
    → IfSome seen (λ file. count + opening s ≤ first + replaying begun.replay begun.at file) → IfSome seen (λ file. count + opening s ≤ first + loading file)
loaded-ready None here begun s first count root_is loads within = tt
loaded-ready (Some file) here begun s first count root_is loads within = omega (arith, load-root file here root_is, loads, within)
