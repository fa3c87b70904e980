-- The turn of a line is the one that was decided on.
use Rattle.std.proofs.Common.{◌≡◌, true, false, Bool, List, [], ◌∷◌, refl, ap, sym, subst, ◌∙◌, ℕ, zero, suc}
use Rattle.std.specs.Prelude.{Option, None, Some, IfErr, IfOk, Result, Ok, Err, filter, if◌then◌else◌, is_some, replicate}
use Rattle.std.specs.Option.{option_map, option_map_or}
use Rattle.hac_core.specs.Drafts.{CanSettle, DraftSeen, IsDraftFor, Knows, Settles, Shows, is_area, is_reading, reads, settled_events, is_indexing}
use Rattle.hac_core.specs.declared.drafts.Known.{Known}
use Rattle.hac_core.specs.declared.drafts.Known.TheVariants.{Reads, Changes, Indexes, Saves}
use Rattle.hac_core.specs.declared.drafts.Settled.{Settled}
use Rattle.hac_core.specs.declared.drafts.Settled.TheVariants as settled
use Rattle.hac_model.specs.Run.Answers.{Refuses, first_cause}
use Rattle.hac_model.specs.Run.Asks.{asks}
use Rattle.hac_model.specs.Run.Play.{Setting, Turn, absent_cause, answered_turn, checkpointed, command_turn, data_lines, end_behind, fits_store, full_cause, given_spaces, happened, have_room, is_checkpoint, next_place, no_answers, nothing_given, refused_turn, space_answers, stored_events, turn_cause}
use Rattle.hac_model.specs.Run.Refusals.{cause, cause_against, early_cause, event_of, events_of, late_cause}
use Rattle.hac_model.specs.declared.spaces.Asks.{Asks}
use Rattle.hac_model.specs.Spaces.Answering.{Attached, answers_of, asked_spaces, first_absent}
use Rattle.hac_model.specs.Tree.Events.{apply, apply_all}
use Rattle.hac_model.specs.Tree.Sessions.{is_stored}
use Rattle.hac_model.specs.declared.events.Event.{Event}
use Rattle.hac_model.specs.declared.events.Event.TheVariants.{Step}
use Rattle.hac_model.specs.declared.limits.LimitWord.TheVariants.{Store}
use Rattle.hac_model.specs.declared.memory.Memory.{Memory}
use Rattle.hac_model.specs.declared.replies.Deny.{Deny}
use Rattle.hac_model.specs.declared.replies.Deny.TheVariants as deny
use Rattle.hac_model.specs.declared.replies.Refusal.{Refusal}
use Rattle.hac_model.specs.declared.replies.Refusal.TheVariants.{Limit, NoSpace}
use Rattle.hac_model.specs.declared.replies.Reply.{Reply}
use Rattle.hac_model.specs.declared.replies.Reply.TheVariants.{Lines}
use Rattle.hac_model.specs.declared.resolved.Resolved.{Resolved}
use Rattle.hac_model.specs.declared.resolved.Resolved.TheVariants.{Cat, Ls, Pwd, Readlink, Query, Sls, Find, Counts, Index, Tick, Checkpoint}
use Rattle.hac_model.specs.declared.spaces.Answers.{Answers}
use Rattle.hac_model.specs.declared.states.State.{State}
use Rattle.hac_model.proofs.PlayLemmas.{saves-nothing}
use Rattle.hac_top.specs.Deciding.{CanHappen, Decides, IsDenial, saved_turn, saving_turn, settled_turn, standing_turn, storing_turn, turn_with}
use Rattle.hac_top.specs.declared.deciding.Decision.{Decision}
use Rattle.hac_top.specs.declared.deciding.Decision.TheVariants.{Answer}

-- what indexes doesn't only read
indexing-changes : (command : Resolved) → is_indexing command ≡ true → is_reading command ≡ false
indexing-changes Index indexes = refl
indexing-changes (Tick steps) indexes = refl
indexing-changes other indexes = absurd cc

-- nor does a checkpoint
saving-changes : (command : Resolved) → is_checkpoint command ≡ true → is_reading command ≡ false
saving-changes Checkpoint saves = refl
saving-changes other saves = absurd cc

-- what reads is no checkpoint
reading-apart : (command : Resolved) → is_reading command ≡ true → is_checkpoint command ≡ false
reading-apart Checkpoint reading = absurd cc
reading-apart other reading = refl

-- a draft reads where its command does
pub reading-is : (s : State) (command : Resolved) (draft : DraftSeen) → IsDraftFor s command draft → is_reading command ≡ reads draft
reading-is s command draft for = of draft.known for.known.known
  where
    by : (command : Resolved) (event : Event) → event_of no_answers s command ≡ Some event → is_reading command ≡ false
    by (Cat entry) event is = absurd cc
    by (Ls dir) event is = absurd cc
    by (Pwd dir) event is = absurd cc
    by (Readlink entry) event is = absurd cc
    by (Query dir) event is = absurd cc
    by (Sls dir) event is = absurd cc
    by (Find query) event is = absurd cc
    by Counts event is = absurd cc
    by other event is = refl

    of : (known : Known) → Knows s command known → is_reading command ≡ reads (record { known = known; asks = draft.asks })
    of (Reads shown) knows = knows.1
    of (Changes change) knows = by command change.event knows.0
    of (Indexes count) knows = indexing-changes command knows.0
    of Saves knows = saving-changes command knows

-- a command that changes the tree has no data lines
no-lines : (answers : Answers) (s : State) (command : Resolved) → is_reading command ≡ false → data_lines answers s command ≡ []
no-lines answers s (Cat entry) changes = absurd cc
no-lines answers s (Ls dir) changes = absurd cc
no-lines answers s (Pwd dir) changes = absurd cc
no-lines answers s (Readlink entry) changes = absurd cc
no-lines answers s (Query dir) changes = absurd cc
no-lines answers s (Sls dir) changes = absurd cc
no-lines answers s (Find query) changes = absurd cc
no-lines answers s Counts changes = absurd cc
no-lines answers s other changes = refl

-- a command that reads makes no event
reads-nothing : (answers : Answers) (s : State) (command : Resolved) → is_reading command ≡ true → events_of answers s command ≡ []
reads-nothing answers s (Cat entry) reading = refl
reads-nothing answers s (Ls dir) reading = refl
reads-nothing answers s (Pwd dir) reading = refl
reads-nothing answers s (Readlink entry) reading = refl
reads-nothing answers s (Query dir) reading = refl
reads-nothing answers s (Sls dir) reading = refl
reads-nothing answers s (Find query) reading = refl
reads-nothing answers s Counts reading = refl
reads-nothing answers s other reading = absurd cc

-- The first cause of a turn.

-- what is refused early is refused
first-early : (early absent late full : Option Refusal) (refusal : Refusal) → early ≡ Some refusal → first_cause (early ∷ absent ∷ late ∷ full ∷ []) ≡ Some refusal
first-early (Some other) absent late full refusal is = is
first-early None absent late full refusal is = absurd cc

-- then what asks a space that isn't attached
first-absent : (early absent late full : Option Refusal) (refusal : Refusal) → early ≡ None → absent ≡ Some refusal → first_cause (early ∷ absent ∷ late ∷ full ∷ []) ≡ Some refusal
first-absent None (Some other) late full refusal free is = is
first-absent None None late full refusal free is = absurd cc
first-absent (Some other) absent late full refusal free is = absurd cc

-- where all that are asked are attached, a command is refused as the state and the answers say
first-late : (early absent late full : Option Refusal) (refusal : Refusal) → absent ≡ None → first_cause (early ∷ late ∷ []) ≡ Some refusal → first_cause (early ∷ absent ∷ late ∷ full ∷ []) ≡ Some refusal
first-late (Some other) absent late full refusal attached is = is
first-late None None (Some other) full refusal attached is = is
first-late None None None full refusal attached is = absurd cc
first-late None (Some other) late full refusal attached is = absurd cc

-- and where these say nothing, only as the store is full
first-full : (early absent late full : Option Refusal) → absent ≡ None → first_cause (early ∷ late ∷ []) ≡ None → first_cause (early ∷ absent ∷ late ∷ full ∷ []) ≡ first_cause (full ∷ [])
first-full None None None full attached free = refl
first-full None None (Some other) full attached free = absurd cc
first-full None (Some other) late full attached free = absurd cc
first-full (Some other) absent late full attached free = absurd cc

-- the turn with these lines, in which all of these events happen, and those of them are stored that are
abbrev turn_by : Setting → List (List ℕ) → List Event → Turn
turn_by setting lines events = record {
  reply = Lines lines;
  events = filter is_stored events;
  steps = [];
  after = record setting { state = apply_all setting.state events; end = end_behind setting.state.version setting.end (filter is_stored events) };
}

-- the turn of a command that nothing else refuses, if the store has room for what it writes, given whether that is a new
-- area
abbrev carried_by : Setting → Resolved → Answers → Bool → Turn
carried_by setting command answers saves =
    if (if saves then is_some (next_place setting) else have_room setting (stored_events answers setting.state command))
    then record {
      reply = Lines (data_lines answers setting.state command);
      events = stored_events answers setting.state command;
      steps = [];
      after = if saves then option_map_or (checkpointed setting) (next_place setting) setting else happened answers setting command;
    }
    else refused_turn nothing_given setting (Limit Store)

abbrev carried_turn : Setting → Resolved → Answers → Turn
carried_turn setting command answers = carried_by setting command answers (is_checkpoint command)

-- the turn in which these events happen, if there is room for those that are stored
abbrev turn_from : Setting → List (List ℕ) → List Event → Turn
turn_from setting lines events =
    if have_room setting (filter is_stored events) then turn_by setting lines events else refused_turn nothing_given setting (Limit Store)

-- the turn by its first cause
abbrev turn_for : List Attached → Setting → Resolved → Answers → Option Refusal → Turn
turn_for spaces setting command answers why =
    option_map_or (refused_turn (given_spaces spaces) setting) why (answered_turn (given_spaces spaces) setting command answers)

-- what spaces answer to the questions of a command, all of which are attached
pub record AreAnswered (spaces : List Attached) (s : State) (command : Resolved) (answers : Answers) : Type 0 where
  pub is : answers ≡ answers_of spaces (asks s command)
  pub attached : first_absent spaces (asked_spaces (asks s command)) ≡ None

none-absent : (spaces : List Attached) (s : State) (command : Resolved) (answers : Answers) → AreAnswered spaces s command answers → absent_cause (given_spaces spaces) s command ≡ None
none-absent spaces s command answers told = ap (option_map NoSpace) told.attached

-- the turn of a command whose questions are answered
told-turn : (spaces : List Attached) (setting : Setting) (command : Resolved) (answers : Answers) → AreAnswered spaces setting.state command answers →
    command_turn (given_spaces spaces) setting (Ok command) ≡ turn_for spaces setting command answers (turn_cause (given_spaces spaces) setting command answers)
told-turn spaces setting command answers told =
    ap (λ (a : Answers). turn_for spaces setting command a (turn_cause (given_spaces spaces) setting command a)) (sym told.is)

-- which nothing refuses
free-turn : (spaces : List Attached) (setting : Setting) (command : Resolved) (answers : Answers) → AreAnswered spaces setting.state command answers → cause answers setting.state command ≡ None →
    command_turn (given_spaces spaces) setting (Ok command) ≡ carried_turn setting command answers
free-turn spaces setting command answers told free =
    let early = early_cause setting.state command in
    let late = late_cause answers setting.state command in
    let full = full_cause answers setting command in
    told-turn spaces setting command answers told
    ∙ ap (turn_for spaces setting command answers) (first-full early (absent_cause (given_spaces spaces) setting.state command) late full (none-absent spaces setting.state command answers told) free)
    ∙ by (fits_store answers setting command)
  where
    by : (room : Bool) → turn_for spaces setting command answers (first_cause ((if room then None else Some (Limit Store)) ∷ []))
        ≡ (if room then answered_turn nothing_given setting command answers else refused_turn nothing_given setting (Limit Store))
    by true = refl
    by false = refl

-- the events of one that is no checkpoint happen
plain-turn : (setting : Setting) (command : Resolved) (answers : Answers) → is_checkpoint command ≡ false →
    carried_turn setting command answers ≡ turn_from setting (data_lines answers setting.state command) (events_of answers setting.state command)
plain-turn setting command answers plain = ap (carried_by setting command answers) plain

-- and a checkpoint begins a new area
saving-turn : (setting : Setting) (command : Resolved) (answers : Answers) → is_checkpoint command ≡ true → carried_turn setting command answers ≡ saving_turn setting
saving-turn setting command answers saves =
    let s = setting.state in
    ap (carried_by setting command answers) saves
    ∙ (λ i. telling (no-lines answers s command (saving-changes command saves) i) (filter is_stored (saves-nothing answers s command saves i)))
    ∙ by (next_place setting)
  where
    telling : List (List ℕ) → List Event → Turn
    telling lines events =
        if is_some (next_place setting)
        then record {
          reply = Lines lines;
          events = events;
          steps = [];
          after = option_map_or (checkpointed setting) (next_place setting) setting;
        }
        else refused_turn nothing_given setting (Limit Store)

    by : (place : Option ℕ) →
        (if is_some place then record { reply = Lines []; events = []; steps = []; after = option_map_or (checkpointed setting) place setting } else refused_turn nothing_given setting (Limit Store))
        ≡ option_map_or (saved_turn setting) place (refused_turn nothing_given setting (Limit Store))
    by None = refl
    by (Some at) = refl

-- a command that reads is answered by its lines
pub shown-turn : (spaces : List Attached) (setting : Setting) (command : Resolved) (draft : DraftSeen) (answers : Answers) → AreAnswered spaces setting.state command answers → IsDraftFor setting.state command draft → reads draft ≡ true →
    (reply : Reply) → Shows setting.state answers command reply → command_turn (given_spaces spaces) setting (Ok command) ≡ turn_with setting reply []
shown-turn spaces setting command draft answers told for reads_it reply shows =
    let reading = reading-is setting.state command draft for ∙ reads_it in
    free-turn spaces setting command answers told shows.cause
    ∙ plain-turn setting command answers (reading-apart command reading)
    ∙ ap (turn_from setting (data_lines answers setting.state command)) (reads-nothing answers setting.state command reading)
    ∙ ap (λ (r : Reply). turn_with setting r []) (sym shows.lines)

-- the turn of what is refused
pub refused-turn : (spaces : List Attached) (setting : Setting) (command : Resolved) (answers : Answers) → AreAnswered spaces setting.state command answers → (refusal : Refusal) → cause answers setting.state command ≡ Some refusal →
    command_turn (given_spaces spaces) setting (Ok command) ≡ refused_turn nothing_given setting refusal
refused-turn spaces setting command answers told refusal is =
    told-turn spaces setting command answers told
    ∙ ap (turn_for spaces setting command answers)
    (first-late (early_cause setting.state command) (absent_cause (given_spaces spaces) setting.state command) (late_cause answers setting.state command) (full_cause answers setting command) refusal
    (none-absent spaces setting.state command answers told) is)

-- the turn of a command that is refused early, or by its paths
pub early-turn : (spaces : List Attached) (setting : Setting) (wanted : Result Resolved Refusal) (refusal : Refusal) → cause_against (early_cause setting.state) wanted ≡ Some refusal →
    command_turn (given_spaces spaces) setting wanted ≡ refused_turn nothing_given setting refusal
early-turn spaces setting (Err other) refusal is = let same : other ≡ refusal = cc in ap (refused_turn nothing_given setting) same
early-turn spaces setting (Ok command) refusal is =
    let answers = space_answers (given_spaces spaces) setting.state command in
    ap (turn_for spaces setting command answers)
    (first-early (early_cause setting.state command) (absent_cause (given_spaces spaces) setting.state command) (late_cause answers setting.state command) (full_cause answers setting command) refusal is)

-- the turn of a command that asks a space which isn't attached
pub absent-turn : (spaces : List Attached) (setting : Setting) (command : Resolved) (space : List ℕ) → early_cause setting.state command ≡ None → first_absent spaces (asked_spaces (asks setting.state command)) ≡ Some space →
    command_turn (given_spaces spaces) setting (Ok command) ≡ refused_turn nothing_given setting (NoSpace space)
absent-turn spaces setting command space free absent =
    let answers = space_answers (given_spaces spaces) setting.state command in
    ap (turn_for spaces setting command answers)
    (first-absent (early_cause setting.state command) (absent_cause (given_spaces spaces) setting.state command) (late_cause answers setting.state command) (full_cause answers setting command) (NoSpace space) free
    (ap (option_map NoSpace) absent))

-- Drafts of a state, at a setting that has it.

pub answered-at : (spaces : List Attached) (setting : Setting) (s : State) (command : Resolved) (draft : DraftSeen) (answers : Answers) → setting.state ≡ s → IsDraftFor s command draft → answers ≡ answers_of spaces draft.asks →
    first_absent spaces (asked_spaces draft.asks) ≡ None → AreAnswered spaces setting.state command answers
answered-at spaces setting s command draft answers same for is attached =
    let asks_are : draft.asks ≡ asks setting.state command = for.asks ∙ ap (λ (t : State). asks t command) (sym same) in
    record {
      is = is ∙ ap (answers_of spaces) asks_are;
      attached = ap (λ (a : Asks). first_absent spaces (asked_spaces a)) (sym asks_are) ∙ attached;
    }

-- it asks a space that isn't attached
pub absent-draft : (spaces : List Attached) (setting : Setting) (s : State) (command : Resolved) (draft : DraftSeen) (space : List ℕ) → setting.state ≡ s → IsDraftFor s command draft → first_absent spaces (asked_spaces draft.asks) ≡ Some space →
    command_turn (given_spaces spaces) setting (Ok command) ≡ refused_turn nothing_given setting (NoSpace space)
absent-draft spaces setting s command draft space same for absent =
    let asks_are : draft.asks ≡ asks setting.state command = for.asks ∙ ap (λ (t : State). asks t command) (sym same) in
    absent-turn spaces setting command space (ap (λ (t : State). early_cause t command) same ∙ for.known.cause) (ap (λ (a : Asks). first_absent spaces (asked_spaces a)) (sym asks_are) ∙ absent)

-- it only reads
pub shown-draft : (spaces : List Attached) (setting : Setting) (s : State) (command : Resolved) (draft : DraftSeen) (answers : Answers) → setting.state ≡ s → IsDraftFor s command draft → answers ≡ answers_of spaces draft.asks →
    first_absent spaces (asked_spaces draft.asks) ≡ None → reads draft ≡ true → (reply : Reply) → Shows s answers command reply → command_turn (given_spaces spaces) setting (Ok command) ≡ turn_with setting reply []
shown-draft spaces setting s command draft answers same for is attached reads_it reply shows =
    shown-turn spaces setting command draft answers (answered-at spaces setting s command draft answers same for is attached) (subst (λ (t : State). IsDraftFor t command draft) (sym same) for) reads_it reply
    (subst (λ (t : State). Shows t answers command reply) (sym same) shows)

-- it is refused, given the answers
pub refused-draft : (spaces : List Attached) (setting : Setting) (s : State) (command : Resolved) (draft : DraftSeen) (answers : Answers) → setting.state ≡ s → IsDraftFor s command draft → answers ≡ answers_of spaces draft.asks →
    first_absent spaces (asked_spaces draft.asks) ≡ None → (why : Deny) (refusal : Refusal) → Refuses why (cause answers s command) → why ≡ deny.Refused refusal →
    command_turn (given_spaces spaces) setting (Ok command) ≡ refused_turn nothing_given setting refusal
refused-draft spaces setting s command draft answers same for is attached why refusal refuses why_is =
    refused-turn spaces setting command answers (answered-at spaces setting s command draft answers same for is attached) refusal
    (ap (λ (t : State). cause answers t command) same ∙ subst (λ (d : Deny). Refuses d (cause answers s command)) why_is refuses)

-- what is denied is decided
pub decides-denied : (why : Deny) (result : Result Decision Memory) (s : State) (turn : Setting → Turn) → IsDenial why result →
    ((refusal : Refusal) → why ≡ deny.Refused refusal → (setting : Setting) → setting.state ≡ s → turn setting ≡ refused_turn nothing_given setting refusal) → IfOk result (Decides s turn)
decides-denied (deny.Refused refusal) result s turn denies refuses =
    subst (λ (r : Result Decision Memory). IfOk r (Decides s turn)) (sym denies) (record { happen = tt; leads = refuses refusal refl })
decides-denied deny.Memory (Ok decision) s turn denies refuses = absurd cc
decides-denied deny.Memory (Err memory) s turn denies refuses = tt

-- nothing has to happen for it
pub denied-happens : (why : Deny) (result : Result Decision Memory) (s : State) → IsDenial why result → IfOk result (CanHappen s)
denied-happens (deny.Refused refusal) result s denies = subst (λ (r : Result Decision Memory). IfOk r (CanHappen s)) (sym denies) tt
denied-happens deny.Memory (Ok decision) s denies = absurd cc
denied-happens deny.Memory (Err memory) s denies = tt

-- turns that are the same are decided alike
pub decides-alike : (s : State) (turn other : Setting → Turn) (result : Result Decision Memory) → ((setting : Setting) → setting.state ≡ s → turn setting ≡ other setting) → IfOk result (Decides s turn) → IfOk result (Decides s other)
decides-alike s turn other (Ok decision) same decides = record { happen = decides.happen; leads = λ setting is. sym (same setting is) ∙ decides.leads setting is }
decides-alike s turn other (Err memory) same decides = tt

-- where all events are stored
all-kept : (setting : Setting) (events : List Event) → filter is_stored events ≡ events → turn_from setting [] events ≡ storing_turn setting events
all-kept setting events same =
    ap (λ (es : List Event).
    if have_room setting es
    then record { reply = Lines []; events = es; steps = []; after = record setting { state = apply_all setting.state events; end = end_behind setting.state.version setting.end es } }
    else refused_turn nothing_given setting (Limit Store)) same

pub steps-kept : (count : ℕ) → filter is_stored (replicate count Step) ≡ replicate count Step
steps-kept zero = refl
steps-kept (suc count) = ap (λ (events : List Event). Step ∷ events) (steps-kept count)

-- one event, given whether it is stored
one-event : (setting : Setting) (event : Event) (b : Bool) → is_stored event ≡ b → turn_from setting [] (event ∷ []) ≡ (if b then storing_turn setting (event ∷ []) else standing_turn setting event)
one-event setting event true is = all-kept setting (event ∷ []) (ap (λ (b : Bool). if b then event ∷ [] else []) is)
one-event setting event false is =
    ap (λ (es : List Event).
    if have_room setting es
    then record { reply = Lines []; events = es; steps = []; after = record setting { state = apply setting.state event; end = end_behind setting.state.version setting.end es } }
    else refused_turn nothing_given setting (Limit Store)) (ap (λ (b : Bool). if b then event ∷ [] else []) is)

-- the turn of an outcome, by its events
outcome-turn : (setting : Setting) (s : State) (outcome : Settled) → CanSettle s outcome → is_area outcome ≡ false → turn_from setting [] (settled_events outcome) ≡ settled_turn setting outcome
outcome-turn setting s (settled.Change change) can plain = one-event setting change.event true can.2
outcome-turn setting s (settled.Steps count) can plain = all-kept setting (replicate count Step) (steps-kept count)
outcome-turn setting s (settled.Session event) can plain = one-event setting event false can.1
outcome-turn setting s settled.Checkpoint can plain = absurd cc

-- a new area is the outcome of a checkpoint
area-turn : (setting : Setting) (outcome : Settled) → is_area outcome ≡ true → saving_turn setting ≡ settled_turn setting outcome
area-turn setting settled.Checkpoint area = refl
area-turn setting other area = absurd cc

-- a command that changes the tree, or the store alone, does so if there is room for what it writes
pub storing-turn-is : (spaces : List Attached) (setting : Setting) (command : Resolved) (draft : DraftSeen) (answers : Answers) → AreAnswered spaces setting.state command answers → IsDraftFor setting.state command draft → reads draft ≡ false →
    (outcome : Settled) → Settles setting.state answers command outcome → command_turn (given_spaces spaces) setting (Ok command) ≡ settled_turn setting outcome
storing-turn-is spaces setting command draft answers told for changes outcome settles =
    free-turn spaces setting command answers told settles.cause ∙ by (is_area outcome) refl
  where
    by : (area : Bool) → is_area outcome ≡ area → carried_turn setting command answers ≡ settled_turn setting outcome
    by true area = saving-turn setting command answers (sym settles.area ∙ area) ∙ area-turn setting outcome area
    by false plain =
        plain-turn setting command answers (sym settles.area ∙ plain)
        ∙ ap (λ (lines : List (List ℕ)). turn_from setting lines (events_of answers setting.state command)) (no-lines answers setting.state command (reading-is setting.state command draft for ∙ changes))
        ∙ ap (turn_from setting []) (sym settles.events)
        ∙ outcome-turn setting setting.state outcome settles.can plain

-- it changes the tree
pub settled-draft : (spaces : List Attached) (setting : Setting) (s : State) (command : Resolved) (draft : DraftSeen) (answers : Answers) → setting.state ≡ s → IsDraftFor s command draft → answers ≡ answers_of spaces draft.asks →
    first_absent spaces (asked_spaces draft.asks) ≡ None → reads draft ≡ false → (outcome : Settled) → Settles s answers command outcome → command_turn (given_spaces spaces) setting (Ok command) ≡ settled_turn setting outcome
settled-draft spaces setting s command draft answers same for is attached changes outcome settles =
    storing-turn-is spaces setting command draft answers (answered-at spaces setting s command draft answers same for is attached) (subst (λ (t : State). IsDraftFor t command draft) (sym same) for) changes outcome
    (subst (λ (t : State). Settles t answers command outcome) (sym same) settles)

-- Replies to commands that read.

pub reply-happens : (reply : Result Reply Deny) (result : Result Decision Memory) (s : State) → IfOk reply (λ reply. result ≡ Ok (Answer reply)) → IfErr reply (λ deny. IsDenial deny result) → IfOk result (CanHappen s)
reply-happens (Ok reply) result s ok err = subst (λ (r : Result Decision Memory). IfOk r (CanHappen s)) (sym ok) tt
reply-happens (Err why) result s ok err = denied-happens why result s err

pub reply-decides : (reply : Result Reply Deny) (result : Result Decision Memory) (s : State) (turn : Setting → Turn) → IfOk reply (λ reply. result ≡ Ok (Answer reply)) → IfErr reply (λ deny. IsDenial deny result) →
    IfOk reply (λ reply. (setting : Setting) → setting.state ≡ s → turn setting ≡ turn_with setting reply []) →
    IfErr reply (λ why. (refusal : Refusal) → why ≡ deny.Refused refusal → (setting : Setting) → setting.state ≡ s → turn setting ≡ refused_turn nothing_given setting refusal) → IfOk result (Decides s turn)
reply-decides (Ok reply) result s turn ok err shows refuses = subst (λ (r : Result Decision Memory). IfOk r (Decides s turn)) (sym ok) (record { happen = tt; leads = shows })
reply-decides (Err why) result s turn ok err shows refuses = decides-denied why result s turn err refuses

-- the reply to a draft that only reads
pub read-decides : (spaces : List Attached) (s : State) (command : Resolved) (draft : DraftSeen) (answers : Answers) (reply : Result Reply Deny) (result : Result Decision Memory) → IsDraftFor s command draft → answers ≡ answers_of spaces draft.asks →
    first_absent spaces (asked_spaces draft.asks) ≡ None → reads draft ≡ true → IfOk reply (Shows s answers command) → IfErr reply (λ why. Refuses why (cause answers s command)) →
    IfOk reply (λ reply. result ≡ Ok (Answer reply)) → IfErr reply (λ deny. IsDenial deny result) → IfOk result (Decides s (λ setting. command_turn (given_spaces spaces) setting (Ok command)))
read-decides spaces s command draft answers (Ok reply) result for is attached reads_it shows refuses ok err =
    reply-decides (Ok reply) result s (λ setting. command_turn (given_spaces spaces) setting (Ok command)) ok err (λ setting same. shown-draft spaces setting s command draft answers same for is attached reads_it reply shows) tt
read-decides spaces s command draft answers (Err why) result for is attached reads_it shows refuses ok err =
    reply-decides (Err why) result s (λ setting. command_turn (given_spaces spaces) setting (Ok command)) ok err tt (λ refusal why_is setting same. refused-draft spaces setting s command draft answers same for is attached why refusal refuses why_is)
