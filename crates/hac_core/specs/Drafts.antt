-- Commands that a state doesn't refuse so far, what they ask spaces, and what they lead to.
use Rattle.std.specs.Prelude.{◌≡◌, ⊤, ℕ, Bool, true, false, if◌then◌else◌, List, [], ◌∷◌, replicate, IsTrue, Option, None, Some, Ok}
use Rattle.std.specs.Option.{option_map}
use Rattle.hac_model.specs.Laws.{AllHappen}
use Rattle.hac_model.specs.Run.Answers.{first_cause}
use Rattle.hac_model.specs.Run.Checkpoints.{is_checkpoint}
use Rattle.hac_model.specs.Run.Given.{no_answers}
use Rattle.hac_model.specs.Run.Asks.{asks, told_for}
use Rattle.hac_model.specs.Run.Refusals.{cause, cycle_against, early_cause, event_of, events_of, mounting, syncing}
use Rattle.hac_model.specs.Run.Resolving.{resolve}
use Rattle.hac_model.specs.Run.Showing.{data_lines}
use Rattle.hac_model.specs.Run.Standing.{AllStand}
use Rattle.hac_model.specs.Tree.Events.{apply}
use Rattle.hac_model.specs.Tree.Limits.{counts, first_passed, layout_limits}
use Rattle.hac_model.specs.Tree.Sessions.{is_stored}
use Rattle.hac_model.specs.declared.commands.Line.{Line}
use Rattle.hac_model.specs.declared.events.Event.{Event}
use Rattle.hac_model.specs.declared.events.Event.TheVariants.{Setq, Smkdir, Smount, Ssync, Step}
use Rattle.hac_model.specs.declared.places.Place.{Place}
use Rattle.hac_model.specs.declared.places.Place.TheVariants.{There, Free}
use Rattle.hac_model.specs.declared.replies.Refusal.{Refusal}
use Rattle.hac_model.specs.declared.replies.Refusal.TheVariants.{Limit}
use Rattle.hac_model.specs.declared.replies.Reply.{Reply}
use Rattle.hac_model.specs.declared.replies.Reply.TheVariants.{Lines}
use Rattle.hac_model.specs.declared.resolved.Resolved.{Resolved}
use Rattle.hac_model.specs.declared.resolved.Resolved.TheVariants.{Cat, Ls, Pwd, Readlink, Query, Sls, Find, Counts, Index, Tick}
use Rattle.hac_model.specs.declared.spaces.Answers.{Answers}
use Rattle.hac_model.specs.declared.spaces.Asks.{Asks}
use Rattle.hac_model.specs.declared.states.State.{State}
use Rattle.hac_core.specs.declared.drafts.Change.{Change}
use Rattle.hac_core.specs.declared.drafts.Known.{Known}
use Rattle.hac_core.specs.declared.drafts.Known.TheVariants.{Reads, Changes, Indexes, Saves}
use Rattle.hac_core.specs.declared.drafts.Settled.{Settled}
use Rattle.hac_core.specs.declared.drafts.Settled.TheVariants as settled
use Rattle.hac_core.specs.declared.events.Made.{Made}
use Rattle.hac_core.specs.declared.events.Made.TheVariants as made

-- the place is vacant
abbrev pub IsFree : Place → Type 0
IsFree (There number) = ⊥
IsFree (Free dir name) = ⊤

-- the command only reads
abbrev pub is_reading : Resolved → Bool
is_reading (Cat entry) = true
is_reading (Ls dir) = true
is_reading (Pwd dir) = true
is_reading (Readlink entry) = true
is_reading (Query dir) = true
is_reading (Sls dir) = true
is_reading (Find query) = true
is_reading Counts = true
is_reading other = false

-- the command makes index steps
abbrev pub is_indexing : Resolved → Bool
is_indexing Index = true
is_indexing (Tick steps) = true
is_indexing other = false

-- it makes this many
abbrev pub MakesSteps : State → Resolved → ℕ → Type 0
MakesSteps s command count = (is_indexing command ≡ true) × (events_of no_answers s command ≡ replicate count Step)

-- the command makes this event, before any space has answered, or so many steps, or a new area, or it is this one and only
-- reads
abbrev pub Makes : State → Resolved → Made → Type 0
Makes s command (made.Event event) = event_of no_answers s command ≡ Some event
Makes s command (made.Steps count) = MakesSteps s command count
Makes s command made.Area = is_checkpoint command ≡ true
Makes s command (made.Nothing shown) = (shown ≡ command) × (is_reading command ≡ true)

-- the event, once spaces have answered
abbrev pub answering : State → Answers → Event → Event
answering s answers (Smkdir dir name asked told) = Smkdir dir name asked (told_for s asked answers.found)
answering s answers (Setq dir asked told) = Setq dir asked (told_for s asked answers.found)
answering s answers (Smount dir name space documents told) = mounting s space answers dir name
answering s answers (Ssync mount documents told) = syncing s mount answers
answering s answers other = other

-- the change is counted: its counts are those of the state after its event
abbrev pub IsCounted : State → Change → Type 0
IsCounted s change = change.counts ≡ counts (apply s change.event)

-- the event is counted
abbrev pub IsChange : State → Event → Known → Type 0
IsChange s event (Changes change) = (change.event ≡ event) × IsCounted s change
IsChange s event other = ⊥

-- what is known of the command
abbrev pub Knows : State → Resolved → Known → Type 0
Knows s command (Reads shown) = (shown ≡ command) × (is_reading command ≡ true)
Knows s command (Changes change) = (event_of no_answers s command ≡ Some change.event) × IsCounted s change
Knows s command (Indexes count) = MakesSteps s command count
Knows s command Saves = is_checkpoint command ≡ true

-- nothing refuses the command so far, whatever spaces answer, and this is known of it
pub record IsKnownOf (s : State) (command : Resolved) (fact : Known) : Type 0 where
  pub stands : AllStand s command
  pub cause : early_cause s command ≡ None
  pub known : Knows s command fact

-- a draft as it is seen: what is known of its command, and what it asks
pub record DraftSeen : Type 0 where
  pub known : Known
  pub asks : Asks

-- the same of a draft, which asks what its command asks
pub record IsDraftFor (s : State) (command : Resolved) (draft : DraftSeen) : Type 0 where
  pub known : IsKnownOf s command draft.known
  pub asks : draft.asks ≡ asks s command

-- the command that the line was resolved to
abbrev pub IsDraftOf : State → Line → DraftSeen → Type 0
IsDraftOf s line draft = (command : Resolved) × (resolve s line ≡ Ok command) × IsDraftFor s command draft

-- some command
abbrev pub IsDraft : State → DraftSeen → Type 0
IsDraft s draft = (command : Resolved) × IsDraftFor s command draft

abbrev pub reads : DraftSeen → Bool
reads draft = only_reads draft.known
  where
    only_reads : Known → Bool
    only_reads (Reads command) = true
    only_reads other = false

-- the first cause against an event that nothing blocks: a limit on the tree itself, then a cycle
abbrev pub change_cause : State → Event → Option Refusal
change_cause s event =
    first_cause (option_map Limit (first_passed (layout_limits s.version (counts (apply s event)))) ∷ cycle_against s event ∷ [])

-- the outcome of a change: an event that moves a session isn't stored
abbrev pub settled_change : Change → Settled
settled_change change = if is_stored change.event then settled.Change change else settled.Session change.event

-- the events of an outcome, one after the other
abbrev pub settled_events : Settled → List Event
settled_events (settled.Change change) = change.event ∷ []
settled_events (settled.Session event) = event ∷ []
settled_events (settled.Steps count) = replicate count Step
settled_events settled.Checkpoint = []

-- the outcome is a new area of the store
abbrev pub is_area : Settled → Bool
is_area settled.Checkpoint = true
is_area other = false

-- they can happen to the state; a change is counted, and is stored, as an event of a session is not
abbrev pub CanSettle : State → Settled → Type 0
CanSettle s (settled.Change change) = AllHappen s (change.event ∷ []) × IsCounted s change × IsTrue (is_stored change.event)
CanSettle s (settled.Session event) = AllHappen s (event ∷ []) × (is_stored event ≡ false)
CanSettle s (settled.Steps count) = AllHappen s (replicate count Step)
CanSettle s settled.Checkpoint = ⊤

-- nothing refuses the command, given what spaces answer, and this is its outcome
pub record Settles (s : State) (answers : Answers) (command : Resolved) (outcome : Settled) : Type 0 where
  pub cause : cause answers s command ≡ None
  pub area : is_area outcome ≡ is_checkpoint command
  pub events : settled_events outcome ≡ events_of answers s command
  pub can : CanSettle s outcome

-- nothing refuses the command, given what spaces answer, and this is its reply
pub record Shows (s : State) (answers : Answers) (command : Resolved) (reply : Reply) : Type 0 where
  pub cause : cause answers s command ≡ None
  pub lines : reply ≡ Lines (data_lines answers s command)
