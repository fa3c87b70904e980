-- What is decided about a line before the store is touched.
use Rattle.std.specs.Prelude.{◌≡◌, ⊤, ℕ, if◌then◌else◌, List, [], ◌∷◌, replicate, IfOk, IsErr, IsTrue, Option, Result, Ok}
use Rattle.std.specs.Option.{IfSome, option_map_or}
use Rattle.hac_core.specs.Drafts.{CanSettle, DraftSeen, IsDraftFor}
use Rattle.hac_core.specs.declared.drafts.Settled.{Settled}
use Rattle.hac_core.specs.declared.drafts.Settled.TheVariants as settled
use Rattle.hac_model.specs.Run.Play.{MayFail, Setting, Turn, after_events, askable, checkpointed, command_turn, given_spaces, have_room, item_turn, next_place, nothing_given, refused_turn}
use Rattle.hac_model.specs.Script.Lines.{Item}
use Rattle.hac_model.specs.Spaces.Answering.{Attached}
use Rattle.hac_model.specs.Tree.Mounting.{is_among}
use Rattle.hac_model.specs.declared.resolved.Resolved.{Resolved}
use Rattle.sem_mounts.specs.Seen.{SpacesSeen}
use Rattle.sem_mounts.specs.declared.gathering.GatherFault.{GatherFault}
use Rattle.sem_mounts.specs.declared.gathering.GatherFault.TheVariants as gather
use Rattle.hac_model.specs.declared.events.Event.{Event}
use Rattle.hac_model.specs.declared.events.Event.TheVariants.{Step}
use Rattle.hac_model.specs.declared.limits.LimitWord.TheVariants.{Store}
use Rattle.hac_model.specs.declared.memory.Memory.{Memory}
use Rattle.hac_model.specs.declared.replies.Deny.{Deny}
use Rattle.hac_model.specs.declared.replies.Deny.TheVariants as deny
use Rattle.hac_model.specs.declared.replies.Refusal.TheVariants.{Limit, NoSpace, SpaceFault}
use Rattle.hac_model.specs.declared.replies.Reply.{Reply}
use Rattle.hac_model.specs.declared.replies.Reply.TheVariants.{Lines, Refused}
use Rattle.hac_model.specs.declared.states.State.{State}
use Rattle.hac_store.specs.Stores.{unstored_after}
use Rattle.hac_top.specs.Asking.{HaveAsked, given_by}
use Rattle.hac_top.specs.declared.deciding.Decision.{Decision}
use Rattle.hac_top.specs.declared.deciding.Decision.TheVariants.{Answer, Change}

-- a turn that gives this reply, stores these events, and has no index steps behind it
abbrev pub turn_with : Setting → Reply → List Event → Turn
turn_with setting reply events = record { reply = reply; events = events; steps = []; after = after_events setting events }

-- the turn that stores events, or is refused where the store has no room for them
abbrev pub storing_turn : Setting → List Event → Turn
storing_turn setting events = if have_room setting events then turn_with setting (Lines []) events else refused_turn nothing_given setting (Limit Store)

-- the turn that only moves a session: nothing of it is stored
abbrev pub standing_turn : Setting → Event → Turn
standing_turn setting event = record { reply = Lines []; events = []; steps = []; after = unstored_after setting event }

-- the turn that begins a new area at this place
abbrev pub saved_turn : Setting → ℕ → Turn
saved_turn setting at = record { reply = Lines []; events = []; steps = []; after = checkpointed setting at }

-- the turn that begins a new area with the whole state, or is refused where the store has no place for one
abbrev pub saving_turn : Setting → Turn
saving_turn setting = option_map_or (saved_turn setting) (next_place setting) (refused_turn nothing_given setting (Limit Store))

-- the turn of an outcome
abbrev pub settled_turn : Setting → Settled → Turn
settled_turn setting (settled.Session event) = standing_turn setting event
settled_turn setting (settled.Change change) = storing_turn setting (change.event ∷ [])
settled_turn setting (settled.Steps count) = storing_turn setting (replicate count Step)
settled_turn setting settled.Checkpoint = saving_turn setting

-- the turn that a decision leads to
abbrev pub decided_turn : Setting → Decision → Turn
decided_turn setting (Answer reply) = turn_with setting reply []
decided_turn setting (Change settled) = settled_turn setting settled

-- the events that are to happen can
abbrev pub CanHappen : State → Decision → Type 0
CanHappen s (Answer reply) = ⊤
CanHappen s (Change settled) = CanSettle s settled

-- the decision leads to the turn of any store with this state
pub record Decides (s : State) (turn : Setting → Turn) (decision : Decision) : Type 0 where
  pub happen : CanHappen s decision
  pub leads : (setting : Setting) → setting.state ≡ s → turn setting ≡ decided_turn setting decision

-- what is denied is refused, and there is no reply only if memory ran out
abbrev pub IsDenial : Deny → Result Decision Memory → Type 0
IsDenial (deny.Refused refusal) result = result ≡ Ok (Answer (Refused refusal))
IsDenial deny.Memory result = IsErr result

-- why a command is denied whose questions got no answers
abbrev pub denial : GatherFault → Deny
denial (gather.NoSpace space) = deny.Refused (NoSpace space)
denial (gather.SpaceFault space) = deny.Refused (SpaceFault space)
denial gather.Memory = deny.Memory

-- the turn of a command that met this fault, or none
abbrev pub met_turn : List Attached → Option (List ℕ) → Setting → Resolved → Turn
met_turn spaces fault setting command =
    option_map_or (λ space. refused_turn nothing_given setting (SpaceFault space)) fault (command_turn (given_spaces spaces) setting (Ok command))

-- A draft was decided on as the spaces answered to its questions, where their contents are told; and one of them may have
-- failed.
pub record DecidesDraft (old new : SpacesSeen) (s : State) (draft : DraftSeen) (result : Result Decision Memory) : Type 0 where
  pub fault : Option (List ℕ)
  pub asked : HaveAsked old new (fault ∷ [])
  pub happen : IfOk result (CanHappen s)
  pub told : (command : Resolved) → IsDraftFor s command draft → IfSome old.contents (λ contents.
      IfSome fault (λ space. IsTrue (is_among (askable (given_spaces contents.spaces) s (Ok command)) space))
      × IfOk result (Decides s (λ setting. met_turn contents.spaces fault setting command)))

-- the same of a line
pub record DecidesItem (old new : SpacesSeen) (s : State) (item : Item) (result : Result Decision Memory) : Type 0 where
  pub fault : Option (List ℕ)
  pub asked : HaveAsked old new (fault ∷ [])
  pub happen : IfOk result (CanHappen s)
  pub told : IfSome old.contents (λ contents.
      MayFail (given_by contents (fault ∷ []) 0) s item fault
      × IfOk result (Decides s (λ setting. item_turn (given_by contents (fault ∷ []) 0) setting item)))
