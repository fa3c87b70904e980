-- What holds of stores by their definition alone.
use Rattle.std.specs.Prelude.{◌≡◌, ℕ, List, [], ◌∷◌, replicate, IsTrue}
use Rattle.hac_disk.specs.Images.{overlaid}
use Rattle.hac_journal.specs.Records.{log_of}
use Rattle.hac_model.specs.Tree.Events.{accepted}
use Rattle.hac_model.specs.Tree.Sessions.{is_stored}
use Rattle.hac_model.specs.Payload.Payloads.{event_text}
use Rattle.hac_model.specs.Run.Play.{Setting, after_events, have_room}
use Rattle.hac_model.specs.declared.events.Event.{Event}
use Rattle.hac_model.specs.declared.events.Event.TheVariants.{Step}
use Rattle.hac_store.specs.Stores.{IsHeldAs, fit_behind}

-- where a file holds a store, and the record of an event that can happen and is stored is put at its end, the file
-- holds what the event leads to
abbrev pub AppendsExtend : Type 0
AppendsExtend =
    (file : List ℕ) (setting : Setting) (event : Event) → IsHeldAs file setting → IsTrue (is_stored event) →
    IsTrue (accepted setting.state event) → IsTrue (have_room setting (event ∷ [])) →
    IsHeldAs (overlaid setting.end (log_of (event_text setting.state.version event ∷ [])) file)
    (after_events setting (event ∷ []))

-- for index steps there is room just where as many records of two bytes fit
abbrev pub StepsHaveRoom : Type 0
StepsHaveRoom =
    (setting : Setting) (count : ℕ) →
    have_room setting (replicate count Step) ≡ fit_behind setting.state.version setting.end count 2

-- no file holds a session: each run begins with all of them in the root
abbrev pub FilesHoldNoSession : Type 0
FilesHoldNoSession = (file : List ℕ) (setting : Setting) → IsHeldAs file setting → setting.state.sessions ≡ []
