-- Where sessions stand.
use Rattle.std.specs.Prelude.{ℕ, Bool, true, false, ◌==◌, not, nat_le, if◌then◌else◌, List, [], ◌∷◌, ◌++◌, filter, length, map, Option, Some, None}
use Rattle.std.specs.List.{list_any}
use Rattle.std.specs.Option.{option_map_or}
use Rattle.std.specs.Str.{bytes_eq}
use Rattle.hac_model.specs.Tree.Listing.{is_before}
use Rattle.hac_model.specs.Versions.{sessions_limit}
use Rattle.hac_model.specs.declared.events.Event.{Event}
use Rattle.hac_model.specs.declared.events.Event.TheVariants.{Cd}
use Rattle.hac_model.specs.declared.states.Session.{Session}
use Rattle.hac_model.specs.declared.states.State.{State}
use Rattle.hac_model.specs.declared.versions.Version.{Version}
use Rattle.hac_model.specs.declared.versions.Version.TheVariants.{Two}

-- the directory in which a session stands: the root, unless it was sent elsewhere
abbrev pub stands_in : List Session → List ℕ → ℕ
stands_in [] name = 0
stands_in (session ∷ sessions) name = if bytes_eq session.name name then session.dir else stands_in sessions name

-- the sessions without the one of a name
abbrev pub sessions_without : List ℕ → List Session → List Session
sessions_without name sessions = filter (λ session. not (bytes_eq session.name name)) sessions

-- a session that stands in a directory, as it is listed: in the root it isn't
abbrev pub session_in : List ℕ → ℕ → List Session
session_in name dir = if dir == 0 then [] else record { name = name; dir = dir } ∷ []

-- the sessions, once the one of a name stands in a directory
abbrev pub sessions_with : List ℕ → ℕ → List Session → List Session
sessions_with name dir sessions = sessions_without name sessions ++ session_in name dir

-- the sessions after an event
abbrev pub sessions_after : Event → List Session → List Session
sessions_after (Cd session dir) sessions = sessions_with session dir sessions
sessions_after other sessions = sessions

-- no more sessions stand elsewhere than in the root than may
abbrev pub are_few : Version → List Session → Bool
are_few version sessions = nat_le (length sessions) (sessions_limit version)

-- a session stands in the directory
abbrev pub is_busy : List Session → ℕ → Bool
is_busy sessions dir = list_any (λ session. session.dir == dir) sessions

-- the names of the sessions that stand in a directory
abbrev pub visitors : List Session → ℕ → List (List ℕ)
visitors sessions dir = map (λ session. session.name) (filter (λ session. session.dir == dir) sessions)

-- the lesser of two names, compared by bytes
abbrev pub lesser_name : List ℕ → List ℕ → List ℕ
lesser_name name other = if is_before other name then other else name

-- the least of names: of the first one and the least of the others the lesser
abbrev pub least_name : List (List ℕ) → Option (List ℕ)
least_name [] = None
least_name (name ∷ names) = Some (option_map_or (lesser_name name) (least_name names) name)

-- the state as a run begins with it: no session stands anywhere but in the root
abbrev pub sessionless : State → State
sessionless s = record s { sessions = [] }

-- what is stored of a state, whatever its version: each run begins with its sessions anew
abbrev pub stored : State → State
stored s = record s { version = Two; sessions = [] }

-- so an event that moves a session isn't stored either
abbrev pub is_stored : Event → Bool
is_stored (Cd session dir) = false
is_stored other = true
