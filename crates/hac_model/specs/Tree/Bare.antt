-- A state without what is kept beside its tree: marks, kept answers and sessions.
use Rattle.std.specs.Prelude.{[], map}
use Rattle.hac_model.specs.Tree.Events.{edited}
use Rattle.hac_model.specs.declared.states.Body.{Body}
use Rattle.hac_model.specs.declared.states.Body.TheVariants.{Semantic, Mount}
use Rattle.hac_model.specs.declared.states.State.{State}

-- a body without marks and kept answers
abbrev pub bare_body : Body → Body
bare_body (Semantic query permanent prohibited) = Semantic query [] []
bare_body (Mount space answers) = Mount space []
bare_body other = other

-- the tree alone
abbrev pub bare : State → State
bare s = record { version = s.version; next = s.next; entries = map (edited bare_body) s.entries; sessions = [] }
