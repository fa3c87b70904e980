-- What a command asks spaces, by what has to be asked of mounts.
use Rattle.std.specs.Prelude.{List, map}
use Rattle.hac_model.specs.Run.Asks.{mount_asks, no_asks, query_asks, space_of}
use Rattle.hac_model.specs.declared.events.Event.{Event}
use Rattle.hac_model.specs.declared.events.Event.TheVariants.{Smkdir, Setq, Smount, Ssync}
use Rattle.hac_model.specs.declared.spaces.Asks.{Asks}
use Rattle.hac_model.specs.declared.spaces.Search.{Search}
use Rattle.hac_model.specs.declared.states.State.{State}
use Rattle.tree_answers.specs.declared.asking.Question.{Question}

-- questions to mounts, each to the space of its mount
abbrev pub searches_with : State → List Question → List Search
searches_with s questions = map (λ question. record { space = space_of s question.mount; term = question.term }) questions

-- what was asked for an event that a command makes
abbrev pub asks_for : State → Event → Asks
asks_for s (Smkdir dir name query told) = query_asks s query
asks_for s (Setq dir query told) = query_asks s query
asks_for s (Smount dir name space documents told) = mount_asks s space
asks_for s (Ssync mount documents told) = mount_asks s (space_of s mount)
asks_for s other = no_asks
