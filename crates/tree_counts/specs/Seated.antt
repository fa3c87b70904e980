-- What the counts after an event need of it.
use Rattle.std.specs.Prelude.{Bool, ◌&&◌}
use Rattle.hac_model.specs.Tree.Events.{is_free, is_made_holder, is_placed}
use Rattle.hac_model.specs.Tree.Mounting.{are_documents}
use Rattle.hac_model.specs.Tree.{is_mount_at}
use Rattle.hac_model.specs.declared.events.Event.{Event}
use Rattle.hac_model.specs.declared.events.Event.TheVariants.{Smkdir, Setq, Smount, Ssync}
use Rattle.hac_model.specs.declared.states.State.{State}

-- what the event refers to is in the tree, what spaces are asked or have told aside: the tree keeps no answers
abbrev pub is_seated : State → Event → Bool
is_seated s (Smkdir dir name query told) = is_free s dir name
is_seated s (Setq dir query told) = is_made_holder s dir
is_seated s (Smount dir name space documents told) = is_free s dir name && are_documents documents
is_seated s (Ssync mount documents told) = is_mount_at s.entries mount && are_documents documents
is_seated s other = is_placed s other
