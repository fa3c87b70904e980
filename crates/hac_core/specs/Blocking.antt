-- What blocks a command, by the part of the state that says so.
use Rattle.std.specs.Prelude.{[], ◌∷◌, Option, None}
use Rattle.hac_model.specs.Run.Answers.{first_cause}
use Rattle.hac_model.specs.Run.Refusals.{already_cause, blocking_cause, busy_cause, directory_cause, filled_cause, not_mount_cause, plain_cause, referenced_cause, root_cause, session_cause, unlinked_cause, unmarked_cause}
use Rattle.hac_model.specs.declared.replies.Refusal.{Refusal}
use Rattle.hac_model.specs.declared.resolved.Resolved.{Resolved}
use Rattle.hac_model.specs.declared.resolved.Resolved.TheVariants.{Rmdir, Cd, Sln, Srm, Sforget, Sumount}
use Rattle.hac_model.specs.declared.states.State.{State}

-- what the tree says of the command
abbrev pub tree_cause : State → Resolved → Option Refusal
tree_cause s (Rmdir dir) = first_cause (root_cause dir ∷ filled_cause s dir ∷ [])
tree_cause s (Cd session dir) = None
tree_cause s (Sumount mount) = not_mount_cause s mount
tree_cause s (Sln item dir) = plain_cause s dir
tree_cause s (Srm item dir) = first_cause (directory_cause s item ∷ plain_cause s dir ∷ [])
tree_cause s (Sforget item dir) = plain_cause s dir
tree_cause s other = blocking_cause s other

-- what links, marks, the queries of other directories and sessions say of it
abbrev pub link_cause : State → Resolved → Option Refusal
link_cause s (Rmdir dir) = first_cause (referenced_cause s dir ∷ busy_cause s dir ∷ [])
link_cause s (Cd session dir) = session_cause s session dir
link_cause s (Sumount mount) = first_cause (referenced_cause s mount ∷ busy_cause s mount ∷ [])
link_cause s (Sln item dir) = already_cause s item dir
link_cause s (Srm item dir) = unlinked_cause s item dir
link_cause s (Sforget item dir) = unmarked_cause s item dir
link_cause s other = None
