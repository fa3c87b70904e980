-- How a tree gets ready, and changes.
use Rattle.std.specs.Prelude.{◌≡◌}
use Rattle.hac_model.specs.Tree.Limits.{counts}
use Rattle.hac_model.specs.Tree.Valid.{IsLayout}
use Rattle.hac_model.specs.declared.counts.Counts.{Counts}
use Rattle.hac_model.specs.declared.states.State.{State}
use Rattle.file_tree.specs.Seen.{Seen}
use Rattle.file_tree.specs.declared.ready.Ready.{Ready}
use Rattle.file_tree.specs.declared.ready.Ready.TheVariants.{Nothing}

-- the entries of the next state fit one another, and this is how much it holds
pub record MayBecome (after : State) (counted : Counts) : Type 0 where
  pub layout : IsLayout after
  pub counts_are : counted ≡ counts after

-- the tree has become this state, and is ready for nothing
abbrev pub HasBecome : State → Seen → Type 0
HasBecome after tree = tree ≡ record { state = after; ready = Nothing }

-- the state is as before, and the tree is ready for this
abbrev pub GotReady : Ready → Seen → Seen → Type 0
GotReady ready old new = new ≡ record { state = old.state; ready = ready }
