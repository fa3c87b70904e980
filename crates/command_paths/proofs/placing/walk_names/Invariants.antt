use Rattle.std.proofs.Common.{◌≡◌, ℕ, List, true, length}
use Rattle.std.specs.Prelude.{Result}
use Rattle.hac_model.specs.Tree.{is_directory_at}
use Rattle.hac_model.specs.declared.paths.PathWord.{PathWord}
use Rattle.hac_model.specs.declared.places.Place.{Place}
use Rattle.hac_model.specs.declared.replies.Refusal.{Refusal}
use Rattle.command_paths.specs.Traces.{steps}
use Rattle.command_paths.specs.Walked.{names_of}
use Rattle.command_paths.proofs.placing.walk_names.Given as goal

-- the names that are left lead from a directory where all of them lead
abbrev pub invariant-loop-name : goal.invariant-loop-name
invariant-loop-name l =
    record {
      directory : is_directory_at l.tree.state.entries l.dir ≡ true;
      leads :
          (jump : ℕ → PathWord → List (List ℕ) → Result Place Refusal) →
          steps l.tree.state l.follow jump l.dir (names_of l.left) ≡ steps l.fn.tree.state l.fn.follow jump l.fn.base (names_of l.fn.left);
    }

abbrev pub decreases-loop-name : goal.decreases-loop-name
decreases-loop-name l = length l.left
