use Rattle.std.proofs.Common.{◌++◌, ◌+◌, ℕ, List, map, ap, ◌∙◌}
use Rattle.std.specs.Prelude.{reverse}
use Rattle.hac_model.specs.Tree.{ancestors}
use Rattle.hac_model.specs.declared.limits.TheConstants.{PATH_LIMIT}
use Rattle.hac_model.specs.declared.states.Entry.{Entry}
use Rattle.file_tree.proofs.StepLemmas.{path-steps}
use Rattle.file_tree.proofs.tree.Tree.path_of.Goals as goal

pub returns : goal.returns
returns c =
    c.in_ok-push_names.ensures
    ∙ ap (λ (path : List (List ℕ)). path ++ reverse (map (λ (e : Entry). e.name) (ancestors (PATH_LIMIT + 1) c.args.self.now.state.entries c.args.entry))) c.root-path.ensures
    ∙ path-steps c.args.self.now.state c.args.entry
