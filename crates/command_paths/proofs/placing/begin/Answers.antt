use Rattle.std.proofs.Common.{◌≡◌, ℕ, true, subst, sym}
use Rattle.hac_model.specs.Tree.{is_directory_at}
use Rattle.command_paths.proofs.TraceLemmas.{up-leads}
use Rattle.command_paths.proofs.placing.begin.Goals as goal

pub returns-else-word-clause-directory : goal.returns-else-word-clause-directory
returns-else-word-clause-directory c =
    let s = c.args.tree.now.state in
    subst (λ (n : ℕ). is_directory_at s.entries n ≡ true) (sym c.up.ensures) (up-leads s c.args.word.now.ups c.args.dir c.know_layout.ensures.layout c.requires.dir).directory
