use Rattle.std.proofs.Common.{ap, sym, subst, ◌∙◌}
use Rattle.std.specs.Prelude.{Option}
use Rattle.hac_model.specs.Run.Answers.{Passes}
use Rattle.hac_model.specs.Tree.Bare.{bare}
use Rattle.hac_model.specs.declared.replies.Refusal.{Refusal}
use Rattle.kept_state.specs.Seen.{Seen}
use Rattle.hac_core.proofs.BlockingLemmas.{same-tree}
use Rattle.hac_core.proofs.StandsLemmas.{stands-kept}
use Rattle.hac_core.proofs.blocking.fits_tree.Goals as goal

pub fits_tree_alone-requires : goal.fits_tree_alone-requires
fits_tree_alone-requires c =
    let bares = ap (λ (seen : Seen). bare seen.state) (sym c.kept.ensures) ∙ c.tree.ensures.tree.bares in
    stands-kept c.args.linked.now.state c.tree.result.now.state bares c.args.command.now c.requires

pub returns : goal.returns
returns c =
    let bares = ap (λ (seen : Seen). bare seen.state) (sym c.kept.ensures) ∙ c.tree.ensures.tree.bares in
    subst (λ (cause : Option Refusal). Passes c.fits_tree_alone.result cause) (sym (same-tree c.args.linked.now.state c.tree.result.now.state bares c.args.command.now)) c.fits_tree_alone.ensures
