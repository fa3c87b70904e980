use Rattle.std.proofs.Common.{ap, sym, ◌∙◌}
use Rattle.hac_model.specs.Tree.Bare.{bare}
use Rattle.hac_model.specs.Tree.Links.{permanent_at}
use Rattle.kept_state.specs.Seen.{Seen}
use Rattle.tree_answers.proofs.FindingLemmas.{provided-kept}
use Rattle.tree_answers.proofs.finding.is_provided.Goals as goal

pub returns : goal.returns
returns c =
    let s = c.args.linked.now.state in
    c.provides.ensures s (record {
      bares = ap (λ (seen : Seen). bare seen.state) (sym c.kept-kept.ensures) ∙ c.tree.ensures.tree.bares;
      permanent = λ dir is. ap (λ (seen : Seen). permanent_at seen.state dir) (sym c.kept-kept.ensures) ∙ sym (c.marks.ensures.marks.permanent dir);
    })
    ∙ provided-kept s c.links.result.now c.links.ensures c.args.dir c.args.item
