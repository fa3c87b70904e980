use Rattle.std.proofs.Common.{◌≡◌, ℕ, List, IfOk, ap, map, subst, ◌∙◌}
use Rattle.hac_model.specs.Run.Refusals.{least_path}
use Rattle.hac_model.specs.Tree.{path_of}
use Rattle.tree_answers.proofs.ReferringLemmas.{paths-told}
use Rattle.tree_answers.proofs.referring.least_referrer.Goals as goal

pub returns : goal.returns
returns c =
    let s = c.args.kept.now.state in
    subst (λ (paths : List (List (List ℕ))). IfOk c.least_path.result (λ least. least ≡ least_path paths))
    (ap (map (path_of s)) c.as_slice.ensures.value
    ∙ paths-told s c.graph.ensures.valid c.graph.result.now c.graph.ensures.edges c.args.dir c.requires c.in_ok-referrers.referrers.items c.in_ok-referrers.ensures.all c.sort_unstable.new.self.items c.in_ok-referrers.ensures.once c.sort_unstable.ensures.permutation c.sort_unstable.ensures.sorted)
    c.least_path.ensures
