use Rattle.std.proofs.Common.{ℕ, ap, sym, ◌∙◌}
use Rattle.std.specs.Prelude.{◌==◌}
use Rattle.tree_answers.proofs.ReferringLemmas.{unreferenced-told}
use Rattle.tree_answers.proofs.referring.is_unreferenced.Goals as goal

pub returns : goal.returns
returns c = c.is_empty.ensures ∙ ap (λ (k : ℕ). k == 0) c.in_ok-referrers.referrers.ok.0 ∙ sym (unreferenced-told c.args.kept.now.state c.graph.ensures.valid c.graph.result.now c.graph.ensures.edges c.args.dir c.requires c.in_ok-referrers.referrers.items c.in_ok-referrers.ensures.all)
