use Rattle.std.proofs.Common.{◌∷◌, ◌++◌, ℕ, List, Some, ap, refl, ◌∙◌}
use Rattle.hac_model.specs.Tree.Depends.{named_in}
use Rattle.kept_state.specs.Parts.{edges_then}
use Rattle.kept_state.proofs.LenderLemmas.{then-edges, will-made-if}
use Rattle.kept_state.proofs.parts.Parts.prepare_edges.Goals as goal

pub returns-clause-edges : goal.returns-clause-edges
returns-clause-edges c =
    let kept = c.args.self.now in
    will-made-if c.prepare_edges.new.self c.args.dir (edges_then kept c.args.dir c.args.parent (Some c.args.query.now)) _ c.prepare_edges.result c.prepare_edges.ensures.prepared refl
    (c.in_ok-edges.ensures ∙ ap (λ (numbers : List ℕ). c.args.parent ∷ named_in c.args.query.now ++ numbers) c.lenders.ensures ∙ then-edges kept c.requires c.args.dir c.args.parent c.args.query.now)
    c.prepare_edges.ensures.ok
