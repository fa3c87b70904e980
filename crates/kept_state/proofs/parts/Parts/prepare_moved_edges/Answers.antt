use Rattle.std.proofs.Common.{◌≡◌, ◌∷◌, ◌++◌, ℕ, List, Some, ap, refl, sym, ◌∙◌}
use Rattle.std.specs.Prelude.{Option}
use Rattle.std.specs.Option.{option_copied}
use Rattle.hac_model.specs.Query.Formula.{Formula}
use Rattle.hac_model.specs.Tree.Depends.{named_in}
use Rattle.hac_model.specs.Tree.Links.{query_at}
use Rattle.kept_state.specs.Parts.{edges_then}
use Rattle.kept_state.proofs.LenderLemmas.{no-edges, then-edges, will-made}
use Rattle.kept_state.proofs.parts.Parts.prepare_moved_edges.Goals as goal

pub returns-in_default-clause-edges : goal.returns-in_default-clause-edges
returns-in_default-clause-edges c =
    let kept = c.args.self.now in
    no-edges kept c.requires c.args.entry (λ o. edges_then kept c.args.entry c.args.dir o) refl (sym c.query.ensures ∙ ap (λ o. option_copied o) c.in_default.is)

pub returns-clause-edges : goal.returns-clause-edges
returns-clause-edges c =
    let kept = c.args.self.now in
    let asked : Some c.in-Some.query.now ≡ query_at kept.tree.state c.args.entry = c.in-Some.ensures in
    will-made c.prepare_edges.new.self c.args.entry (edges_then kept c.args.entry c.args.dir (query_at kept.tree.state c.args.entry)) c.in_ok-prepare_edges.field-0 _ c.in_ok-prepare_edges.ensures.prepared refl
    (c.in_ok-edges.ensures ∙ ap (λ (numbers : List ℕ). c.args.dir ∷ named_in c.in-Some.query.now ++ numbers) c.lenders.ensures ∙ then-edges kept c.requires c.args.entry c.args.dir c.in-Some.query.now
    ∙ ap (λ (o : Option (Formula ℕ)). edges_then kept c.args.entry c.args.dir o) asked)
    c.in_ok-prepare_edges.ensures.ok
