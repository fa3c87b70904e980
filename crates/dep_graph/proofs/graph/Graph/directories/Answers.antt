use Rattle.std.proofs.Common.{◌≡◌, ℕ, ◌++◌, ◌∷◌, [], List, refl, subst, ap, sym, ◌∙◌}
use Rattle.hac_model.specs.Tree.Depends.{Among}
use Rattle.dep_graph.specs.Graphs.{Seen, edges_at}
use Rattle.dep_graph.specs.Searches.{EachOnce}
use Rattle.dep_graph.proofs.ReferLemmas.{chosen, chosen-ended, chosen-found, chosen-from, chosen-once, chosen-passed, chosen-to, each-node-once, leads, leads-some, numbers_of, some-leads}
use Rattle.dep_graph.proofs.graph.Graph.directories.Goals as goal

pub loop-number-preserved-in-Continue-1 : goal.loop-number-preserved-in-Continue-1
loop-number-preserved-in-Continue-1 c =
    chosen-found leads c.loop-number.numbers.items c.push.new.self.items (c.in-Some.number.now, c.in-Some.edges.now) c.loop-number.number-iterator c.next.new.self
    (chosen leads c.args.self.now.nodes) c.loop-number.invariant c.in-Some.ensures.steps
    (ap leads (sym c.as_slice.ensures.value) ∙ sym c.leads.ensures ∙ c.if-leads.true)
    (c.in_ok-push.ensures.items ∙ ap (λ (k : ℕ). c.loop-number.numbers.items ++ k ∷ []) c.new.ensures)

pub loop-number-preserved : goal.loop-number-preserved
loop-number-preserved c =
    chosen-passed leads c.loop-number.numbers.items (c.in-Some.number.now, c.in-Some.edges.now) c.loop-number.number-iterator c.next.new.self
    (chosen leads c.args.self.now.nodes) c.loop-number.invariant c.in-Some.ensures.steps
    (ap leads (sym c.as_slice.ensures.value) ∙ sym c.leads.ensures ∙ c.if-leads.false)

pub returns-clause-all : goal.returns-clause-all
returns-clause-all c q =
    let nodes = c.args.self.now.nodes in
    let once : EachOnce (numbers_of c.args.self.now.nodes) = subst (λ (g : Seen). EachOnce (numbers_of g.nodes)) c.self.view_is (each-node-once c.self.inside.nodes.entries c.iter-number-items.ensures.unique) in
    let all : c.loop-number.numbers.items ≡ chosen leads nodes = chosen-ended leads c.loop-number.numbers.items c.loop-number.number-iterator (chosen leads nodes) c.loop-number.invariant c.in-None.ensures.steps.0 in (
      λ there. leads-some (edges_at nodes q) (chosen-to leads nodes q once (subst (λ (ns : List ℕ). Among ns q) all there)),
      λ some. subst (λ (ns : List ℕ). Among ns q) (sym all) (chosen-from leads refl nodes q (some-leads (edges_at nodes q) some)),
    )

pub returns-clause-once : goal.returns-clause-once
returns-clause-once c =
    let nodes = c.args.self.now.nodes in
    let once : EachOnce (numbers_of c.args.self.now.nodes) = subst (λ (g : Seen). EachOnce (numbers_of g.nodes)) c.self.view_is (each-node-once c.self.inside.nodes.entries c.iter-number-items.ensures.unique) in
    let all : c.loop-number.numbers.items ≡ chosen leads nodes = chosen-ended leads c.loop-number.numbers.items c.loop-number.number-iterator (chosen leads nodes) c.loop-number.invariant c.in-None.ensures.steps.0 in
    subst EachOnce (sym all) (chosen-once leads nodes once)
