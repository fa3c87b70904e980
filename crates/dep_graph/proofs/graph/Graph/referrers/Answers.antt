use Rattle.std.proofs.Common.{◌≡◌, ℕ, ◌++◌, ◌∷◌, [], List, drop, refl, subst, ap, sym, ◌∙◌}
use Rattle.hac_model.specs.Tree.Depends.{Among}
use Rattle.dep_graph.specs.Graphs.{Seen, edges_at}
use Rattle.dep_graph.specs.Searches.{EachOnce}
use Rattle.dep_graph.proofs.ReferLemmas.{among-any, any-among, chosen, chosen-ended, chosen-found, chosen-from, chosen-once, chosen-passed, chosen-to, each-node-once, names, numbers_of}
use Rattle.dep_graph.proofs.graph.Graph.referrers.Goals as goal

pub loop-number-preserved-in-Continue-1 : goal.loop-number-preserved-in-Continue-1
loop-number-preserved-in-Continue-1 c =
    chosen-found (names c.args.dir) c.loop-number.numbers.items c.push.new.self.items (c.in-Some.number.now, c.in-Some.edges.now) c.loop-number.number-iterator c.next.new.self
    (chosen (names c.args.dir) c.args.self.now.nodes) c.loop-number.invariant c.in-Some.ensures.steps
    (ap (names c.args.dir) (sym c.as_slice.ensures.value) ∙ sym c.refers.ensures ∙ c.if-refers.true)
    (c.in_ok-push.ensures.items ∙ ap (λ (k : ℕ). c.loop-number.numbers.items ++ k ∷ []) c.new.ensures)

pub loop-number-preserved : goal.loop-number-preserved
loop-number-preserved c =
    chosen-passed (names c.args.dir) c.loop-number.numbers.items (c.in-Some.number.now, c.in-Some.edges.now) c.loop-number.number-iterator c.next.new.self
    (chosen (names c.args.dir) c.args.self.now.nodes) c.loop-number.invariant c.in-Some.ensures.steps
    (ap (names c.args.dir) (sym c.as_slice.ensures.value) ∙ sym c.refers.ensures ∙ c.if-refers.false)

pub returns-clause-all : goal.returns-clause-all
returns-clause-all c q =
    let nodes = c.args.self.now.nodes in
    let once : EachOnce (numbers_of c.args.self.now.nodes) = subst (λ (g : Seen). EachOnce (numbers_of g.nodes)) c.self.view_is (each-node-once c.self.inside.nodes.entries c.iter-number-items.ensures.unique) in
    let all : c.loop-number.numbers.items ≡ chosen (names c.args.dir) nodes = chosen-ended (names c.args.dir) c.loop-number.numbers.items c.loop-number.number-iterator (chosen (names c.args.dir) nodes) c.loop-number.invariant c.in-None.ensures.steps.0 in (
      λ there. any-among (drop 1 (edges_at nodes q)) c.args.dir (chosen-to (names c.args.dir) nodes q once (subst (λ (ns : List ℕ). Among ns q) all there)),
      λ some. subst (λ (ns : List ℕ). Among ns q) (sym all) (chosen-from (names c.args.dir) refl nodes q (among-any (drop 1 (edges_at nodes q)) c.args.dir some)),
    )

pub returns-clause-once : goal.returns-clause-once
returns-clause-once c =
    let nodes = c.args.self.now.nodes in
    let once : EachOnce (numbers_of c.args.self.now.nodes) = subst (λ (g : Seen). EachOnce (numbers_of g.nodes)) c.self.view_is (each-node-once c.self.inside.nodes.entries c.iter-number-items.ensures.unique) in
    let all : c.loop-number.numbers.items ≡ chosen (names c.args.dir) nodes = chosen-ended (names c.args.dir) c.loop-number.numbers.items c.loop-number.number-iterator (chosen (names c.args.dir) nodes) c.loop-number.invariant c.in-None.ensures.steps.0 in
    subst EachOnce (sym all) (chosen-once (names c.args.dir) nodes once)
