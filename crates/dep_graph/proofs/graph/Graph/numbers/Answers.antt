use Rattle.std.proofs.Common.{◌≡◌, ◌≢◌, ℕ, ◌++◌, [], List, subst, ap, sym, ◌∙◌}
use Rattle.std.specs.Prelude.{Vec}
use Rattle.std.specs.Option.{option_copied}
use Rattle.std.specs.declared.alloc.Global.{Global}
use Rattle.std.proofs.lemmas.List.{append-nil}
use Rattle.hac_model.specs.Tree.Depends.{Among}
use Rattle.dep_graph.proofs.NextLemmas.{edges-number, nodes-with-edges, nodes_with}
use Rattle.dep_graph.proofs.ReferLemmas.{nodes_of, numbers_of}
use Rattle.dep_graph.proofs.graph.Graph.numbers.Goals as goal

pub returns : goal.returns
returns c q some =
    let next = option_copied c.args.next in
    let nodes = nodes_with c.args.self.now next in
    let all : c.loop-number.numbers.items ≡ numbers_of nodes = sym (append-nil c.loop-number.numbers.items) ∙ ap (λ (es : List (ℕ × Vec ℕ Global)). c.loop-number.numbers.items ++ numbers_of (nodes_of es)) (sym c.in-None.ensures.steps.0) ∙ c.loop-number.invariant in
    subst (λ (ns : List ℕ). Among ns q) (sym all) (edges-number nodes q (subst (λ (es : List ℕ). es ≢ []) (nodes-with-edges c.args.self.now next q) some))
