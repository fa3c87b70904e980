use Rattle.std.proofs.Common.{ℕ, List, refl, subst, sym, ◌∙◌}
use Rattle.dep_graph.specs.Graphs.{edges_of}
use Rattle.dep_graph.specs.Searches.{IsCone}
use Rattle.hac_model.specs.Tree.Depends.{NeverReturns, depends}
use Rattle.reindex.specs.Steps.{indexed_through}
use Rattle.reindex.proofs.IndexedLemmas.{indexed-none}
use Rattle.reindex.proofs.WayLemmas.{way-if}
use Rattle.reindex.proofs.ways.way_of.Goals as goal

pub cone-requires : goal.cone-requires
cone-requires c = subst (λ (edges : ℕ → List ℕ). NeverReturns edges) (λ i dir. sym (c.graph-2.ensures.edges dir) i) c.know_valid.ensures.acyclic

pub returns : goal.returns
returns c =
    let s = c.args.kept.now.state in
    let dirs = c.in_ok-dirs.dirs.items in
    let order = c.as_slice-2.result.now in
    let cone : IsCone (depends s) dirs order = subst (λ (edges : ℕ → List ℕ). IsCone edges dirs order) (λ i dir. c.graph-2.ensures.edges dir i)
    (subst (λ (ns : List ℕ). IsCone (edges_of c.graph-2.result.now) dirs ns) (sym c.as_slice-2.ensures.value)
    (subst (λ (ns : List ℕ). IsCone (edges_of c.graph-2.result.now) ns c.in_ok-order.order.items) c.as_slice.ensures.value c.in_ok-order.ensures)) in
    way-if c.way_over.result s (indexed_through 0 s) order (indexed-none s c.know_valid.ensures.layout) cone.ordered
    (λ dir some. cone.all dir some (dir, (c.in_ok-dirs.ensures.all dir).1 (λ none. some (sym (c.graph.ensures.edges dir) ∙ none)), (0, refl)))
    (λ dir inside. (cone.reached dir inside).0)
    c.way_over.ensures
