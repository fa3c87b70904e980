use Rattle.std.proofs.Common.{◌≡◌, ◌+◌, ◌∷◌, List, drop, ap, sym, ◌∙◌}
use Rattle.std.proofs.lemmas.List.{drop_more}
use Rattle.dep_graph.specs.Graphs.{edges_of}
use Rattle.hac_model.specs.declared.states.Entry.{Entry}
use Rattle.state_check.specs.Edges.{edges_put}
use Rattle.state_check.proofs.EdgeLemmas.{edges_left, left-less, own-entry}
use Rattle.state_check.proofs.cycles.graph_of.Goals as goal

pub loop-entry-preserved : goal.loop-entry-preserved
loop-entry-preserved c q =
    let s = c.args.state.now in
    let entries = c.as_slice-entries.result.now in
    let entry = c.entry-item.result in
    let left = drop (c.loop-entry.entry-index + 1) entries in
    let next : drop c.loop-entry.entry-index entries ≡ entry ∷ left =
    drop_more entries c.loop-entry.entry-index entry c.loop-entry-test.true
    ∙ ap (λ (e : Entry). e ∷ left) (sym c.entry-item.is) in
    let own = own-entry s.entries c.loop-entry.entry-index entry left c.requires
    (ap (λ (es : List Entry). drop c.loop-entry.entry-index es) (sym c.as_slice-entries.ensures) ∙ next) in
    c.in_ok-put_edges.ensures q
    ∙ ap (λ (es : List Entry). edges_put es entry (edges_of c.loop-entry.graph) q) c.as_slice-entries.ensures
    ∙ left-less s entry left (edges_of c.loop-entry.graph) own.0 own.1
    (λ n. c.loop-entry.invariant n ∙ ap (λ (es : List Entry). edges_left s es n) next) q
