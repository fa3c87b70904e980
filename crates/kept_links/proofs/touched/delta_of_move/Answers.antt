use Rattle.std.proofs.Common.{◌≡◌, subst, sym, ◌∙◌}
use Rattle.std.specs.Prelude.{IfOk}
use Rattle.dep_graph.specs.Searches.{EachOnce}
use Rattle.hac_model.specs.Tree.Touched.{touched}
use Rattle.hac_model.specs.Tree.Valid.{IsValid}
use Rattle.hac_model.specs.declared.states.State.{State}
use Rattle.reindex.specs.Steps.{AreSettled}
use Rattle.reindex.specs.Ways.{IsWayOf}
use Rattle.kept_links.proofs.CostLemmas.{touched-cost}
use Rattle.kept_links.proofs.ItemLemmas.{touched-once}
use Rattle.kept_links.proofs.TaskLemmas.{next-valid, touched-leads, way-still}
use Rattle.kept_links.proofs.touched.delta_of_move.Goals as goal

pub delta_of_moved-requires-clause-once : goal.delta_of_moved-requires-clause-once
delta_of_moved-requires-clause-once g c =
    let s = c.args.coming.now.kept.now.state in
    let e = c.args.coming.now.event.now in
    let are : c.as_slice-items.result.now ≡ touched s e = c.as_slice-items.ensures.value ∙ c.in_ok-items.ensures in
    subst EachOnce (sym are) (touched-once s e)

pub delta_of_moved-requires-clause-after : goal.delta_of_moved-requires-clause-after
delta_of_moved-requires-clause-after g c =
    subst IsValid (sym c.new-outlook.ensures) (next-valid c.args.coming.now.kept.now.state c.args.coming.now.event.now c.know_valid.ensures c.requires.coming.accepted)

pub delta_of_moved-requires-clause-way : goal.delta_of_moved-requires-clause-way
delta_of_moved-requires-clause-way g c =
    subst (λ (t : State). IsWayOf t c.args.coming.now.way.now) (sym c.new-outlook.ensures)
    (way-still c.args.coming.now.kept.now.state c.args.coming.now.event.now c.know_valid.ensures c.requires.coming.accepted c.args.coming.now.way.now c.requires.never c.requires.coming.way)

pub returns-clause-behind : goal.returns-clause-behind
returns-clause-behind g c =
    let s = c.args.coming.now.kept.now.state in
    let e = c.args.coming.now.event.now in
    let items = c.as_slice-items.result.now in
    touched-leads s e c.know_valid.ensures c.requires.coming.accepted c.requires.never items c.delta_of_moved.result (c.as_slice-items.ensures.value ∙ c.in_ok-items.ensures)
    (subst (λ (t : State). IfOk c.delta_of_moved.result (λ delta. AreSettled s t items delta.items)) c.new-outlook.ensures c.delta_of_moved.ensures.settled)

pub returns-clause-probes : goal.returns-clause-probes
returns-clause-probes g c =
    touched-cost c.args.coming.now.kept.now.state c.new-outlook.result c.args.coming.now.event.now c.know_valid.ensures c.requires.coming.accepted c.as_slice-items.result.now c.args.probes.now c.delta_of_moved.new.probes
    c.new-outlook.ensures (c.as_slice-items.ensures.value ∙ c.in_ok-items.ensures) c.delta_of_moved.ensures.probes
