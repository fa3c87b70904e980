use Rattle.std.proofs.Common.{◌≡◌, ℕ, List, subst, sym, ◌∙◌}
use Rattle.dep_graph.specs.Searches.{EachOnce}
use Rattle.hac_model.specs.Tree.Depends.{Among}
use Rattle.hac_model.specs.Tree.Events.{apply}
use Rattle.hac_model.specs.Tree.Touched.{touched}
use Rattle.kept_links.proofs.ItemLemmas.{touched-once, touched-touches}
use Rattle.kept_links.proofs.TaskLemmas.{next-valid, touched-leads}
use Rattle.kept_links.proofs.touched.delta_of_removal.Goals as goal

pub delta_of_gone-requires-clause-once : goal.delta_of_gone-requires-clause-once
delta_of_gone-requires-clause-once c =
    let s = c.args.coming.now.kept.now.state in
    let e = c.args.coming.now.event.now in
    let are : c.as_slice.result.now ≡ touched s e = c.as_slice.ensures.value ∙ c.in_ok-items.ensures in
    subst EachOnce (sym are) (touched-once s e)

pub returns : goal.returns
returns c =
    let s = c.args.coming.now.kept.now.state in
    let e = c.args.coming.now.event.now in
    let items = c.as_slice.result.now in
    let are : items ≡ touched s e = c.as_slice.ensures.value ∙ c.in_ok-items.ensures in
    touched-leads s e c.know_valid.ensures c.requires.coming.accepted c.requires.never items c.delta_of_gone.result are
    (c.delta_of_gone.ensures (apply s e) (next-valid s e c.know_valid.ensures c.requires.coming.accepted)
    (λ item inside. c.requires.gone item (touched-touches s e item (subst (λ (ns : List ℕ). Among ns item) are inside))))
