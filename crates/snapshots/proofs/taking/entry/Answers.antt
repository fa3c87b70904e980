use Rattle.std.proofs.Common.{◌≡◌, Some, ap, sym, ◌∙◌}
use Rattle.hac_model.specs.Tree.Links.{parent_of}
use Rattle.hac_model.specs.declared.states.Body.{Body}
use Rattle.kept_state.proofs.StateLemmas.{same-parent, same-some}
use Rattle.snapshots.proofs.PartLemmas.{entry-found, name_at, same-name}
use Rattle.snapshots.proofs.taking.entry.Goals as goal

pub name_of-requires : goal.name_of-requires
name_of-requires c =
    let s = c.args.kept.now.state in
    sym (same-some s c.tree-tree.result.now.state c.tree-tree.ensures.tree.bares c.args.number) ∙ c.requires

pub returns-in-Ok : goal.returns-in-Ok
returns-in-Ok c =
    let s = c.args.kept.now.state in
    let t = c.tree-tree.result.now.state in
    let bares = c.tree-tree.ensures.tree.bares in
    let n = c.args.number in
    let body : Body = c.in_ok-body.body in
    let name : name_at s.entries n ≡ Some c.in-Ok.name =
    same-name s t bares n ∙ c.name_of.ensures ∙ ap (λ name. Some name) (sym c.in-Ok.ensures.cases) in
    let parent : parent_of s n ≡ c.parent-parent.result = same-parent s t bares n ∙ sym c.parent-parent.ensures in
    entry-found s.entries n c.in-Ok.name body name c.in_ok-body.ensures
    ∙ (λ i. Some (record { number = n; parent = parent i; name = c.in-Ok.name; body = body }))
