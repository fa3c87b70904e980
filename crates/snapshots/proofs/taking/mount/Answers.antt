use Rattle.std.proofs.Common.{◌≡◌, None, Some, ap, sym, ◌∙◌}
use Rattle.std.specs.Option.{option_copied}
use Rattle.hac_model.specs.Tree.Links.{space_at}
use Rattle.hac_model.specs.Tree.{body_at}
use Rattle.hac_model.specs.declared.states.Body.TheVariants.{Mount}
use Rattle.snapshots.proofs.PartLemmas.{mount-body, mount-space, same-space}
use Rattle.snapshots.proofs.taking.mount.Goals as goal

pub unreachable-requires : goal.unreachable-requires
unreachable-requires c =
    let s = c.args.kept.now.state in
    let n = c.args.mount in
    let none : space_at s n ≡ None =
    same-space s c.tree.result.now.state c.tree.ensures.tree.bares n
    ∙ sym c.space.ensures ∙ ap (λ o. option_copied o) c.in_default.is in
    mount-space (body_at s.entries n) c.requires none

pub returns-in-Ok : goal.returns-in-Ok
returns-in-Ok c =
    let s = c.args.kept.now.state in
    let n = c.args.mount in
    let is : space_at s n ≡ Some c.in-Some.space.now =
    same-space s c.tree.result.now.state c.tree.ensures.tree.bares n ∙ sym c.in-Some.ensures in
    let answers = c.new-answers.ensures ∙ c.in_ok-copies.ensures ∙ c.answers_of.ensures in
    mount-body (body_at s.entries n) c.in-Some.space.now is
    ∙ (λ i. Some (Mount (sym c.in-Ok.ensures.cases i) (sym answers i)))
