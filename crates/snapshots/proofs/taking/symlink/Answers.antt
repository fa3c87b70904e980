use Rattle.std.proofs.Common.{◌≡◌, None, Some, ap, sym, ◌∙◌}
use Rattle.std.specs.Prelude.{option_and_then}
use Rattle.std.specs.Option.{option_copied}
use Rattle.hac_model.specs.Tree.{body_at, target_in}
use Rattle.hac_model.specs.declared.states.Body.TheVariants.{Symlink}
use Rattle.kept_state.proofs.StateLemmas.{same-target}
use Rattle.snapshots.proofs.PartLemmas.{symlink-body, symlink-target}
use Rattle.snapshots.proofs.taking.symlink.Goals as goal

pub unreachable-requires : goal.unreachable-requires
unreachable-requires c =
    let s = c.args.kept.now.state in
    let n = c.args.link in
    let none : option_and_then target_in (body_at s.entries n) ≡ None =
    same-target s c.tree.result.now.state c.tree.ensures.tree.bares n
    ∙ sym c.target.ensures ∙ ap (λ o. option_copied o) c.in_default.is in
    symlink-target (body_at s.entries n) c.requires none

pub returns : goal.returns
returns c =
    let s = c.args.kept.now.state in
    let n = c.args.link in
    let is : option_and_then target_in (body_at s.entries n) ≡ Some c.in-Some.target.now =
    same-target s c.tree.result.now.state c.tree.ensures.tree.bares n ∙ sym c.in-Some.ensures in
    symlink-body (body_at s.entries n) c.in-Some.target.now is
    ∙ (λ i. Some (Symlink (sym (c.in_ok-target.ensures ∙ c.as_slice.ensures) i)))
