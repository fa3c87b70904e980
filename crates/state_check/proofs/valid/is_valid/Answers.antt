use Rattle.std.proofs.Common.{Bool, sym, ap, ◌∙◌}
use Rattle.std.specs.Prelude.{◌&&◌}
use Rattle.std.proofs.lemmas.Result.{IfOk-weaker}
use Rattle.hac_model.specs.Tree.ValidTest.{is_acyclic}
use Rattle.state_check.specs.Fitting.{do_bodies_fit}
use Rattle.state_check.proofs.ValidLemmas.{valid_parts}
use Rattle.state_check.proofs.valid.is_valid.Goals as goal

pub returns-then-not-branch : goal.returns-then-not-branch
returns-then-not-branch c =
    let s = c.args.state.now in
    sym (valid_parts s c.requires.sessions
    ∙ ap (λ (b : Bool). b && do_bodies_fit s && is_acyclic s)
    (sym c.in_ok-is_layout.ensures ∙ c.if-not-branch.true))

pub returns-then-not-do_bodies_fit : goal.returns-then-not-do_bodies_fit
returns-then-not-do_bodies_fit c =
    let s = c.args.state.now in
    sym (valid_parts s c.requires.sessions
    ∙ ap (λ (b : Bool). b && do_bodies_fit s && is_acyclic s) (sym c.in_ok-is_layout.ensures ∙ c.if-not-branch.false)
    ∙ ap (λ (b : Bool). b && is_acyclic s) (sym c.do_bodies_fit.ensures ∙ c.if-not-do_bodies_fit.true))

pub returns : goal.returns
returns c =
    let s = c.args.state.now in
    IfOk-weaker c.is_acyclic.result _ _ (λ told h. h ∙ sym (valid_parts s c.requires.sessions
    ∙ ap (λ (b : Bool). b && do_bodies_fit s && is_acyclic s) (sym c.in_ok-is_layout.ensures ∙ c.if-not-branch.false)
    ∙ ap (λ (b : Bool). b && is_acyclic s)
    (sym c.do_bodies_fit.ensures ∙ c.if-not-do_bodies_fit.false))) c.is_acyclic.ensures
