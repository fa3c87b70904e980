use Rattle.std.proofs.Common.{◌≡◌, ◌-◌, ◌+◌, ◌∙◌, ℕ, suc, ap, subst, sym, arith}
use Rattle.std.specs.Prelude.{replicate}
use Rattle.hac_model.specs.Laws.{AllHappen}
use Rattle.hac_model.specs.Tree.Events.{apply_all}
use Rattle.hac_model.specs.declared.events.Event.TheVariants.{Step}
use Rattle.hac_model.specs.declared.states.State.{State}
use Rattle.kept_state.specs.Parts.{state_of}
use Rattle.kept_state.proofs.ready.put_steps.Goals as goal

pub steps-init : goal.steps-init
steps-init c =
    let all : c.args.count ≡ c.args.count - 0 = omega arith in
    let s = state_of c.args.kept.now in
    (c.requires.linked, subst (λ (k : ℕ). AllHappen s (replicate k Step)) all c.requires.happen, ap (λ (k : ℕ). apply_all s (replicate k Step)) (sym all))

pub put_step-requires-clause-linked : goal.put_step-requires-clause-linked
put_step-requires-clause-linked c = c.steps.invariant.0

pub put_step-requires-clause-happens : goal.put_step-requires-clause-happens
put_step-requires-clause-happens c =
    let one : c.args.count - c.steps.counter ≡ suc (c.args.count - (c.steps.counter + 1)) = omega (arith, c.steps-test.true) in
    (subst (λ (k : ℕ). AllHappen (state_of c.steps.kept) (replicate k Step)) one c.steps.invariant.1).0

pub steps-preserved : goal.steps-preserved
steps-preserved c =
    let s = state_of c.steps.kept in
    let one : c.args.count - c.steps.counter ≡ suc (c.args.count - (c.steps.counter + 1)) = omega (arith, c.steps-test.true) in
    let left = c.args.count - (c.steps.counter + 1) in (
      c.put_step.ensures.linked,
      subst (λ (x : State). AllHappen x (replicate left Step)) (sym c.put_step.ensures.state) (subst (λ (k : ℕ). AllHappen s (replicate k Step)) one c.steps.invariant.1).1,
      ap (λ (x : State). apply_all x (replicate left Step)) c.put_step.ensures.state ∙ sym (ap (λ (k : ℕ). apply_all s (replicate k Step)) one) ∙ c.steps.invariant.2,
    )

pub returns-clause-state : goal.returns-clause-state
returns-clause-state c =
    let none : c.args.count - c.steps.counter ≡ 0 = omega (arith, c.steps-test.false) in
    sym (ap (λ (k : ℕ). apply_all (state_of c.steps.kept) (replicate k Step)) none) ∙ c.steps.invariant.2

pub returns-clause-linked : goal.returns-clause-linked
returns-clause-linked c = c.steps.invariant.0
