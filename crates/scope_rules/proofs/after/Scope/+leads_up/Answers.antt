use Rattle.std.proofs.Common.{◌≡◌, true, ◌<◌, ◌-◌, ℕ, Bool, arith, ap, sym, subst, ◌∙◌}
use Rattle.std.specs.Prelude.{◌==◌, ◌||◌}
use Rattle.std.specs.List.{list_any}
use Rattle.std.proofs.lemmas.Bool.{eqb-false, eqb-true}
use Rattle.hac_model.specs.Tree.Links.{parent_of}
use Rattle.hac_model.specs.Tree.{ancestors, is_live}
use Rattle.hac_model.specs.declared.states.Entry.{Entry}
use Rattle.scope_rules.proofs.BelowLemmas.{none-leads, root-leads, up-leads, up-lives}
use Rattle.scope_rules.proofs.ScopeLemmas.{layout-told}
use Rattle.scope_rules.proofs.after.Scope.+leads_up.Goals as goal
use Rattle.scope_rules.proofs.after.Scope.+leads_up.Goals.{then-steps-eq0-via-then-steps-eq0, then-steps-eq0-via-else-steps-eq0+then-eq}

pub returns-then-steps-eq0 : goal.returns-then-steps-eq0
returns-then-steps-eq0 t c = λ after of live.
    let layout = layout-told c.args.self.now after of in
    elim c.then-steps-eq0.branch [
      | then-steps-eq0-via-then-steps-eq0 w ↦ none-leads after layout c.args.dir c.args.steps c.args.entry w.if-steps-eq0.true
      | then-steps-eq0-via-else-steps-eq0+then-eq w ↦ root-leads after layout c.args.dir c.args.steps c.args.entry (eqb-true c.args.entry 0 (sym w.eq.ensures ∙ w.if-eq.true))
    ]

pub returns-else-eq-2 : goal.returns-else-eq-2
returns-else-eq-2 t c = λ after of live.
    let layout = layout-told c.args.self.now after of in
    let apart : c.args.entry ≡ 0 → ⊥ = eqb-false c.args.entry 0 (sym c.eq.ensures ∙ c.if-eq.false) in
    let parent = c.parent-parent.ensures after of in
    let lives = subst (λ (k : ℕ). is_live after.entries k ≡ true) (sym parent) (up-lives after layout c.args.dir c.args.entry apart live) in
    let some : 0 < c.args.steps = omega (arith, c.if-steps-eq0.false) in
    c.leads_up.ensures after of lives
    ∙ ap (λ (k : ℕ). list_any (λ (x : Entry). x.parent == c.args.dir) (ancestors (c.args.steps - 1) after.entries k)) parent
    ∙ ap (λ (b : Bool). b || list_any (λ (x : Entry). x.parent == c.args.dir) (ancestors (c.args.steps - 1) after.entries (parent_of after c.args.entry)))
    (sym c.if-eq-2.false ∙ c.eq-2.ensures ∙ ap (λ (k : ℕ). k == c.args.dir) parent)
    ∙ sym (up-leads after layout c.args.dir c.args.steps c.args.entry some apart live)
