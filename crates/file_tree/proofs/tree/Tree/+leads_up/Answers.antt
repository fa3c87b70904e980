use Rattle.std.proofs.Common.{◌<◌, ◌-◌, Bool, arith, ap, sym, ◌∙◌}
use Rattle.std.specs.Prelude.{◌==◌, ◌||◌}
use Rattle.std.specs.List.{list_any}
use Rattle.hac_model.specs.Tree.{ancestors}
use Rattle.hac_model.specs.declared.states.Entry.{Entry}
use Rattle.hac_model.proofs.PathLemmas.{ancestors-none}
use Rattle.file_tree.proofs.ReadLemmas.{seen-none, seen-some}
use Rattle.file_tree.proofs.StepLemmas.{ancestors-next}
use Rattle.file_tree.proofs.tree.Tree.+leads_up.Goals as goal

pub returns-then-eq : goal.returns-then-eq
returns-then-eq t c =
    let some : 0 < c.args.steps = omega arith in
    let step = ancestors-next c.args.steps c.args.self.now.state.entries c.args.item _ some (seen-some c.self.inside c.args.self.now c.self.view_is c.self.invariant.shaped c.args.item c.entry_at.result c.entry_at.ensures c.in-Some.node c.in-Some.is) in
    c.if-eq.true
    ∙ sym (ap (list_any (λ (e : Entry). e.parent == c.args.dir)) step
    ∙ ap (λ (b : Bool). b || list_any (λ (e : Entry). e.parent == c.args.dir) (ancestors (c.args.steps - 1) c.args.self.now.state.entries c.in-Some.node.now.parent)) (sym c.eq.ensures ∙ c.if-eq.true))

pub returns-else-eq : goal.returns-else-eq
returns-else-eq t c =
    let some : 0 < c.args.steps = omega arith in
    let step = ancestors-next c.args.steps c.args.self.now.state.entries c.args.item _ some (seen-some c.self.inside c.args.self.now c.self.view_is c.self.invariant.shaped c.args.item c.entry_at.result c.entry_at.ensures c.in-Some.node c.in-Some.is) in
    c.leads_up.ensures
    ∙ sym (ap (list_any (λ (e : Entry). e.parent == c.args.dir)) step
    ∙ ap (λ (b : Bool). b || list_any (λ (e : Entry). e.parent == c.args.dir) (ancestors (c.args.steps - 1) c.args.self.now.state.entries c.in-Some.node.now.parent)) (sym c.eq.ensures ∙ c.if-eq.false))

pub returns-in-None : goal.returns-in-None
returns-in-None t c = sym (ap (list_any (λ (e : Entry). e.parent == c.args.dir)) (ancestors-none c.args.steps c.args.self.now.state.entries c.args.item (seen-none c.self.inside c.args.self.now c.self.view_is c.self.invariant.shaped c.args.item c.entry_at.result c.entry_at.ensures c.in-None.is)))
