use Rattle.std.proofs.Common.{◌∙◌, ap, arith, subst}
use Rattle.std.specs.Prelude.{min}
use Rattle.hac_model.specs.Tree.Events.{dirty}
use Rattle.hac_model.specs.Tree.Valid.{IsValid}
use Rattle.hac_model.proofs.EventLemmas.{steps-happen}
use Rattle.hac_top.proofs.TickLemmas.{steps-are-due}
use Rattle.hac_top.proofs.ticking.steps_due.Goals as goal

pub returns-clause-due : goal.returns-clause-due
returns-clause-due c =
    let setting = c.args.store.now.setting in
    let valid = subst IsValid c.machine.ensures.state c.machine.ensures.valid in
    let wanted = c.min.ensures ∙ ap (min c.args.most) (c.dirty-dirty.ensures.dirty ∙ ap dirty c.machine.ensures.state) in
    steps-are-due c.args.most c.min.result c.steps_with_room.result setting valid wanted c.steps_with_room.ensures.within c.steps_with_room.ensures.room c.steps_with_room.ensures.most

pub returns-clause-happen : goal.returns-clause-happen
returns-clause-happen c =
    let setting = c.args.store.now.setting in
    let valid = subst IsValid c.machine.ensures.state c.machine.ensures.valid in
    let files = c.dirty-dirty.ensures.dirty ∙ ap dirty c.machine.ensures.state in
    steps-happen c.steps_with_room.result setting.state valid (omega (arith, c.steps_with_room.ensures.within, c.min.ensures, files))
