use Rattle.std.proofs.Common.{arith, false, refl, sym, true, ◌∙◌}
use Rattle.hac_model.specs.Tree.Mounting.{is_told}
use Rattle.event_check.proofs.ToldLemmas.{answered-done, answered-even, answered-next}
use Rattle.event_check.proofs.told.are_answered.Goals as goal

pub returns-then-told-questions : goal.returns-then-told-questions
returns-then-told-questions c = sym (answered-even c.args.tree.now.state c.args.questions.now c.args.told.now c.if-told-questions.true)

pub loop-i-init : goal.loop-i-init
loop-i-init c = refl

pub returns-then-not-is_told : goal.returns-then-not-is_told
returns-then-not-is_told c =
    sym (answered-next c.args.tree.now.state c.args.questions.now c.args.told.now c.loop-i.i c.index-questions-i.result c.index-told-i.result false (omega (arith, c.loop-i-test.true, c.if-told-questions.false)) c.loop-i-test.true c.index-questions-i.is c.index-told-i.is
    ((λ i. is_told c.args.tree.now.state (c.index-questions-i.is i).mount (sym c.as_slice.ensures i)) ∙ sym c.is_told.ensures ∙ c.if-not-is_told.true) c.loop-i.invariant)

pub loop-i-preserved : goal.loop-i-preserved
loop-i-preserved c =
    answered-next c.args.tree.now.state c.args.questions.now c.args.told.now c.loop-i.i c.index-questions-i.result c.index-told-i.result true (omega (arith, c.loop-i-test.true, c.if-told-questions.false)) c.loop-i-test.true c.index-questions-i.is c.index-told-i.is
    ((λ i. is_told c.args.tree.now.state (c.index-questions-i.is i).mount (sym c.as_slice.ensures i)) ∙ sym c.is_told.ensures ∙ c.if-not-is_told.false) c.loop-i.invariant

pub returns : goal.returns
returns c = sym (answered-done c.args.tree.now.state c.args.questions.now c.args.told.now c.loop-i.i (omega (arith, c.loop-i-test.false, c.if-told-questions.false)) (omega (arith, c.loop-i-test.false)) c.loop-i.invariant)
