use Rattle.std.proofs.Common.{sym, ◌∙◌}
use Rattle.event_check.specs.Mounting.{will_have}
use Rattle.event_check.proofs.LoopLemmas.{all-done, all-fails, all-more}
use Rattle.event_check.proofs.mounting.will_have_all.Goals as goal

pub loop-number-preserved : goal.loop-number-preserved
loop-number-preserved c =
    all-more (will_have c.args.tree.now.state c.args.names.now c.args.coming.now) c.args.numbers.now c.loop-number.number-index c.number-item.result c.loop-number-test.true c.number-item.is (sym c.will_have.ensures ∙ c.if-not-will_have.false) c.loop-number.invariant

pub returns-then-not-will_have : goal.returns-then-not-will_have
returns-then-not-will_have c =
    sym (all-fails (will_have c.args.tree.now.state c.args.names.now c.args.coming.now) c.args.numbers.now c.loop-number.number-index c.number-item.result c.loop-number-test.true c.number-item.is (sym c.will_have.ensures ∙ c.if-not-will_have.true) c.loop-number.invariant)

pub returns : goal.returns
returns c = sym (all-done (will_have c.args.tree.now.state c.args.names.now c.args.coming.now) c.args.numbers.now c.loop-number.number-index c.loop-number-test.false c.loop-number.invariant)
