use Rattle.std.proofs.Common.{ap, sym, ◌∙◌}
use Rattle.event_check.specs.Mounting.{is_told_by, will_have}
use Rattle.event_check.proofs.LoopLemmas.{all-done, all-fails, all-more}
use Rattle.event_check.proofs.mounting.each_told.Goals as goal

pub loop-numbers-preserved : goal.loop-numbers-preserved
loop-numbers-preserved c =
    let test = is_told_by (will_have c.args.tree.now.state c.args.names.now c.args.coming.now) in
    all-more test c.args.told.now c.loop-numbers.numbers-index c.numbers-item.result c.loop-numbers-test.true c.numbers-item.is
    (ap test (sym c.as_slice.ensures) ∙ sym c.is_told.ensures ∙ c.if-not-is_told.false) c.loop-numbers.invariant

pub returns-then-not-is_told : goal.returns-then-not-is_told
returns-then-not-is_told c =
    let test = is_told_by (will_have c.args.tree.now.state c.args.names.now c.args.coming.now) in
    sym (all-fails test c.args.told.now c.loop-numbers.numbers-index c.numbers-item.result c.loop-numbers-test.true c.numbers-item.is
    (ap test (sym c.as_slice.ensures) ∙ sym c.is_told.ensures ∙ c.if-not-is_told.true) c.loop-numbers.invariant)

pub returns : goal.returns
returns c = sym (all-done (is_told_by (will_have c.args.tree.now.state c.args.names.now c.args.coming.now)) c.args.told.now c.loop-numbers.numbers-index c.loop-numbers-test.false c.loop-numbers.invariant)
