use Rattle.std.proofs.Common.{◌≡◌, ◌<◌, [], length, drop, get_or, rules, tests, arith, ap, ◌∙◌, sym}
use Rattle.std.proofs.lemmas.Iterator.Consumers.{YieldsList-turn, YieldsList-end}
use Rattle.std.proofs.lemmas.Iterator.Splits.{YieldsList-from_slice_split}
use Rattle.std.proofs.lemmas.List.{length_push, drop_all}
use Rattle.hac_model.specs.Bytes.{is_slash}
use Rattle.hac_model.specs.Script.PathWords.{parts, relative}
use Rattle.hac_names.proofs.Walks.{led_on, led_on-more, led_on-none, led_on-root, walked-ups}
use Rattle.hac_names.proofs.reading.walk.Goals as goal

pub loop-part-init : goal.loop-part-init
loop-part-init c = record { ups = omega arith; whole = rw c.root.ensures (led_on-root (parts c.args.bytes.now)) }

pub loop-part-preserved : goal.loop-part-preserved
loop-part-preserved c =
    let at = c.into_iter-part-iterator.ensures.into_iter_gives in
    let turn : (length c.loop-part.yielded < length (parts c.args.bytes.now)) × (c.in-Some.part.now ≡ get_or (parts c.args.bytes.now) (length c.loop-part.yielded) c.in-Some.part.now) =
    YieldsList-turn
    (YieldsList-from_slice_split _ is_slash c.args.bytes.now (ap (λ s. s.rest.now) at ∙ c.split-part-items.ensures.rest)
    (ap (λ s. s.done) at ∙ c.split-part-items.ensures.done) (ap (λ s. s.pred) at ∙ c.split-part-items.ensures.closure) (λ x r q k. search (rules, tests)))
    c.loop-part.yielded _ c.loop-part.yielded_by _ _ c.in-Some.part c.in-Some.is c.next.ensures.steps in
    let more = length_push c.loop-part.yielded c.in-Some.part in
    let word = c.in_ok-step.ensures in
    record {
      ups = rw (word, more) (omega (arith, walked-ups c.loop-part.word c.in-Some.part.now, c.loop-part.invariant.ups));
      whole = rw (word, more) (led_on-more c.loop-part.word (parts c.args.bytes.now) (length c.loop-part.yielded) c.in-Some.part.now turn ∙ c.loop-part.invariant.whole);
    }

pub returns : goal.returns
returns c =
    let at = c.into_iter-part-iterator.ensures.into_iter_gives in
    let end : length c.loop-part.yielded ≡ length (parts c.args.bytes.now) = (YieldsList-end
    (YieldsList-from_slice_split _ is_slash c.args.bytes.now (ap (λ s. s.rest.now) at ∙ c.split-part-items.ensures.rest)
    (ap (λ s. s.done) at ∙ c.split-part-items.ensures.done) (ap (λ s. s.pred) at ∙ c.split-part-items.ensures.closure) (λ x r q k. search (rules, tests)))
    c.loop-part.yielded _ c.loop-part.yielded_by _ _ c.in-None.is c.next.ensures.steps).1 in
    let none : drop (length c.loop-part.yielded) (parts c.args.bytes.now) ≡ [] = drop_all _ (parts c.args.bytes.now) (omega (arith, end)) in
    sym (led_on-none c.loop-part.word) ∙ ap (λ ps. led_on c.loop-part.word (relative ps)) (sym none) ∙ c.loop-part.invariant.whole
