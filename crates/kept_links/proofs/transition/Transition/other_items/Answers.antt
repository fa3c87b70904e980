use Rattle.std.proofs.Common.{◌∙◌, ℕ, List, arith}
use Rattle.std.specs.Prelude.{filter}
use Rattle.std.proofs.lemmas.List.{nil_from_length}
use Rattle.hac_model.specs.Tree.Events.{apply}
use Rattle.kept_links.specs.Items.{is_other, numbers_around}
use Rattle.kept_links.proofs.AroundLemmas.{others-around, passing-ended, passing-next}
use Rattle.kept_links.proofs.transition.Transition.other_items.Goals as goal

pub loop-number-preserved : goal.loop-number-preserved
loop-number-preserved c =
    let s = c.args.self.now.before.now.state in
    let e = c.args.self.now.event.now in
    passing-next (is_other s e) c.loop-number.items.items c.push_other.new.items.items (filter (is_other s e) (numbers_around s (apply s e))) c.loop-number.number-iterator.rest.items c.next.new.self.rest.items c.in-Some.number
    c.in-Some.ensures.steps.0 c.loop-number.invariant c.in_ok-push_other.ensures

pub returns : goal.returns
returns c =
    let s = c.args.self.now.before.now.state in
    let e = c.args.self.now.event.now in
    let left : List ℕ = c.loop-number.number-iterator.rest.items in
    passing-ended (is_other s e) c.loop-number.items.items (filter (is_other s e) (numbers_around s (apply s e))) left
    (nil_from_length left (omega (arith, c.in-None.ensures.steps.0, c.loop-number.number-iterator.rest.ok.0))) c.loop-number.invariant
    ∙ others-around s e c.know_valid.ensures c.requires.accepted
