use Rattle.std.proofs.Common.{◌≡◌, ◌<◌, ◌≤◌, ◌++◌, ◌∙◌, ℕ, List, ap, arith, cond, sym, [], ◌∷◌}
use Rattle.hac_model.specs.Tree.Events.{apply}
use Rattle.hac_model.specs.Tree.Touched.{touches}
use Rattle.hac_model.specs.declared.states.State.{State}
use Rattle.kept_links.proofs.TouchLemmas.{touched-one, touched-past}
use Rattle.hac_model.proofs.SortedLemmas.{le-told, not-le-told}
use Rattle.kept_links.proofs.transition.Transition.touched_of_one.Goals as goal

pub returns-then-le : goal.returns-then-le
returns-then-le c =
    let s = c.args.self.now.before.now.state in
    let next : c.next_number.result ≡ (apply s c.args.self.now.event.now).next = c.next_number.ensures ∙ ap (λ (s : State). s.next) c.requires.transition.leads in
    let high : c.next_number.result ≤ c.args.item = le-told c.next_number.result c.args.item (sym c.le.ensures ∙ c.if-le.true) in
    c.new-items.ensures.items ∙ sym (touched-past s c.args.self.now.event.now c.know_valid.ensures.layout c.requires.transition.accepted c.args.item c.requires.reach (omega (arith, next, high)))

pub returns : goal.returns
returns c =
    let s = c.args.self.now.before.now.state in
    let e = c.args.self.now.event.now in
    let next : c.next_number.result ≡ (apply s e).next = c.next_number.ensures ∙ ap (λ (s : State). s.next) c.requires.transition.leads in
    let less : c.args.item < c.next_number.result = not-le-told c.next_number.result c.args.item (sym c.le.ensures ∙ c.if-le.false) in
    c.in_ok-push_touched.ensures
    ∙ ap (λ (items : List ℕ). items ++ cond (touches s e c.args.item) (c.args.item ∷ []) []) c.new-items.ensures.items
    ∙ sym (touched-one s e c.know_valid.ensures.layout c.requires.transition.accepted c.args.item c.requires.reach (omega (arith, next, less)))
