use Rattle.std.proofs.Common.{◌≡◌, ℕ, List, Bool, true, cond, Some, ap, sym, ◌∙◌}
use Rattle.std.specs.Prelude.{◌||◌, filter, find}
use Rattle.std.specs.BTreeMap.Range.{range_contains}
use Rattle.std.specs.Map.Iter.{deref}
use Rattle.std.specs.Ordering.{nat_cmp}
use Rattle.std.specs.declared.ops.Bound.TheVariants.{Excluded, Unbounded}
use Rattle.std.proofs.lemmas.Map.Iter.{rest_all, rest_more}
use Rattle.file_tree.specs.Answers.{is_dirty_at}
use Rattle.file_tree.specs.Ready.{is_awaited}
use Rattle.file_tree.proofs.DirtyLemmas.{found-behind}
use Rattle.file_tree.proofs.TreeLemmas.{set-has}
use Rattle.file_tree.proofs.tree.Tree.next_dirty_behind.Goals as goal

pub loop-number-init : goal.loop-number-init
loop-number-init c =
    let s = c.args.self.now in
    found-behind c.args.last s.state.entries s.state.next c.know_layout.ensures.layout.numbers c.self.inside.to_index.keys c.range-number-items.ensures.ordered (λ n dirty.
    set-has c.self.inside s c.self.view_is c.self.invariant n ∙ ap (λ (b : Bool). b || is_awaited s.state.next s.ready n) dirty)
    ∙ ap (λ (ks : List ℕ). find (is_dirty_at s.state.entries) ks) (
    ap (λ (last : ℕ). filter (range_contains nat_cmp (Excluded last) Unbounded) c.self.inside.to_index.keys) (sym c.get.ensures)
    ∙ sym (c.into_iter-number-iterator.ensures.into_iter_gives ∙ c.range-number-items.ensures.between tt))

pub returns-then-dirty-clause-next : goal.returns-then-dirty-clause-next
returns-then-dirty-clause-next c =
    let es = c.args.self.now.state.entries in
    let dirty : is_dirty_at es c.in-Some.number.now ≡ true = ap (λ (n : ℕ). is_dirty_at es n) (sym c.new-file.ensures) ∙ sym c.dirty.ensures ∙ c.if-dirty.true in
    ap Some c.new-file.ensures
    ∙ sym (c.loop-number.invariant
    ∙ ap (λ (ks : List ℕ). find (is_dirty_at es) ks) (rest_more deref c.loop-number.number-iterator c.next.new.self c.next.result c.in-Some.number c.in-Some.is c.next.ensures.steps)
    ∙ ap (λ (b : Bool). cond b (Some c.in-Some.number.now) (find (is_dirty_at es) c.next.new.self)) dirty)

pub loop-number-preserved : goal.loop-number-preserved
loop-number-preserved c =
    let es = c.args.self.now.state.entries in
    c.loop-number.invariant
    ∙ ap (λ (ks : List ℕ). find (is_dirty_at es) ks) (rest_more deref c.loop-number.number-iterator c.next.new.self c.next.result c.in-Some.number c.in-Some.is c.next.ensures.steps)
    ∙ ap (λ (b : Bool). cond b (Some c.in-Some.number.now) (find (is_dirty_at es) c.next.new.self)) (ap (λ (n : ℕ). is_dirty_at es n) (sym c.new-file.ensures) ∙ sym c.dirty.ensures ∙ c.if-dirty.false)

pub returns-clause-next : goal.returns-clause-next
returns-clause-next c =
    let es = c.args.self.now.state.entries in
    sym (c.loop-number.invariant ∙ ap (λ (ks : List ℕ). find (is_dirty_at es) ks) (rest_all deref c.loop-number.number-iterator c.next.new.self c.next.result c.in-None.is c.next.ensures.steps))
