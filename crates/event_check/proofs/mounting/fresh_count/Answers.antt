use Rattle.std.proofs.Common.{◌≡◌, ◌+◌, ℕ, List, Bool, true, false, drop, length, ap, sym, subst, ◌∙◌, arith}
use Rattle.std.specs.Prelude.{filter, is_none, is_some, not, Option, None, Some, refl}
use Rattle.hac_model.specs.Tree.{child}
use Rattle.event_check.proofs.LoopLemmas.{counts-done, counts-less, counts-more}
use Rattle.event_check.proofs.mounting.fresh_count.Goals.{then-is_none, else-is_none}
use Rattle.event_check.proofs.mounting.fresh_count.Goals as goal

pub loop-name-preserved : goal.loop-name-preserved
loop-name-preserved c =
    let s = c.args.tree.now.state in
    let test = λ (name : List ℕ). is_none (child s.entries c.args.mount name) in
    let told : is_none (child s.entries c.args.mount c.name-item.result) ≡ c.is_none.result = ap is_none (sym c.child.ensures) ∙ none-told c.child.result c.is_none.result c.is_none.ensures in
    elim c.if-is_none.branch [
      | then-is_none w ↦ record {
        few = omega (arith, w.count-is, c.loop-name.invariant.few);
        so_far = subst (λ (count : ℕ). count + length (filter test (drop (c.loop-name.name-index + 1) c.args.names.now)) ≡ length (filter test c.args.names.now)) (sym w.count-is)
            (counts-more test c.args.names.now c.loop-name.name-index c.name-item.result c.loop-name-test.true c.name-item.is c.loop-name.count (told ∙ w.if-is_none.true) c.loop-name.invariant.so_far);
      }
      | else-is_none w ↦ record {
        few = omega (arith, w.count-is, c.loop-name.invariant.few);
        so_far = subst (λ (count : ℕ). count + length (filter test (drop (c.loop-name.name-index + 1) c.args.names.now)) ≡ length (filter test c.args.names.now)) (sym w.count-is)
            (counts-less test c.args.names.now c.loop-name.name-index c.name-item.result c.loop-name-test.true c.name-item.is c.loop-name.count (told ∙ w.if-is_none.false) c.loop-name.invariant.so_far);
      }
    ]
  where
    none-told : {X : Type 0} (o : Option X) (b : Bool) → is_some o ≡ not b → is_none o ≡ b
    none-told None true h = refl
    none-told None false h = absurd cc
    none-told (Some x) true h = absurd cc
    none-told (Some x) false h = refl

pub returns : goal.returns
returns c = counts-done (λ name. is_none (child c.args.tree.now.state.entries c.args.mount name)) c.args.names.now c.loop-name.name-index c.loop-name.count c.loop-name-test.false c.loop-name.invariant.so_far
