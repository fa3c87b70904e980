use Rattle.std.proofs.Common.{ℕ, ◌≤◌, subst, sym, ◌∙◌}
use Rattle.std.proofs.Math.Nat.{le-max_right}
use Rattle.reeval.proofs.ApplyLemmas.{have-more, most_again, sets_more}
use Rattle.reeval.proofs.applying.reserve.Goals as goal

pub loop-change-preserved : goal.loop-change-preserved
loop-change-preserved c =
    let old = c.args.found.now in
    let mid = c.loop-change.found in
    let new = c.prepare.new.self in
    let changes = c.args.delta.now in
    let i = c.loop-change.change-index in
    let change = c.change-item.result in
    let calls = c.in-Some.calls in (
      λ d. c.prepare.ensures.kinds d ∙ c.loop-change.invariant.0 d,
      have-more mid new changes i change c.loop-change-test.true c.change-item.is c.in_ok-prepare.ensures.sets c.loop-change.invariant.1,
      λ _. subst (λ (n : ℕ). calls ≤ n) (sym c.in_ok-prepare.ensures.room) (le-max_right mid.spare calls),
      most_again old.spare calls mid.spare new.spare c.loop-change.invariant.3 c.in_ok-prepare.ensures.room,
      sets_more old mid new changes i change c.loop-change-test.true c.change-item.is c.loop-change.invariant.4 c.in_ok-prepare.ensures.sets,
    )
