use Rattle.std.proofs.Common.{◌++◌, ◌∷◌, ◌∙◌, ℕ, [], ap, arith}
use Rattle.file_tree.specs.Answers.{numbers_of}
use Rattle.kept_links.proofs.AroundLemmas.{around-next}
use Rattle.kept_links.proofs.transition.Transition.numbers_around.Goals as goal

pub loop-number-preserved : goal.loop-number-preserved
loop-number-preserved c =
    let s = c.args.self.now.before.now.state in (
      omega (arith, c.loop-number.invariant.0),
      around-next (numbers_of s.entries) s.next c.loop-number.number c.loop-number.numbers.items c.push.new.self.items c.loop-number.invariant.0 c.loop-number.invariant.1
          (c.in_ok-push.ensures.items ∙ ap (λ (n : ℕ). c.loop-number.numbers.items ++ n ∷ []) c.new.ensures),
    )
