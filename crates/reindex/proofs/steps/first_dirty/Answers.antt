use Rattle.std.proofs.Common.{◌≡◌, ◌+◌, ℕ, List, subst, sym, ◌∙◌, arith}
use Rattle.reindex.specs.Steps.{AreIndexed}
use Rattle.reindex.proofs.StepLemmas.{indexed-more, indexed-start, never-none}
use Rattle.reindex.proofs.steps.first_dirty.Goals as goal

pub loop-step-init : goal.loop-step-init
loop-step-init c = indexed-start c.args.kept.now.state c.new-files.result.items c.know_valid.ensures.layout c.new-files.ensures.items

pub unreachable-requires : goal.unreachable-requires
unreachable-requires c =
    never-none c.args.kept.now.state c.loop-step._step c.args.count c.loop-step.files.items c.loop-step.last c.requires c.loop-step-test.true c.loop-step.invariant (sym c.next_dirty_behind.ensures ∙ c.in_default.is)

pub loop-step-preserved : goal.loop-step-preserved
loop-step-preserved c =
    let s = c.args.kept.now.state in
    let file = c.in-Some.file in
    subst (λ (files : List ℕ). AreIndexed s (c.loop-step._step + 1) files file) (sym c.in_ok-push.ensures.items)
    (indexed-more s c.loop-step._step c.loop-step.files.items c.loop-step.last file c.know_valid.ensures.layout c.loop-step.invariant (sym c.next_dirty_behind.ensures ∙ c.in-Some.is))

pub returns : goal.returns
returns c =
    let all : c.loop-step._step ≡ c.args.count = omega (arith, c.loop-step-test.false, c.loop-step.auto._step-end) in
    subst (λ (n : ℕ). AreIndexed c.args.kept.now.state n c.loop-step.files.items c.loop-step.last) all c.loop-step.invariant
