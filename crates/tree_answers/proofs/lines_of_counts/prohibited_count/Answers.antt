use Rattle.std.proofs.Common.{◌≡◌, ℕ, IfOk, subst}
use Rattle.hac_model.specs.Tree.Links.{prohibited_at, prohibited_count}
use Rattle.hac_model.specs.declared.marks.Kind.TheVariants.{Prohibited}
use Rattle.tree_answers.proofs.CountsLemmas.{are-marks, can-count, count-told}
use Rattle.tree_answers.proofs.SumLemmas.{marks-few, none-removed}
use Rattle.tree_answers.proofs.lines_of_counts.prohibited_count.Goals as goal

pub link_count-requires : goal.link_count-requires
link_count-requires c = can-count c.args.kept.now.state c.marks.ensures.valid Prohibited c.marks.result.now (prohibited_at c.args.kept.now.state) c.marks.ensures.marks.prohibited
    (λ dir. let marks = are-marks c.args.kept.now.state c.marks.ensures.valid dir in (marks-few c.args.kept.now.state c.marks.ensures.valid dir marks.0 marks.1).1)

pub returns : goal.returns
unfolding prohibited_count
returns c =
    let s = c.args.kept.now.state in
    subst (λ (n : ℕ). IfOk c.link_count.result (λ count. count ≡ n))
    (count-told s c.marks.ensures.valid Prohibited c.marks.result.now (prohibited_at s) c.marks.ensures.marks.prohibited (none-removed s))
    c.link_count.ensures
