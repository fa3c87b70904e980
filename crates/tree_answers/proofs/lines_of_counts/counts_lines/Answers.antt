use Rattle.std.proofs.Common.{◌≤◌, ◌+◌, ◌++◌, ◌∷◌, [], ap, sym, subst, ◌∙◌}
use Rattle.hac_model.specs.Tree.Limits as limits
use Rattle.hac_model.specs.Tree.Links.{permanent_count, prohibited_count}
use Rattle.hac_model.specs.declared.counts.Counts.{Counts}
use Rattle.kept_state.specs.Seen.{Seen}
use Rattle.tree_answers.proofs.CountsLemmas.{line-counted}
use Rattle.tree_answers.proofs.PlainLemmas.{files-counted, plain-counted}
use Rattle.tree_answers.proofs.lines_of_counts.counts_lines.Goals as goal

pub line_of_counts-requires-clause-plain : goal.line_of_counts-requires-clause-plain
line_of_counts-requires-clause-plain c = subst (λ (k : Counts). 1 + k.semantics + k.mounts ≤ k.directories) (sym c.counts.ensures.counts) (plain-counted c.kept-kept.result.now.state).0

pub line_of_counts-requires-clause-items : goal.line_of_counts-requires-clause-items
line_of_counts-requires-clause-items c = subst (λ (k : Counts). k.files ≤ k.items) (sym c.counts.ensures.counts) (files-counted c.kept-kept.result.now.state)

pub returns : goal.returns
returns c =
    let counts = c.counts.ensures.counts ∙ ap (λ (seen : Seen). limits.counts seen.state) c.kept-kept.ensures in
    let permanent = c.in_ok-permanent.ensures ∙ ap (λ (seen : Seen). permanent_count seen.state) c.kept-kept.ensures in
    let prohibited = c.in_ok-prohibited.ensures ∙ ap (λ (seen : Seen). prohibited_count seen.state) c.kept-kept.ensures in
    c.in_ok-push.ensures.items
    ∙ (λ i. c.new-lines.ensures.items i ++ line-counted c.args.linked.now.state c.counts.result c.in_ok-transient.transient c.in_ok-permanent.permanent c.in_ok-prohibited.prohibited c.in_ok-line_of_counts.field-0 counts c.in_ok-transient.ensures permanent prohibited c.in_ok-line_of_counts.ensures i ∷ [])
