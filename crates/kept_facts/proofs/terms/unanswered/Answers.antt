use Rattle.std.proofs.Common.{◌∙◌, Bool, List, ap, rules}
use Rattle.std.specs.Prelude.{filter, not}
use Rattle.std.proofs.lemmas.Fn.{filter_same}
use Rattle.hac_model.specs.Tree.Mounts.{is_kept}
use Rattle.hac_model.specs.declared.terms.Term.{Term}
use Rattle.kept_facts.proofs.terms.unanswered.Goals as goal

pub returns : goal.returns
returns c =
    let test : Term → Bool = λ term. not (is_kept c.args.answers.now term) in
    let rise = c.requires in
    filter_same _ test _ (λ x b f' called. search rules) _ _ c.retain.ensures.filtered
    ∙ ap (λ (ts : List Term). filter test ts) c.in_ok-ordered.ensures
