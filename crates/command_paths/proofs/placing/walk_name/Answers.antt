use Rattle.std.proofs.Common.{◌≡◌, Bool, ap, sym, ◌∙◌}
use Rattle.std.specs.Prelude.{◌||◌, not}
use Rattle.hac_model.specs.Tree.Looks.{has_names}
use Rattle.command_paths.proofs.WalkedLemmas.{last-step, met-none}
use Rattle.command_paths.proofs.placing.walk_name.Goals as goal
use Rattle.command_paths.proofs.placing.walk_name.Goals.{then-follow, else-follow}

pub returns-in-None-clause-meets : goal.returns-in-None-clause-meets
returns-in-None-clause-meets c = λ jump names same.
    let s = c.args.tree.now.state in
    let asked : (c.args.follow || has_names names) ≡ c.if-follow.word_met = elim c.if-follow.branch [
      | then-follow w ↦ ap (λ (b : Bool). b || has_names names) w.if-follow.true ∙ sym w.if-follow.true ∙ sym w.word_met-is
      | else-follow w ↦ ap (λ (b : Bool). b || has_names names) w.if-follow.false ∙ same ∙ sym w.word_met-is
    ] in
    last-step s c.args.follow jump c.args.dir c.args.name.now names c.in-Some.number (sym c.child.ensures ∙ c.in-Some.is)
    (met-none s c.args.follow names c.in-Some.number c.if-follow.word_met c.word_met.result asked c.word_met.ensures c.in-None.is)
    (same ∙ ap not c.if-is_last.true)
