use Rattle.std.proofs.Common.{◌≡◌, ℕ, List, subst, sym, ◌∙◌}
use Rattle.hac_model.specs.declared.states.Answer.{Answer}
use Rattle.kept_facts.specs.Answers.{answers_kept}
use Rattle.kept_facts.specs.AnswersKept.{told_of}
use Rattle.kept_state.specs.Gains.{AreGains}
use Rattle.kept_state.proofs.parts.Parts.prepare_gains.Goals as goal

pub returns-clause-ready : goal.returns-clause-ready
returns-clause-ready c = λ mount.
    let same : answers_kept c.args.self.now.answers ≡ answers_kept c.prepare_told.new.self = sym (λ i mount. c.prepare_told.ensures.same mount i) in
    c.prepare_told.ensures.told mount
    ∙ subst (λ (kept : ℕ → List Answer). AreGains kept c.args.query.now c.args.told.now c.args.self.now.tree.state (told_of c.in_ok-lists.lists)) same c.in_ok-lists.ensures mount
