use Rattle.std.proofs.Common.{ap, subst, sym, ◌∙◌, arith}
use Rattle.hac_model.specs.Run.Answers.{Refuses}
use Rattle.hac_model.specs.Run.Refusals.{gone_cause}
use Rattle.hac_model.specs.Tree.Valid.{IsValid}
use Rattle.kept_state.specs.Seen.{Seen}
use Rattle.hac_core.proofs.ShowLemmas.{refuses-gone, shows-lines}
use Rattle.hac_core.proofs.showing.reply_to.Goals as goal

pub returns-in-Ok : goal.returns-in-Ok
returns-in-Ok g c =
    let valid = subst (λ (seen : Seen). IsValid seen.state) c.kept-kept.ensures c.know_valid.ensures in
    let none = ap (λ (seen : Seen). gone_cause c.args.answers.now seen.state c.args.command.now) (sym c.kept-kept.ensures) ∙ c.in-Ok.ensures in
    let shows = shows-lines c.args.linked.now.state valid c.args.answers.now c.args.command.now c.requires.reads c.requires.free c.requires.answered none c.lines_of.result c.lines_of.ensures.reply c.lines_of.ensures.memory in
    record { reply = shows.0; refused = shows.1; probes = c.lines_of.ensures.probes }

pub returns-in-Err : goal.returns-in-Err
returns-in-Err g c =
    let valid = subst (λ (seen : Seen). IsValid seen.state) c.kept-kept.ensures c.know_valid.ensures in
    let refuses = subst (λ (seen : Seen). Refuses c.in-Err.deny (gone_cause c.args.answers.now seen.state c.args.command.now)) c.kept-kept.ensures c.in-Err.ensures in
    record {
      reply = tt;
      refused = refuses-gone c.args.linked.now.state valid c.args.answers.now c.args.command.now c.requires.reads c.requires.free c.requires.answered c.in-Err.deny refuses;
      probes = omega arith;
    }
