use Rattle.std.proofs.Common.{◌≡◌, true, false, arith, rules}
use Rattle.std.specs.Prelude.{Ok}
use Rattle.hac_core.specs.Drafts.{reads}
use Rattle.hac_model.specs.Run.Play.{command_turn, given_spaces}
use Rattle.hac_top.proofs.DecidingLemmas.{decides-denied, denied-happens, read-decides, refused-draft, reply-happens, settled-draft}
use Rattle.hac_top.proofs.deciding.decide_answered.Goals as goal

pub returns-then-reads-clause-happen : goal.returns-then-reads-clause-happen
returns-then-reads-clause-happen g c = reply-happens c.ask.result c.answered.result c.args.machine.now.state c.answered.ensures.ok c.answered.ensures.err

pub returns-then-reads-clause-leads : goal.returns-then-reads-clause-leads
returns-then-reads-clause-leads g c =
    let reads_it : reads c.args.draft ≡ true = search rules in
    λ command for spaces is attached.
    read-decides spaces c.args.machine.now.state command c.args.draft c.args.answers c.ask.result c.answered.result for is attached reads_it (c.ask.ensures.reply command for) (c.ask.ensures.refused command for) c.answered.ensures.ok c.answered.ensures.err

pub returns-in-Ok-clause-happen : goal.returns-in-Ok-clause-happen
returns-in-Ok-clause-happen g c = let settles = c.in-Ok.ensures.settled c.requires.made.0 c.requires.made.1 in settles.can

pub returns-in-Ok-clause-leads : goal.returns-in-Ok-clause-leads
returns-in-Ok-clause-leads g c =
    let changes : reads c.args.draft ≡ false = search rules in
    λ command for spaces is attached.
    let settles = c.in-Ok.ensures.settled command for in
    record { happen = settles.can; leads = λ setting same. settled-draft spaces setting c.args.machine.now.state command c.args.draft c.args.answers same for is attached changes c.in-Ok.settled settles }

pub returns-in-Err-clause-happen : goal.returns-in-Err-clause-happen
returns-in-Err-clause-happen g c = denied-happens c.in-Err.deny c.refused.result c.args.machine.now.state c.refused.ensures

pub returns-in-Err-clause-leads : goal.returns-in-Err-clause-leads
returns-in-Err-clause-leads g c =
    λ command for spaces is attached.
    decides-denied c.in-Err.deny c.refused.result c.args.machine.now.state (λ setting. command_turn (given_spaces spaces) setting (Ok command)) c.refused.ensures
    (λ refusal why_is setting same. refused-draft spaces setting c.args.machine.now.state command c.args.draft c.args.answers same for is attached c.in-Err.deny refusal (c.in-Err.ensures.refused command for) why_is)

pub returns-then-reads-clause-probes : goal.returns-then-reads-clause-probes
returns-then-reads-clause-probes g c = c.ask.ensures.probes

pub returns-in-Ok-clause-probes : goal.returns-in-Ok-clause-probes
returns-in-Ok-clause-probes g c = λ command for. omega arith

pub returns-in-Err-clause-probes : goal.returns-in-Err-clause-probes
returns-in-Err-clause-probes g c = λ command for. omega arith
