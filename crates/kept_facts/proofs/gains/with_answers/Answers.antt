use Rattle.std.proofs.Common.{[]}
use Rattle.std.proofs.lemmas.List.{append-nil}
use Rattle.kept_facts.proofs.GainLemmas.{putting-goes}
use Rattle.kept_facts.proofs.gains.with_answers.Goals as goal

pub more-init : goal.more-init
more-init c = record { done = []; split = append-nil c.args.more.items; put = c.in_ok-all.ensures }

pub more-preserved : goal.more-preserved
more-preserved c =
    putting-goes c.args.more.items c.args.answers.now c.more.more.items c.pop.new.self.items c.more.all.items c.put_answer.new.answers.items c.in-Some.answer c.more.invariant
    c.in-Some.ensures.items c.in_ok-put_answer.ensures
