use Rattle.std.proofs.Common.{arith, ap, sym, ◌∙◌}
use Rattle.line_reader.specs.Reading.{Reading}
use Rattle.line_reader.proofs.ReaderLemmas.{past_all, unended-told}
use Rattle.line_reader.proofs.reading.Reader.look.Goals as goal

pub returns-in-None-clause-found : goal.returns-in-None-clause-found
returns-in-None-clause-found c =
    (ap (λ (r : Reading). r.ended) (sym c.self.view_is) ∙ c.if-self.true, unended-told c.buffered.result.now c.args.self.now.buffered c.buffered.ensures.buffered c.in-None.ensures)

pub returns-in-None-2-clause-found : goal.returns-in-None-2-clause-found
returns-in-None-2-clause-found c =
    past_all c.args.self.now c.buffered.ensures.sound (unended-told c.buffered.result.now c.args.self.now.buffered c.buffered.ensures.buffered c.in-None.ensures)
    (omega (arith, c.if-self-gt-SCRIPT_LIMIT.true, ap (λ (r : Reading). r.taken) c.self.view_is))

pub returns-in-None-3-clause-none : goal.returns-in-None-3-clause-none
returns-in-None-3-clause-none c =
    (ap (λ (r : Reading). r.ended) (sym c.self.view_is) ∙ c.if-self.false, omega (arith, c.if-self-gt-SCRIPT_LIMIT.false, ap (λ (r : Reading). r.taken) c.self.view_is), unended-told c.buffered.result.now c.args.self.now.buffered c.buffered.ensures.buffered c.in-None.ensures)
