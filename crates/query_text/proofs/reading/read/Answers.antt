use Rattle.std.proofs.Common.{sym, ◌∙◌, arith, Some, None}
use Rattle.query_text.proofs.ReadLemmas.{next-none, next-some, at-end}
use Rattle.query_text.proofs.reading.read.Goals as goal

pub returns-in-None : goal.returns-in-None
returns-in-None c =
    sym c.loop-index.invariant ∙ next-none c.args.bytes.now c.loop-index.index c.loop-index.reader c.loop-index-test.true (sym c.in_ok-next.ensures ∙ c.in-None.is)

pub loop-index-preserved : goal.loop-index-preserved
loop-index-preserved c =
    sym (next-some c.args.bytes.now c.loop-index.index c.loop-index.reader c.in-Some.next c.loop-index-test.true (sym c.in_ok-next.ensures ∙ c.in-Some.is)) ∙ c.loop-index.invariant

pub returns-in-Some-2 : goal.returns-in-Some-2
returns-in-Some-2 c =
    sym c.loop-index.invariant ∙ at-end c.args.bytes.now c.loop-index.index c.loop-index.reader (Some c.in-Some-2.part) c.loop-index-test.false (omega arith) (sym c.in_ok-part.ensures ∙ c.in-Some-2.is)

pub returns-in-None-2 : goal.returns-in-None-2
returns-in-None-2 c =
    sym c.loop-index.invariant ∙ at-end c.args.bytes.now c.loop-index.index c.loop-index.reader None c.loop-index-test.false (omega arith) (sym c.in_ok-part.ensures ∙ c.in-None-2.is)
