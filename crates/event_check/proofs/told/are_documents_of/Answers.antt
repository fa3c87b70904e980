use Rattle.std.proofs.Common.{sym, ◌∙◌}
use Rattle.hac_model.specs.Tree.Mounting.{is_document_of}
use Rattle.event_check.proofs.LoopLemmas.{all-done, all-fails, all-more}
use Rattle.event_check.proofs.told.are_documents_of.Goals as goal

pub loop-number-preserved : goal.loop-number-preserved
loop-number-preserved c =
    all-more (is_document_of c.args.tree.now.state c.args.mount) c.args.numbers.now c.loop-number.number-index c.number-item.result c.loop-number-test.true c.number-item.is (sym c.is_document_of.ensures ∙ c.if-not-is_document_of.false) c.loop-number.invariant

pub returns-then-not-is_document_of : goal.returns-then-not-is_document_of
returns-then-not-is_document_of c =
    sym (all-fails (is_document_of c.args.tree.now.state c.args.mount) c.args.numbers.now c.loop-number.number-index c.number-item.result c.loop-number-test.true c.number-item.is (sym c.is_document_of.ensures ∙ c.if-not-is_document_of.true) c.loop-number.invariant)

pub returns : goal.returns
returns c = sym (all-done (is_document_of c.args.tree.now.state c.args.mount) c.args.numbers.now c.loop-number.number-index c.loop-number-test.false c.loop-number.invariant)
