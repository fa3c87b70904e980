use Rattle.std.proofs.Common.{sym, ◌∙◌, arith}
use Rattle.hac_model.specs.Tree.Listing.{is_before}
use Rattle.sorted_lists.proofs.NeighbourLemmas.{chain-breaks, chain-more, rises-chain}
use Rattle.sorted_lists.proofs.names.names_rise.Goals as goal

pub loop-i-preserved : goal.loop-i-preserved
loop-i-preserved c =
    chain-more c.args.names.now c.loop-i.i c.index-names-i.result c.index-names-i-in-loop-i.result c.loop-i.auto.i c.loop-i-test.true c.index-names-i.is c.index-names-i-in-loop-i.is
    ((λ i. is_before (sym c.as_bytes.ensures i) (sym c.as_bytes-in-loop-i.ensures i)) ∙ sym c.is_before.ensures ∙ c.if-not-is_before.false) c.loop-i.invariant

pub returns-then-not-is_before : goal.returns-then-not-is_before
returns-then-not-is_before c =
    sym (chain-breaks c.args.names.now c.loop-i.i c.index-names-i.result c.index-names-i-in-loop-i.result c.loop-i.auto.i c.loop-i-test.true c.index-names-i.is c.index-names-i-in-loop-i.is
    ((λ i. is_before (sym c.as_bytes.ensures i) (sym c.as_bytes-in-loop-i.ensures i)) ∙ sym c.is_before.ensures ∙ c.if-not-is_before.true))

pub returns : goal.returns
returns c = sym (rises-chain c.args.names.now (λ k d inside. c.loop-i.invariant k d (omega (arith, inside, c.loop-i-test.false))))
