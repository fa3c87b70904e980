use Rattle.std.proofs.Common.{◌∙◌, ◌+◌, arith, rules, sym}
use Rattle.std.proofs.lemmas.List.{take_rest}
use Rattle.command_line.proofs.WordSpaces.{differ-end, named-again, named-once}
use Rattle.command_line.proofs.words.names_differ.Goals as goal

pub returns-then-is_named : goal.returns-then-is_named
returns-then-is_named c =
    sym (sym c.loop-at.invariant
    ∙ named-again c.args.spaces.now c.loop-at.at c.index-spaces-at.result (omega (arith, c.loop-at-test.true)) (search rules) _ _ c.if-is_named.ensures (search rules)
    (take_rest c.args.spaces.now (c.loop-at.at + 1)))

pub loop-at-preserved : goal.loop-at-preserved
loop-at-preserved c =
    named-once c.args.spaces.now c.loop-at.at c.index-spaces-at.result (omega (arith, c.loop-at-test.true)) (search rules) _ _ c.if-is_named.ensures (search rules)
    (take_rest c.args.spaces.now (c.loop-at.at + 1))
    ∙ c.loop-at.invariant

pub returns : goal.returns
returns c = sym (differ-end c.args.spaces.now c.loop-at.at (omega (arith, c.loop-at-test.false))) ∙ c.loop-at.invariant
