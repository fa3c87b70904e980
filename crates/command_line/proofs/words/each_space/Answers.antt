use Rattle.std.proofs.Common.{◌∙◌, ◌+◌, ap, arith, refl, rules, sym}
use Rattle.std.specs.Prelude.{drop}
use Rattle.hac_model.specs.Script.CommandLine.{each_space}
use Rattle.command_line.specs.Words.{space_asked, spaces_asked}
use Rattle.command_line.proofs.WordSpaces.{asked-more, before, no-space, none-before, space-next, spaces-end, texts}
use Rattle.command_line.proofs.words.each_space.Goals as goal

pub loop-word-init : goal.loop-word-init
loop-word-init c =
    ap (λ items. before (spaces_asked items) (each_space (texts c.args.words.now))) c.new-spaces.ensures.items ∙ none-before (each_space (texts c.args.words.now))

pub returns-in-Err-clause-usage : goal.returns-in-Err-clause-usage
returns-in-Err-clause-usage c usage =
    sym c.loop-word.invariant
    ∙ no-space c.args.words.now c.loop-word.word-index _ (omega (arith, c.loop-word-test.true)) refl (spaces_asked c.loop-word.spaces.items) (c.in-Err.ensures.usage usage)

pub loop-word-preserved : goal.loop-word-preserved
loop-word-preserved c =
    ap (λ asked. before asked (each_space (texts (drop (c.loop-word.word-index + 1) c.args.words.now)))) (ap spaces_asked (search rules) ∙ asked-more c.loop-word.spaces.items c.in-Ok.space)
    ∙ space-next c.args.words.now c.loop-word.word-index _ (omega (arith, c.loop-word-test.true)) refl (spaces_asked c.loop-word.spaces.items) (space_asked c.in-Ok.space) c.in-Ok.ensures.read
    ∙ c.loop-word.invariant

pub returns-clause-read : goal.returns-clause-read
returns-clause-read c =
    sym c.loop-word.invariant ∙ spaces-end c.args.words.now c.loop-word.word-index (spaces_asked c.loop-word.spaces.items) (omega (arith, c.loop-word-test.false))
