use Rattle.std.proofs.Common.{◌∙◌, sym}
use Rattle.shell_lang.proofs.NumberLemmas.{number-read}
use Rattle.shell_lang.proofs.numbers.number_of.Goals as goal

pub returns : goal.returns
returns c = c.number.ensures ∙ number-read c.args.word.now (sym c.is_number.ensures ∙ c.if-not-is_number.false)
