use Rattle.std.proofs.Common.{sym, arith}
use Rattle.hac_words.proofs.WindowLemmas.{stands-nowhere}
use Rattle.hac_words.proofs.windows.has_word.Goals as goal

pub returns : goal.returns
returns c = sym (stands-nowhere c.args.term.now c.requires.word c.args.text.now c.loop-from.from (omega arith) c.loop-from.invariant)
