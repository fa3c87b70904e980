use Rattle.hac_words.proofs.WordLemmas.{rising_words-rise}
use Rattle.hac_words.proofs.laws.words_rise.Goals as goal

pub returns : goal.returns
returns c = rising_words-rise
