use Rattle.hac_words.proofs.WordLemmas.{rising_words-told}
use Rattle.hac_words.proofs.laws.words_are_determined.Goals as goal

pub returns : goal.returns
returns c = rising_words-told
