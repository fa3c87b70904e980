use Rattle.hac_words.proofs.RunLemmas.{words-are_words}
use Rattle.hac_words.proofs.laws.words_are_words.Goals as goal

pub returns : goal.returns
returns c = words-are_words
