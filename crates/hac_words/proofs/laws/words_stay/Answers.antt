use Rattle.hac_words.proofs.WordLemmas.{Contains-rising_words}
use Rattle.hac_words.proofs.laws.words_stay.Goals as goal

pub returns : goal.returns
returns c = Contains-rising_words
