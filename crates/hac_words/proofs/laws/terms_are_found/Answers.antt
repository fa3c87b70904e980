use Rattle.hac_words.proofs.WordLemmas.{has_term-rising_words}
use Rattle.hac_words.proofs.laws.terms_are_found.Goals as goal

pub returns : goal.returns
returns c = has_term-rising_words
