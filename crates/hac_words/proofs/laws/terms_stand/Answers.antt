use Rattle.hac_words.proofs.StandLemmas.{has_term-found, has_term-place}
use Rattle.hac_words.proofs.laws.terms_stand.Goals as goal

pub returns : goal.returns
returns c = λ text term word. (has_term-place term word text, λ place. has_term-found term word text place.0 place.1)
