use Rattle.std.proofs.Common.{refl}
use Rattle.std.specs.Fmt.{digits}
use Rattle.hac_model.proofs.laws.first_drawn_lines.Goals as goal

pub returns-clause-made : goal.returns-clause-made
unfolding digits
returns-clause-made c = (refl, refl, refl, refl)

pub returns-clause-drawn : goal.returns-clause-drawn
unfolding digits
returns-clause-drawn c = (refl, refl, refl)
