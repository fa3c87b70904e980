use Rattle.std.proofs.Common.{refl}
use Rattle.hac_model.specs.Script.Texts.{text_of}
use Rattle.hac_model.specs.Spaces.Catalogue.{catalogue, lines, with_line, with_lines}
use Rattle.sem_mounts.proofs.laws.first_catalogues.Goals as goal

pub returns-clause-good : goal.returns-clause-good
unfolding catalogue lines text_of with_line with_lines
returns-clause-good c = (refl, refl, refl, refl)

pub returns-clause-bad : goal.returns-clause-bad
unfolding catalogue lines text_of with_line with_lines
returns-clause-bad c = (refl, refl, refl, refl, refl, refl)
