use Rattle.std.proofs.Common.{refl}
use Rattle.hac_model.specs.Script.CommandLine.{options}
use Rattle.hac_model.specs.Script.SpaceNames.{is_space_byte, is_space_name}
use Rattle.hac_model.proofs.laws.first_command_lines.Goals as goal

pub returns-clause-some : goal.returns-clause-some
unfolding options is_space_name is_space_byte
returns-clause-some c = (refl, refl, refl, refl, refl, refl, refl, refl, refl, refl, refl, refl, refl, refl, refl)

pub returns-clause-none : goal.returns-clause-none
unfolding options is_space_name is_space_byte
returns-clause-none c = (refl, refl, refl, refl, refl, refl, refl, refl, refl, refl, refl, refl, refl, refl, refl, refl, refl, refl, refl, refl, refl, refl, refl, refl, refl, refl, refl)
