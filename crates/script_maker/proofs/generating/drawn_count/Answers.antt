use Rattle.std.proofs.Common.{refl}
use Rattle.hac_model.specs.Script.Generator.{drawn_count}
use Rattle.script_maker.proofs.generating.drawn_count.Goals as goal

pub returns : goal.returns
unfolding drawn_count
returns c = refl
