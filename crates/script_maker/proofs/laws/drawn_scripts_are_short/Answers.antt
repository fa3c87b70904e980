use Rattle.script_maker.proofs.ShortLemmas.{drawn-scripts-short}
use Rattle.script_maker.proofs.laws.drawn_scripts_are_short.Goals as goal

pub returns : goal.returns
returns c = drawn-scripts-short
