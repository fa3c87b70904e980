use Rattle.kept_state.proofs.KeptLemmas.{alike-linked}
use Rattle.kept_state.proofs.ready.prepare_semantic.Goals as goal

pub prepare_edges-requires : goal.prepare_edges-requires
prepare_edges-requires c = alike-linked c.args.kept.now c.prepare_gains.new.self c.prepare_gains.ensures.alike c.requires.linked
