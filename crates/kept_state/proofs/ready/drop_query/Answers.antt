use Rattle.std.proofs.Common.{ap, refl}
use Rattle.file_tree.specs.Seen.{Seen}
use Rattle.kept_state.proofs.PutLemmas.{asked-none, dir-gone}
use Rattle.kept_state.proofs.ready.drop_query.Goals as goal

pub returns : goal.returns
returns c = dir-gone c.args.kept.now _ c.args.dir c.requires.linked c.requires.happens (λ n. refl) refl (asked-none c.args.kept.now c.requires.linked c.args.dir c.requires.happens) c.clear_query.new.self c.drop_dir.new.self c.drop_node.new.self (ap (λ (t : Seen). t.state) c.clear_query.ensures) c.drop_node.ensures.edges c.drop_dir.ensures.lists c.drop_dir.ensures.sets
