use Rattle.std.proofs.Common.{ap, refl}
use Rattle.file_tree.specs.Seen.{Seen}
use Rattle.kept_state.proofs.PutLemmas.{dir-gone, directory-there, made-none}
use Rattle.kept_state.proofs.ready.drop_directory.Goals as goal

pub remove-requires-clause-there : goal.remove-requires-clause-there
remove-requires-clause-there c = directory-there c.args.kept.now c.args.dir c.requires.happens

pub returns : goal.returns
returns c = dir-gone c.args.kept.now _ c.args.dir c.requires.linked c.requires.happens (λ n. refl) refl (made-none c.args.kept.now c.requires.linked c.args.dir c.requires.happens) c.remove.new.self c.drop_dir.new.self c.drop_node.new.self (ap (λ (t : Seen). t.state) c.remove.ensures) c.drop_node.ensures.edges c.drop_dir.ensures.lists c.drop_dir.ensures.sets
