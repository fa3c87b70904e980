use Rattle.std.proofs.Common.{ap}
use Rattle.file_tree.specs.Seen.{Seen}
use Rattle.kept_state.proofs.PutLemmas.{leaf-there, removed-put}
use Rattle.kept_state.proofs.ready.drop_leaf.Goals as goal

pub remove-requires-clause-there : goal.remove-requires-clause-there
remove-requires-clause-there c = leaf-there c.args.kept.now c.args.entry c.requires.happens

pub returns : goal.returns
returns c = removed-put c.args.kept.now c.args.entry c.requires.linked c.requires.happens c.remove.new.self c.drop_item.new.self (ap (λ (t : Seen). t.state) c.remove.ensures) c.drop_item.ensures.lists c.drop_item.ensures.sets
