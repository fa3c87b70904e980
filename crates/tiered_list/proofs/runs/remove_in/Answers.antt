use Rattle.tiered_list.proofs.EditLemmas.{turned-removes}
use Rattle.tiered_list.proofs.runs.remove_in.Goals as goal

pub returns-clause-numbers : goal.returns-clause-numbers
returns-clause-numbers c = turned-removes c.args.numbers.now c.rotate_left.new.self c.args.place c.args.number c.requires c.rotate_left.ensures.after
