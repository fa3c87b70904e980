use Rattle.std.proofs.Common.{sym}
use Rattle.tree_answers.proofs.NumberingLemmas.{searched-at, searched-none}
use Rattle.tree_answers.proofs.numbering.listed_with.Goals as goal

pub returns-in-Ok : goal.returns-in-Ok
returns-in-Ok c =
    sym (searched-at c.args.list.now c.args.numbers.now c.args.name.now c.in-Ok.at c.index-numbers-at.result c.requires.list.rising c.in-Ok.ensures.bound c.requires.even c.in-Ok.ensures.position c.index-numbers-at.is)

pub returns-in-Err : goal.returns-in-Err
returns-in-Err c = sym (searched-none c.args.list.now c.args.numbers.now c.args.name.now c.in-Err.field-0 c.requires.list.rising c.in-Err.ensures.position)
