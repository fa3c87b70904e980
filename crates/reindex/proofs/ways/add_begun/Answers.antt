use Rattle.std.proofs.Common.{arith}
use Rattle.std.proofs.lemmas.Bool.Decides.{nat_tests}
use Rattle.reindex.proofs.PlaceLemmas.{none-there}
use Rattle.reindex.proofs.ways.add_begun.Goals as goal

pub returns-in-None : goal.returns-in-None
returns-in-None c = none-there c.args.stops.now c.args.place c.args.begun.now.items (grind (arith, nat_tests, c.in-None.ensures.lookup))
