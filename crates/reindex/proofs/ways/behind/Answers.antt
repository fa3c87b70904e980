use Rattle.std.proofs.Common.{sym, ◌∙◌}
use Rattle.reindex.proofs.PlaceLemmas.{behind-rise, taken-same}
use Rattle.reindex.proofs.ways.behind.Goals as goal

pub returns-then-is_first-clause-same : goal.returns-then-is_first-clause-same
returns-then-is_first-clause-same c = taken-same c.args.place c.args.places.now c.requires (sym c.is_first.ensures ∙ c.if-is_first.true)

pub returns-else-is_first-clause-rise : goal.returns-else-is_first-clause-rise
returns-else-is_first-clause-rise c = behind-rise c.args.place c.args.places.now c.requires (sym c.is_first.ensures ∙ c.if-is_first.false)
