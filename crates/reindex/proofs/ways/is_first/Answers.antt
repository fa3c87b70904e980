use Rattle.std.proofs.Common.{ap, sym, ◌∙◌}
use Rattle.std.specs.Option.{option_copied}
use Rattle.reindex.proofs.PlaceLemmas.{first-got}
use Rattle.reindex.proofs.ways.is_first.Goals as goal

pub returns-in-Some : goal.returns-in-Some
returns-in-Some c = first-got c.args.places.now c.in-Some.first.now c.args.place (sym c.first.ensures.value ∙ ap option_copied c.in-Some.is) c.requires
