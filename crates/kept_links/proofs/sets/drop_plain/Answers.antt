use Rattle.std.proofs.Common.{ℕ, subst}
use Rattle.std.specs.Prelude.{Option}
use Rattle.kept_links.specs.Kept.{AreSetsFew}
use Rattle.kept_links.proofs.SetLemmas.{few-asked}
use Rattle.kept_links.proofs.sets.drop_plain.Goals as goal

pub drop_at-requires-clause-sets : goal.drop_at-requires-clause-sets
drop_at-requires-clause-sets c = subst (λ (begun : Option ℕ). AreSetsFew c.args.kept.now.state begun c.args.found.now) c.in-Some.is c.requires.sets

pub returns-in-None-clause-sets : goal.returns-in-None-clause-sets
returns-in-None-clause-sets c =
    few-asked c.args.kept.now.state c.args.found.now (subst (λ (begun : Option ℕ). AreSetsFew c.args.kept.now.state begun c.args.found.now) c.in-None.is c.requires.sets)
