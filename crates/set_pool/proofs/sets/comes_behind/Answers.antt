use Rattle.std.proofs.Common.{ap, not, sym, ◌∙◌}
use Rattle.std.proofs.lemmas.Bool.{leb-false, leb-true}
use Rattle.set_pool.proofs.RisingLemmas.{rises-left, rises-right}
use Rattle.set_pool.proofs.SetLemmas.{above-first, above-none, below-first, below-none, none-is}
use Rattle.set_pool.proofs.sets.comes_behind.Goals as goal

pub first_from-requires : goal.first_from-requires
first_from-requires c = rises-right c.args.low.now c.args.high.now c.requires

pub first_from-requires-in-None : goal.first_from-requires-in-None
first_from-requires-in-None c = rises-left c.args.low.now c.args.high.now c.requires

pub returns-in-Some-clause-above : goal.returns-in-Some-clause-above
returns-in-Some-clause-above c = λ is.
    below-first c.args.value c.in-Some.first c.args.low.now c.args.high.now c.requires (sym c.first_from.ensures ∙ c.in-Some.is) (leb-true c.in-Some.first c.args.value is)

pub returns-in-Some-clause-below : goal.returns-in-Some-clause-below
returns-in-Some-clause-below c = λ is.
    above-first c.args.value c.in-Some.first c.args.high.now (rises-right c.args.low.now c.args.high.now c.requires) (sym c.first_from.ensures ∙ c.in-Some.is) (leb-false c.in-Some.first c.args.value is)

pub returns-in-None-clause-above : goal.returns-in-None-clause-above
returns-in-None-clause-above c = λ is. below-none c.args.value c.args.low.now (sym c.first_from-in-None.ensures ∙ none-is c.first_from-in-None.result (c.is_none.ensures ∙ ap not is))

pub returns-in-None-clause-below : goal.returns-in-None-clause-below
returns-in-None-clause-below c = λ is. above-none c.args.value c.args.high.now (sym c.first_from.ensures ∙ c.in-None.is)
