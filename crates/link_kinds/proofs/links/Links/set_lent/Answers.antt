use Rattle.std.proofs.Common.{refl, sym, ◌∙◌}
use Rattle.link_kinds.specs.Kept.{seen_of}
use Rattle.link_kinds.specs.Kinds.{with_lent}
use Rattle.link_kinds.proofs.KeptLemmas.{are-live, changes-own, kept-own, kinds-lent, sets-kept}
use Rattle.link_kinds.proofs.KindLemmas.{apart-lent}
use Rattle.link_kinds.proofs.SeenLemmas.{has-seen}
use Rattle.link_kinds.proofs.links.Links.set_lent.Goals as goal

pub sets_of-requires : goal.sets_of-requires
sets_of-requires c = sym (has-seen c.self.inside c.args.self.now c.self.view_is c.args.dir) ∙ c.requires.sets

pub set_lent-requires-clause-live : goal.set_lent-requires-clause-live
set_lent-requires-clause-live c = are-live c.self.inside c.self.invariant c.args.dir c.sets_of.result c.sets_of.ensures

pub set_lent-requires-clause-differ : goal.set_lent-requires-clause-differ
set_lent-requires-clause-differ c = c.self.invariant.distinct c.args.dir c.sets_of.result (sym c.sets_of.ensures)

pub invariant_of-self : goal.invariant_of-self
invariant_of-self c = kept-own c.self.inside c.self.invariant c.args.dir c.sets_of.result c.sets_of.ensures (with_lent c.args.on c.args.item) c.set_lent.new.pool c.set_lent.ensures.others c.set_lent.ensures.lists c.set_lent.ensures.live c.set_lent.ensures.rise (apart-lent c.args.on c.args.item)

pub returns-clause-lists : goal.returns-clause-lists
returns-clause-lists c = changes-own c.self.inside c.self.invariant c.args.dir c.sets_of.result c.sets_of.ensures (with_lent c.args.on c.args.item) c.set_lent.new.pool c.set_lent.ensures.others c.set_lent.ensures.lists c.args.self.now c.self.view_is

pub returns-clause-kinds : goal.returns-clause-kinds
returns-clause-kinds c = kinds-lent c.args.self.now (seen_of (record c.self.inside { pool = c.set_lent.new.pool })) c.args.dir c.args.item c.args.on (returns-clause-lists c)

pub returns-clause-sets : goal.returns-clause-sets
returns-clause-sets c = sets-kept c.self.inside (record c.self.inside { pool = c.set_lent.new.pool }) c.args.self.now c.self.view_is (λ d. refl)
