use Rattle.std.proofs.Common.{refl, sym, ◌∙◌}
use Rattle.link_kinds.specs.Kept.{seen_of}
use Rattle.link_kinds.specs.Kinds.{with_kind}
use Rattle.link_kinds.proofs.KeptLemmas.{are-live, changes-own, kept-own, kinds-set, sets-kept}
use Rattle.link_kinds.proofs.KindLemmas.{apart-with}
use Rattle.link_kinds.proofs.SeenLemmas.{has-seen}
use Rattle.link_kinds.proofs.links.Links.set_kind.Goals as goal

pub sets_of-requires : goal.sets_of-requires
sets_of-requires c = sym (has-seen c.self.inside c.args.self.now c.self.view_is c.args.dir) ∙ c.requires.sets

pub set_kind-requires-clause-live : goal.set_kind-requires-clause-live
set_kind-requires-clause-live c = are-live c.self.inside c.self.invariant c.args.dir c.sets_of.result c.sets_of.ensures

pub set_kind-requires-clause-differ : goal.set_kind-requires-clause-differ
set_kind-requires-clause-differ c = c.self.invariant.distinct c.args.dir c.sets_of.result (sym c.sets_of.ensures)

pub invariant_of-self : goal.invariant_of-self
invariant_of-self c = kept-own c.self.inside c.self.invariant c.args.dir c.sets_of.result c.sets_of.ensures (with_kind c.args.kind c.args.item) c.set_kind.new.pool c.set_kind.ensures.others c.set_kind.ensures.lists c.set_kind.ensures.live c.set_kind.ensures.rise (apart-with c.args.kind c.args.item)

pub returns-clause-lists : goal.returns-clause-lists
returns-clause-lists c = changes-own c.self.inside c.self.invariant c.args.dir c.sets_of.result c.sets_of.ensures (with_kind c.args.kind c.args.item) c.set_kind.new.pool c.set_kind.ensures.others c.set_kind.ensures.lists c.args.self.now c.self.view_is

pub returns-clause-kind : goal.returns-clause-kind
returns-clause-kind c = kinds-set c.args.self.now (seen_of (record c.self.inside { pool = c.set_kind.new.pool })) c.args.dir c.args.item c.args.kind (returns-clause-lists c)

pub returns-clause-sets : goal.returns-clause-sets
returns-clause-sets c = sets-kept c.self.inside (record c.self.inside { pool = c.set_kind.new.pool }) c.args.self.now c.self.view_is (λ d. refl)
