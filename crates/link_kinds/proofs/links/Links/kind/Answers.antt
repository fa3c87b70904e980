use Rattle.std.proofs.Common.{Some, None, sym, ◌∙◌}
use Rattle.link_kinds.specs.Kinds.{kind_in}
use Rattle.link_kinds.proofs.KeptLemmas.{are-live}
use Rattle.link_kinds.proofs.SeenLemmas.{lists-told, rise-seen}
use Rattle.link_kinds.proofs.links.Links.kind.Goals as goal

pub kind-requires : goal.kind-requires
kind-requires c = are-live c.self.inside c.self.invariant c.args.dir c.in-Some.sets (sym c.in-Some.is ∙ c.sets_at.ensures)

pub returns-in-Some-clause-kind : goal.returns-in-Some-clause-kind
returns-in-Some-clause-kind c = c.kind.ensures ∙ lists-told c.self.inside c.args.self.now c.self.view_is (λ lists. kind_in lists c.args.item) c.args.dir (Some c.in-Some.sets) (sym c.in-Some.is ∙ c.sets_at.ensures)

pub returns-in-Some-clause-rise : goal.returns-in-Some-clause-rise
returns-in-Some-clause-rise c = rise-seen c.self.inside c.args.self.now c.self.view_is c.self.invariant

pub returns-in-None-clause-kind : goal.returns-in-None-clause-kind
returns-in-None-clause-kind c = lists-told c.self.inside c.args.self.now c.self.view_is (λ lists. kind_in lists c.args.item) c.args.dir None (sym c.in-None.is ∙ c.sets_at.ensures)

pub returns-in-None-clause-rise : goal.returns-in-None-clause-rise
returns-in-None-clause-rise c = rise-seen c.self.inside c.args.self.now c.self.view_is c.self.invariant
