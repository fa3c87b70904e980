use Rattle.std.proofs.Common.{Some, None, sym, ◌∙◌}
use Rattle.set_pool.specs.Rising.{is_among}
use Rattle.link_kinds.proofs.KeptLemmas.{are-live}
use Rattle.link_kinds.proofs.SeenLemmas.{lists-told}
use Rattle.link_kinds.proofs.links.Links.lent.Goals as goal

pub lent-requires : goal.lent-requires
lent-requires c = are-live c.self.inside c.self.invariant c.args.dir c.in-Some.sets (sym c.in-Some.is ∙ c.sets_at.ensures)

pub returns-in-Some : goal.returns-in-Some
returns-in-Some c = c.lent.ensures ∙ lists-told c.self.inside c.args.self.now c.self.view_is (λ lists. is_among c.args.item lists.lent) c.args.dir (Some c.in-Some.sets) (sym c.in-Some.is ∙ c.sets_at.ensures)

pub returns-in-None : goal.returns-in-None
returns-in-None c = lists-told c.self.inside c.args.self.now c.self.view_is (λ lists. is_among c.args.item lists.lent) c.args.dir None (sym c.in-None.is ∙ c.sets_at.ensures)
