use Rattle.std.proofs.Common.{Some, None, length, refl, sym, ◌∙◌, ◌≡◌}
use Rattle.hac_model.specs.declared.marks.Kind.{Kind}
use Rattle.hac_model.specs.declared.marks.Kind.TheVariants.{Transient, Permanent, Prohibited, Unlinked}
use Rattle.link_kinds.specs.Kinds.{items_of, no_lists}
use Rattle.link_kinds.proofs.KeptLemmas.{are-live}
use Rattle.link_kinds.proofs.SeenLemmas.{lists-told}
use Rattle.link_kinds.proofs.links.Links.count.Goals as goal

pub count-requires : goal.count-requires
count-requires c = are-live c.self.inside c.self.invariant c.args.dir c.in-Some.sets (sym c.in-Some.is ∙ c.sets_at.ensures)

pub returns-in-Some : goal.returns-in-Some
returns-in-Some c = c.count.ensures ∙ lists-told c.self.inside c.args.self.now c.self.view_is (λ lists. length (items_of c.args.kind lists)) c.args.dir (Some c.in-Some.sets) (sym c.in-Some.is ∙ c.sets_at.ensures)

pub returns-in-None : goal.returns-in-None
returns-in-None c = sym (none c.args.kind) ∙ lists-told c.self.inside c.args.self.now c.self.view_is (λ lists. length (items_of c.args.kind lists)) c.args.dir None (sym c.in-None.is ∙ c.sets_at.ensures)
  where
    none : (k : Kind) → length (items_of k no_lists) ≡ 0
    none Transient = refl
    none Permanent = refl
    none Prohibited = refl
    none Unlinked = refl
