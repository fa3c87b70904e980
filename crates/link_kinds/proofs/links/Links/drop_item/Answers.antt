use Rattle.std.proofs.Common.{◌≡◌, refl, subst, sym}
use Rattle.set_pool.specs.Sets as pool
use Rattle.link_kinds.specs.Kept.{seen_of}
use Rattle.link_kinds.specs.Kinds.{AreApart}
use Rattle.link_kinds.specs.Seen.{DropsItem, Known, lists_in}
use Rattle.link_kinds.proofs.KindLemmas.{apart-without}
use Rattle.link_kinds.proofs.KeptLemmas.{drops-item, kept-still, sets-kept}
use Rattle.link_kinds.proofs.links.Links.drop_item.Goals as goal

module _ (c : goal.After-remove_everywhere) where
  drops : (seen : Known) → seen_of c.self.inside ≡ seen → DropsItem seen (seen_of (record c.self.inside { pool = c.remove_everywhere.new.self })) c.args.item
  drops seen view_is = drops-item c.self.inside (record c.self.inside { pool = c.remove_everywhere.new.self }) seen view_is (λ d. refl) c.args.item (subst (pool.Drops c.self.inside.pool c.remove_everywhere.new.self) c.get.ensures c.remove_everywhere.ensures.lists)

pub invariant_of-self : goal.invariant_of-self
invariant_of-self c =
    kept-still c.self.inside (record c.self.inside { pool = c.remove_everywhere.new.self }) (seen_of c.self.inside) refl (λ d. refl) c.self.invariant c.remove_everywhere.ensures.live c.remove_everywhere.ensures.rise
    (λ d. subst AreApart (sym (drops c (seen_of c.self.inside) refl d)) (apart-without c.args.item (lists_in (seen_of c.self.inside) d) (c.self.invariant.kinds d)))

pub returns-clause-lists : goal.returns-clause-lists
returns-clause-lists c = drops c c.args.self.now c.self.view_is

pub returns-clause-sets : goal.returns-clause-sets
returns-clause-sets c = sets-kept c.self.inside (record c.self.inside { pool = c.remove_everywhere.new.self }) c.args.self.now c.self.view_is (λ d. refl)
