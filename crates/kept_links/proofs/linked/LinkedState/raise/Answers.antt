use Rattle.std.proofs.Common.{refl}
use Rattle.kept_links.proofs.KeepLemmas.{kept-raised}
use Rattle.kept_links.proofs.linked.LinkedState.raise.Goals as goal

pub invariant_of-self : goal.invariant_of-self
invariant_of-self c =
    kept-raised c.self.inside.kept.state _ c.raise.ensures c.drop_plain.ensures.links c.drop_plain.ensures.sets c.self.invariant.way c.clear.ensures.items refl
