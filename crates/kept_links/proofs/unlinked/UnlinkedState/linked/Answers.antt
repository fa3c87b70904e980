-- Nothing is ready, and the links were found with sets for semantic directories alone.
use Rattle.std.proofs.Common.{refl}
use Rattle.kept_links.proofs.KeepLemmas.{kept-none}
use Rattle.kept_links.proofs.unlinked.UnlinkedState.linked.Goals as goal

pub invariant_of-result : goal.invariant_of-result
invariant_of-result g c = kept-none _ c.self.invariant.ready c.in-Ok.ensures.links c.in-Ok.ensures.sets c.in-Ok.ensures.way c.new.ensures.items refl
