use Rattle.std.proofs.Common.{ap}
use Rattle.set_pool.specs.Sets.{Sets, list_of}
use Rattle.link_kinds.proofs.KeptLemmas.{kept-new}
use Rattle.link_kinds.proofs.links.Links.new.Goals as goal

pub invariant_of-result : goal.invariant_of-result
invariant_of-result c = kept-new (record { dirs = c.new.result; pool = c.new-2.result }) c.new.ensures.empty (λ set. ap (λ (pool : Sets). list_of pool set) c.new-2.ensures)
