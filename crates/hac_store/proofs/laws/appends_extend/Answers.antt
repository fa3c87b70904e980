use Rattle.hac_store.proofs.HeldLemmas.{held-overlaid, held-valid}
use Rattle.hac_store.proofs.StoredLemmas.{one-stored}
use Rattle.std.proofs.Common.{[], ◌∷◌}
use Rattle.hac_store.proofs.laws.appends_extend.Goals as goal

pub returns : goal.returns
returns c file setting event is kept happens room =
    held-overlaid file setting (event ∷ []) is (one-stored setting.state event (held-valid file setting is) kept happens)
