use Rattle.std.proofs.Common.{drop}
use Rattle.hac_model.specs.Tree.{is_directory_at}
use Rattle.snapshots.proofs.BesideLemmas.{AreKept}
use Rattle.snapshots.proofs.loading.Beside.keep_all.Given as goal

-- what the first ones tell is kept
abbrev pub invariant-loop-entry : goal.invariant-loop-entry
invariant-loop-entry l = AreKept (is_directory_at l.entries) l.entries (drop l.entry-index l.entries) l.self
