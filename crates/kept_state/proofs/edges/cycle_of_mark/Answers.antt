use Rattle.std.proofs.Common.{sym, ◌∙◌, inl, inr}
use Rattle.kept_state.proofs.ReachLemmas.{mark-none, mark-way}
use Rattle.kept_state.proofs.edges.cycle_of_mark.Goals as goal
use Rattle.kept_state.proofs.edges.cycle_of_mark.Goals.{else-is_permanent-via-then-is_permanent+else-is_directory, else-is_permanent-via-else-is_permanent}

pub returns-then-is_directory : goal.returns-then-is_directory
returns-then-is_directory c = mark-way c.args.kept.now c.args.mark.now c.would_cycle.result c.requires (sym c.is_permanent.ensures ∙ c.if-is_permanent.true) (sym c.is_directory.ensures ∙ c.if-is_directory.true) c.would_cycle.ensures

pub returns-else-is_permanent : goal.returns-else-is_permanent
returns-else-is_permanent c =
    mark-none c.args.kept.now c.args.mark.now (elim c.else-is_permanent.branch [
      | else-is_permanent-via-then-is_permanent+else-is_directory w ↦ inr (sym w.is_directory.ensures ∙ w.if-is_directory.false)
      | else-is_permanent-via-else-is_permanent w ↦ inl (sym c.is_permanent.ensures ∙ w.if-is_permanent.false)
    ])
