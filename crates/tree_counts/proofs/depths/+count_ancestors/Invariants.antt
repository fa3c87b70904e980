use Rattle.tree_counts.proofs.depths.+count_ancestors.Given as goal

abbrev pub decreases-count_ancestors : goal.decreases-count_ancestors
decreases-count_ancestors l = l.steps
