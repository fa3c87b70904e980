use Rattle.command_paths.proofs.placing.+trace.Given as goal

abbrev pub decreases-trace : goal.decreases-trace
decreases-trace l = l.links
