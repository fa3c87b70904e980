use Rattle.hac_trials.proofs.runs.run_on.Given as goal

-- the steps are counted in the blank's own ledger
abbrev pub ghosts-run_counted : goal.ghosts-run_counted
ghosts-run_counted g a = record { name = a.blank.name; parts = a.blank.parts }
