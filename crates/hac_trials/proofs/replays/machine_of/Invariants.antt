use Rattle.hac_trials.proofs.replays.machine_of.Given as goal

-- the steps are counted in the blank's own ledger
abbrev pub ghosts-machine_counted : goal.ghosts-machine_counted
ghosts-machine_counted a = record { name = a.blank.name; parts = a.blank.parts }
