use Rattle.hac_trials.proofs.replays.happen.Given as goal

-- the steps are counted in the blank's own ledger
abbrev pub ghosts-happen_counted : goal.ghosts-happen_counted
ghosts-happen_counted a = record { name = a.blank.name; parts = a.blank.parts }
