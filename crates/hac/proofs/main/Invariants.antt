use Rattle.hac.proofs.main.Given as goal

-- the steps are counted in the blank's own ledger
abbrev pub ghosts-run_program : goal.ghosts-run_program
ghosts-run_program a = record { name = a.blank.name; parts = a.blank.parts }
