use Rattle.dcc_live.proofs.dead.drop_dead.Given as goal

abbrev pub ghosts-needed_in : goal.ghosts-needed_in
ghosts-needed_in a = record { name = a.blank.name; parts = a.blank.parts }
