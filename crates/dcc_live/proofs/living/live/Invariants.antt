use Rattle.dcc_live.proofs.living.live.Given as goal

abbrev pub ghosts-live_bits : goal.ghosts-live_bits
ghosts-live_bits a = record { name = a.blank.name; parts = a.blank.parts }
