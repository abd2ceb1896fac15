use Rattle.dcc_divisions.proofs.alike.+is_divided.Given as goal

abbrev pub decreases-is_divided : goal.decreases-is_divided
decreases-is_divided l = l.reach
