use Rattle.dcc_struct.proofs.exits.Exits.may_break.Given as goal

abbrev pub decreases-loop-at : goal.decreases-loop-at
decreases-loop-at l = l.at
