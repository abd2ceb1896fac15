use Rattle.dcc_struct.proofs.loops.Loops.held_by.Given as goal

abbrev pub decreases-loop-at : goal.decreases-loop-at
decreases-loop-at l = l.at
