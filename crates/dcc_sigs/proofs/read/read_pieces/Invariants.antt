use Rattle.dcc_sigs.specs.Steps.{lent_pieces, IsBegun}
use Rattle.dcc_sigs.proofs.read.read_pieces.Given as goal

-- the pieces so far tell what has begun
abbrev pub invariant-loop-place : goal.invariant-loop-place
invariant-loop-place l = IsBegun (lent_pieces l.pieces) l.place l.begun
