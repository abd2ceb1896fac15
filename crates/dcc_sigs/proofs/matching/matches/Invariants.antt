use Rattle.std.proofs.Common.{◌≡◌, length}
use Rattle.dcc_sigs.specs.Recognised.{matches}
use Rattle.dcc_sigs.proofs.matching.matches.Given as goal

-- the parts match the code where those that are left match the bytes that are left
abbrev pub invariant-loop-left : goal.invariant-loop-left
invariant-loop-left l = matches l.left l.bytes ≡ matches l.parts l.code

abbrev pub decreases-loop-left : goal.decreases-loop-left
decreases-loop-left l = length l.left
