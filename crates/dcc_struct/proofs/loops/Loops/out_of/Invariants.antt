use Rattle.std.proofs.Common.{ℕ, suc, Option, Some, None}
use Rattle.dcc_struct.proofs.loops.Loops.out_of.Given as goal

-- how far a loop may still be from none
abbrev height : Option ℕ → ℕ
height None = 0
height (Some header) = suc header

abbrev pub decreases-loop-here : goal.decreases-loop-here
decreases-loop-here l = height l.here
