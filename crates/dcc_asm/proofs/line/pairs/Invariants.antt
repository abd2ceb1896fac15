use Rattle.std.proofs.Common.{◌≡◌, ◌++◌, length}
use Rattle.dcc_asm.specs.Form.{pairs}
use Rattle.dcc_asm.proofs.line.pairs.Given as goal

-- the bytes of the digits so far, and then those of the digits that are left
abbrev pub invariant-loop-left : goal.invariant-loop-left
invariant-loop-left l = l.bytes.items ++ pairs l.left ≡ pairs l.text

abbrev pub decreases-loop-left : goal.decreases-loop-left
decreases-loop-left l = length l.left
