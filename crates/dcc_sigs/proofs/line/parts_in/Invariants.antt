use Rattle.std.proofs.Common.{◌≡◌, ◌++◌, length, All}
use Rattle.dcc_sigs.specs.Signature.{IsPart}
use Rattle.dcc_sigs.specs.Reading.{parts_in}
use Rattle.dcc_sigs.proofs.line.parts_in.Given as goal

-- the parts so far, and then those of the bytes that are left
abbrev pub invariant-loop-left : goal.invariant-loop-left
invariant-loop-left l = (l.parts.items ++ parts_in l.left ≡ parts_in l.text) × All IsPart l.parts.items

abbrev pub decreases-loop-left : goal.decreases-loop-left
decreases-loop-left l = length l.left
