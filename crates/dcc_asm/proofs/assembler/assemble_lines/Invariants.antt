use Rattle.std.proofs.Common.{length}
use Rattle.dcc_asm.specs.Steps.{Reads}
use Rattle.dcc_asm.proofs.assembler.assemble_lines.Given as goal

-- the lines so far give the image, and none of them offends
abbrev pub invariant-loop-left : goal.invariant-loop-left
invariant-loop-left l = Reads l.cpu l.cs l.text l.image.items l.left l.number

abbrev pub decreases-loop-left : goal.decreases-loop-left
decreases-loop-left l = length l.left
