use Rattle.std.proofs.Common.{◌-◌, length}
use Rattle.dcc_layout.proofs.Scanning.{Scanned}
use Rattle.dcc_layout.proofs.prelude.prelude_of.Given as goal

abbrev pub invariant-loop-instr : goal.invariant-loop-instr
invariant-loop-instr l = Scanned l.cpu l.image l.at l.registers l.prelude

abbrev pub decreases-loop-instr : goal.decreases-loop-instr
decreases-loop-instr l = length l.code - l.at
