use Rattle.std.proofs.Common.{◌≡◌, take}
use Rattle.dcc_globals.specs.Pieces.{operands_of}
use Rattle.dcc_globals.proofs.operands.operands.Given as goal

abbrev pub invariant-loop-proc : goal.invariant-loop-proc
invariant-loop-proc l = l.operands.items ≡ operands_of (take l.proc-index l.procs)
