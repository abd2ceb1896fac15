-- the operands so far are appended
use Rattle.std.proofs.Common.{◌≡◌, ◌++◌, map}
use Rattle.std.specs.Map.Iter.{deref_pair}
use Rattle.dcc_globals.specs.Pieces.{operands_in}
use Rattle.dcc_globals.proofs.operands.push_operands.Given as goal

abbrev pub invariant-loop-at : goal.invariant-loop-at
invariant-loop-at l = l.operands.items ≡ l.fn.operands.items ++ operands_in (map deref_pair l.yielded)
