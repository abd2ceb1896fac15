use Rattle.std.proofs.Common.{take}
use Rattle.dcc_heights.specs.Removed.{AreSizes}
use Rattle.dcc_heights.proofs.removed.sizes_of.Given as goal

abbrev pub invariant-loop-proc : goal.invariant-loop-proc
invariant-loop-proc l = AreSizes (take l.proc-index l.procs) l.in_order.items l.by_entry.entries
