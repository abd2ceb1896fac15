use Rattle.std.proofs.Common.{take}
use Rattle.std.specs.List.{AllZip}
use Rattle.dcc_heights.specs.Search.{AreHeightsBy}
use Rattle.dcc_heights.proofs.procedures.heights.Given as goal

abbrev pub invariant-loop-proc : goal.invariant-loop-proc
invariant-loop-proc l =
    AllZip (λ proc found. AreHeightsBy l.sizes.by_entry.entries proc found.entries) (take l.proc-index l.proc-items)
    l.at.items
