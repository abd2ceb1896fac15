-- The procedures so far are known, and they and the rest are all.
use Rattle.std.proofs.Common.{◌≡◌, ◌++◌, drop, map}
use Rattle.dcc_simulation.specs.Procedures.{procedures_of}
use Rattle.dcc_lift.specs.KnownProcedures.{procedure_of, KnowsProcedures}
use Rattle.dcc_lift.proofs.procedure.procedures_of.Given as goal

abbrev pub invariant-loop-number : goal.invariant-loop-number
invariant-loop-number l =
    KnowsProcedures l.procedures.items
    × (map procedure_of l.procedures.items ++ procedures_of l.layout (drop l.number l.procs.items)
    (drop l.number l.cells.frames.items)
    ≡ procedures_of l.layout l.procs.items l.cells.frames.items)
