-- None of the cells so far has the byte.
use Rattle.std.proofs.Common.{◌≡◌, drop}
use Rattle.dcc_simulation.specs.Procedures.{cell_place, cells_of}
use Rattle.dcc_lift.specs.KnownProcedures.{procedure_of}
use Rattle.dcc_lift.proofs.procedure.Procedure.cell_place.Given as goal

abbrev pub invariant-loop-number : goal.invariant-loop-number
invariant-loop-number l =
    cell_place l.number (drop l.number l.self.cells.items) l.width l.k ≡ cell_place 0 (cells_of (procedure_of l.self))
    l.width l.k
