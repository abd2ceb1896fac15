-- The cells so far, and those among the rest.
use Rattle.std.proofs.Common.{◌≡◌, ◌++◌, drop, filter, not}
use Rattle.dcc_prog.specs.Analysed.{bytes_of}
use Rattle.dcc_simulation.specs.Procedures.{is_accessed, other_cells}
use Rattle.dcc_lift.proofs.procedure.other_cells.Given as goal

abbrev pub invariant-loop-cell : goal.invariant-loop-cell
invariant-loop-cell l =
    l.cells.items ++ filter (λ cell. not (is_accessed l.proc l.frame (bytes_of cell)))
    (drop l.cell-index l.frame.cells.items)
    ≡ other_cells l.proc l.frame
