-- What is written, and what takes the rest of the words back.
use Rattle.std.proofs.Common.{◌≡◌, ◌++◌, drop, Some}
use Rattle.dcc_ops.specs.Writing.{written}
use Rattle.dcc_simulation.specs.Statements.{taking_all_back, calling}
use Rattle.dcc_lift.specs.KnownProcedures.{procedure_of}
use Rattle.dcc_lift.proofs.procedure.Procedure.write_call.Given as goal

abbrev pub invariant-loop-index : goal.invariant-loop-index
invariant-loop-index l =
    written l.writer ++ taking_all_back (procedure_of l.self) l.height l.index
    (drop l.index l.callee.given_back.items)
    ≡ written l.fn.writer ++ calling (procedure_of l.self) l.height (Some (procedure_of l.callee))
