-- The values so far, and the bytes of the rest of the words.
use Rattle.std.proofs.Common.{◌≡◌, ◌++◌, drop, map}
use Rattle.dcc_ir.specs.Views.{expr_of}
use Rattle.dcc_ir.specs.Passing.{bytes_of}
use Rattle.dcc_simulation.specs.Passed.{argument_params, returned_values}
use Rattle.dcc_lift.specs.KnownProcedures.{procedure_of}
use Rattle.dcc_lift.proofs.procedure.Procedure.returned_values.Given as goal

abbrev pub invariant-loop-index : goal.invariant-loop-index
invariant-loop-index l =
    map expr_of l.values.items ++ bytes_of (argument_params (procedure_of l.self))
    (drop l.index l.self.given_back.items)
    ≡ returned_values (procedure_of l.self)
