-- The words so far.
use Rattle.std.proofs.Common.{◌≡◌, map}
use Rattle.std.specs.List.{range_with_len}
use Rattle.dcc_ir.specs.Views.{expr_of}
use Rattle.dcc_simulation.specs.Statements.{argument_value}
use Rattle.dcc_lift.specs.KnownProcedures.{procedure_of}
use Rattle.dcc_lift.proofs.procedure.Procedure.words.Given as goal

abbrev pub invariant-loop-number : goal.invariant-loop-number
invariant-loop-number l =
    map expr_of l.words.items ≡ map (argument_value (procedure_of l.self) l.height) (range_with_len 0 l.number)
