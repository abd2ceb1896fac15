use Rattle.std.proofs.Common.{◌≡◌, map}
use Rattle.std.specs.List.{range_with_len}
use Rattle.dcc_simulation.specs.Passed.{argument_param}
use Rattle.dcc_lift.specs.KnownProcedures.{procedure_of}
use Rattle.dcc_lift.proofs.procedure.Procedure.argument_params.Given as goal

abbrev pub invariant-loop-number : goal.invariant-loop-number
invariant-loop-number l = l.params.items ≡ map (argument_param (procedure_of l.self)) (range_with_len 0 l.number)
