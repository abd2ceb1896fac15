use Rattle.std.proofs.Common.{◌<◌, ◌+◌, map, drop, length, arith}
use Rattle.dcc_ir.specs.Views.{expr_of}
use Rattle.dcc_ir.specs.Passing.{bytes_at_put, bytes_of}
use Rattle.dcc_simulation.specs.Passed.{argument_param, argument_params, returned_values}
use Rattle.dcc_lift.specs.KnownProcedures.{procedure_of}
use Rattle.dcc_lift.proofs.ListLaws.{pass_on}
use Rattle.dcc_lift.proofs.KnownLaws.{returned_below, bytes_more}
use Rattle.dcc_lift.proofs.procedure.Procedure.returned_values.Goals as goal

pub push_argument-requires-clause-number : goal.push_argument-requires-clause-number
push_argument-requires-clause-number c =
    returned_below c.args.self.now c.loop-index.index c.index.result.now c.requires (omega arith) c.index.ensures

pub loop-index-preserved : goal.loop-index-preserved
loop-index-preserved c =
    let p = procedure_of c.args.self.now in
    let numbers = c.args.self.now.given_back.items in
    let index = c.loop-index.index in
    let number = c.index.result.now in
    let inside : index < length numbers = omega arith in
    let below = returned_below c.args.self.now index number c.requires inside c.index.ensures in
    pass_on (map expr_of c.loop-index.values.items) (map expr_of c.push_argument.new.values.items)
    (bytes_at_put number (argument_param p number).put)
    (bytes_of (argument_params p) (drop index numbers)) (bytes_of (argument_params p) (drop (index + 1) numbers))
    (returned_values p)
    c.in_ok-push_argument.ensures (bytes_more p index numbers number inside c.index.ensures below)
    c.loop-index.invariant
