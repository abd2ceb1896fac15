use Rattle.dcc_lift.specs.KnownProcedures.{procedure_of}
use Rattle.dcc_lift.proofs.OpCases.{exit_by_test}
use Rattle.dcc_lift.proofs.procedure.Procedure.end.Goals as goal

pub returns-in_ok-op_test-in_default : goal.returns-in_ok-op_test-in_default
returns-in_ok-op_test-in_default c =
    let is = exit_by_test (procedure_of c.args.self.now) c.args.op c.args.places.items c.in_default.not-Table
    c.in_default.not-Ret in
    cc (c.in_ok-op_test-in_default.ensures, c.end_to.ensures)
