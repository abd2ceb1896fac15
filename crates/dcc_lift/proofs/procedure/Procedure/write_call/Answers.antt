use Rattle.std.proofs.Common.{arith}
use Rattle.dcc_lift.proofs.KnownLaws.{few_returned}
use Rattle.dcc_lift.proofs.procedure.Procedure.write_call.Goals as goal

pub overflow_cast-index : goal.overflow_cast-index
overflow_cast-index c = record { fits = omega (arith, few_returned c.args.callee.now c.requires.callee) }

pub take_back-requires-clause-index : goal.take_back-requires-clause-index
take_back-requires-clause-index c = omega (arith, few_returned c.args.callee.now c.requires.callee)
