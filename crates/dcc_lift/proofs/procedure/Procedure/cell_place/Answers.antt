use Rattle.std.proofs.Common.{arith}
use Rattle.dcc_lift.proofs.KnownLaws.{few_cells}
use Rattle.dcc_lift.proofs.procedure.Procedure.cell_place.Goals as goal

pub overflow_cast-number : goal.overflow_cast-number
overflow_cast-number c = record { fits = omega (arith, few_cells c.args.self.now c.requires) }
