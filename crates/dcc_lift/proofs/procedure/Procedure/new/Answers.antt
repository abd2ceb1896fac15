use Rattle.std.proofs.Common.{◌≡◌, ap, length, arith}
use Rattle.dcc_simulation.specs.Procedures.{accessed_cells}
use Rattle.dcc_lift.proofs.KnownLaws.{few_accessed}
use Rattle.dcc_lift.proofs.procedure.Procedure.new.Goals as goal

pub overflow_cast-pushed : goal.overflow_cast-pushed
overflow_cast-pushed c =
    let few = few_accessed c.args.proc.now c.args.frame.now c.requires.few_cells in
    let same : length c.in_ok-cells.cells.items ≡ length (accessed_cells c.args.proc.now c.args.frame.now) =
    ap length c.in_ok-cells.ensures in
    record { fits = omega arith }
