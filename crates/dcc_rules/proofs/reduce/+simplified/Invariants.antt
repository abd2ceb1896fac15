use Rattle.std.proofs.Common.{◌+◌, ◌*◌}
use Rattle.dcc_ir.specs.Views.{expr_of}
use Rattle.dcc_ir.specs.Measure.{nodes_of}
use Rattle.dcc_rules.proofs.reduce.+simplified.Given as goal

abbrev pub decreases-simplified : goal.decreases-simplified
decreases-simplified g l = 2 * nodes_of (expr_of l.e) + 1

abbrev pub decreases-parts_simplified : goal.decreases-parts_simplified
decreases-parts_simplified g l = 2 * nodes_of (expr_of l.e)
