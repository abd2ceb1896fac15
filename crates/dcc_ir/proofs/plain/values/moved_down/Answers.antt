use Rattle.dcc_ir.proofs.ShiftLaws.{all_out_down}
use Rattle.std.proofs.Common.{arith}
use Rattle.dcc_ir.proofs.plain.values.moved_down.Goals as goal

pub returns-then-count-ge-ALL_OUT : goal.returns-then-count-ge-ALL_OUT
returns-then-count-ge-ALL_OUT c = all_out_down c.args.a 32 c.args.count (omega arith) (omega arith)
