use Rattle.dcc_ir.proofs.ShiftLaws.{all_out_up}
use Rattle.std.proofs.Common.{arith}
use Rattle.dcc_ir.proofs.plain.values.moved_up.Goals as goal

pub returns-then-count-ge-ALL_OUT : goal.returns-then-count-ge-ALL_OUT
returns-then-count-ge-ALL_OUT c = all_out_up c.args.a c.args.width c.args.count (omega (arith, c.in_ok-limit.ensures.narrow))
