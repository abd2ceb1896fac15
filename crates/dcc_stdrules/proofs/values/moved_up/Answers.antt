use Rattle.dcc_ir.proofs.ShiftLaws.{all_out_up}
use Rattle.std.proofs.Common.{arith}
use Rattle.dcc_stdrules.proofs.values.moved_up.Goals as goal

pub returns-then-count-ge-ALL_OUT-clause-value : goal.returns-then-count-ge-ALL_OUT-clause-value
returns-then-count-ge-ALL_OUT-clause-value c = all_out_up c.args.a c.args.width c.args.count (omega (arith, c.in_ok-limit.ensures.narrow))
