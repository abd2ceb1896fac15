use Rattle.std.proofs.Common.{◌≤◌, arith}
use Rattle.dcc_text.proofs.Halves.{narrow, twice}
use Rattle.dcc_text.proofs.constant.missing.Goals as goal

pub overflow_shl-width : goal.overflow_shl-width
overflow_shl-width c =
    let few : c.args.width ≤ 32 = narrow c.args.width c.args.n (omega arith) (omega arith) in omega arith

pub overflow_cast-result : goal.overflow_cast-result
overflow_cast-result c = omega (arith, twice c.args.width)
