use Rattle.std.proofs.Common.{◌<◌, ◌-◌, ◌^◌, arith}
use Rattle.std.proofs.lemmas.Bool.Decides.{nat_tests}
use Rattle.dcc_text.proofs.Halves.{wide_half}
use Rattle.dcc_text.proofs.constant.is_half.Goals as goal

pub returns-else-width-le32 : goal.returns-else-width-le32
returns-else-width-le32 c =
    let more : c.args.n < 2 ^ (c.args.width - 1) = wide_half c.args.width c.args.n (omega arith) (omega arith) in
    grind (arith, nat_tests)
