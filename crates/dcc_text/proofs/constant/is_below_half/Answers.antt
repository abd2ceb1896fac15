use Rattle.std.proofs.Common.{◌<◌, ◌-◌, ◌^◌, arith, sym, ◌∙◌}
use Rattle.std.proofs.lemmas.Bool.{lt-ltb}
use Rattle.dcc_text.proofs.Halves.{wide_half}
use Rattle.dcc_text.proofs.constant.is_below_half.Goals as goal

pub returns-then-width-gt32 : goal.returns-then-width-gt32
returns-then-width-gt32 c =
    let more : c.args.n < 2 ^ (c.args.width - 1) = wide_half c.args.width c.args.n (omega arith) (omega arith) in
    lt-ltb _ _ c.if-width-gt32.true ∙ sym (lt-ltb _ _ more)
