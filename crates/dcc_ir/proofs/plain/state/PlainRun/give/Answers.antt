use Rattle.std.proofs.Common.{◌≤◌, ◌∙◌, min, length, sym, arith}
use Rattle.dcc_ir.proofs.PassLaws.{giving_done}
use Rattle.dcc_ir.proofs.plain.state.PlainRun.give.Goals as goal

pub returns-clause-after : goal.returns-clause-after
returns-clause-after c =
    let far : min (length c.args.results.now) (length c.args.values.now) ≤ c.loop-k.k = omega arith in
    sym (c.loop-k.invariant.left ∙ giving_done c.args.results.now c.args.values.now c.loop-k.k _ far)
