use Rattle.std.proofs.Common.{◌≤◌, ◌∙◌, min, length, sym, arith}
use Rattle.dcc_ir.proofs.PassLaws.{passing_done}
use Rattle.dcc_ir.proofs.plain.state.PlainRun.pass.Goals as goal

pub returns-clause-after : goal.returns-clause-after
returns-clause-after c =
    let far : min (length c.args.params.now) (length c.args.arguments.now) ≤ c.loop-j.j = omega arith in
    sym (c.loop-j.invariant.left ∙ passing_done c.args.params.now c.args.arguments.now c.loop-j.j _ far)
