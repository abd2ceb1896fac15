use Rattle.std.proofs.Common.{arith}
use Rattle.dcc_crun.proofs.LineLaws.{line_is, procedure_within, point_within}
use Rattle.dcc_crun.proofs.moment.Moment.line.Goals as goal

pub returns-then-number-len : goal.returns-then-number-len
returns-then-number-len c tree points s is_program going =
    let within = procedure_within c.args.program.now c.args.self.now tree points s is_program going in
    absurd (omega (arith, c.args.program.now.procedures.ok.0, c.len.ensures, c.if-number-len.true, within))

pub returns-then-at-len : goal.returns-then-at-len
returns-then-at-len c tree points s is_program going =
    let procedure = c.index-procedure.result.now in
    let within = point_within c.args.program.now c.args.self.now tree points s is_program going procedure c.index-procedure.ensures in
    absurd (omega (arith, procedure.rows.ok.0, c.len-2.ensures, c.if-at-len.true, within))

pub returns : goal.returns
returns c tree points s is_program going =
    let program = c.args.program.now in
    let procedure = c.index-procedure.result.now in
    line_is program c.args.self.now tree points s is_program going procedure c.index-row.result.now c.index-procedure.ensures
    (omega (arith, program.procedures.ok.0, c.len.ensures, c.if-number-len.false)) c.index-row.ensures
    (omega (arith, procedure.rows.ok.0, c.len-2.ensures, c.if-at-len.false))
