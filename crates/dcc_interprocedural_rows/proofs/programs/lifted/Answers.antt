use Rattle.std.proofs.Common.{sym, subst}
use Rattle.dcc_prog.specs.Analysed.{IsProgramOf}
use Rattle.dcc_ir.specs.Views.{program_of}
use Rattle.dcc_interprocedural_rows.proofs.programs.lifted.Goals as goal

pub returns : goal.returns
returns c =
    let image = c.in_ok-image.image in
    let program = c.in_ok-program.program in
    let is = c.in_ok-program.ensures.program in
    c.lifted_has_the_form.ensures image program (program_of c.in_ok-lifted.lifted)
    (subst (λ cpu. IsProgramOf cpu image program) (sym is.runs_on) is) c.in_ok-lifted.ensures.lifted.lifted
