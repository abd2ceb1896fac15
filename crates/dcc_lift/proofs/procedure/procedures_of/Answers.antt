use Rattle.std.proofs.Common.{◌≤◌, ◌∙◌, ap, sym, ◌++◌, map, min, length, arith}
use Rattle.std.proofs.lemmas.List.{append-nil}
use Rattle.dcc_lift.specs.KnownProcedures.{procedure_of}
use Rattle.dcc_lift.proofs.ProcedureLaws.{all_taken}
use Rattle.dcc_lift.proofs.procedure.procedures_of.Goals as goal

pub returns-clause-procedures : goal.returns-clause-procedures
returns-clause-procedures c =
    let done = map procedure_of c.loop-number.procedures.items in
    let procs = c.args.procs.now.items in
    let frames = c.args.cells.now.frames.items in
    let past : min (length procs) (length frames) ≤ c.loop-number.number = omega arith in
    sym (append-nil done)
    ∙ ap (λ rest. done ++ rest) (sym (all_taken c.args.layout.now c.loop-number.number procs frames past))
    ∙ c.loop-number.invariant.1
