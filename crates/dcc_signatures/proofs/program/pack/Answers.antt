use Rattle.std.proofs.Common.{sym, ap, subst}
use Rattle.dcc_ir.specs.Views.{program_of}
use Rattle.dcc_sums.specs.Localised.{summary_at}
use Rattle.dcc_sums.specs.Laws.{IsKeptBy}
use Rattle.dcc_signatures.specs.Laws.{PassesAtMostOne}
use Rattle.dcc_signatures.proofs.PackLaws.{packed-keeps}
use Rattle.dcc_signatures.proofs.GiveLaws.{packed-passes_one}
use Rattle.dcc_signatures.proofs.program.pack.Goals as goal

pub returns-clause-keeps : goal.returns-clause-keeps
returns-clause-keeps c sums formed one =
    let p = program_of c.args.p in
    let same = ap (λ graphs. record p { graphs = graphs }) c.in_ok-graphs.ensures in
    subst (IsKeptBy p) (sym same) (packed-keeps p sums formed one)

pub returns-clause-one : goal.returns-clause-one
returns-clause-one c sums formed one =
    let p = program_of c.args.p in
    let same = ap (λ graphs. record p { graphs = graphs }) c.in_ok-graphs.ensures in
    subst (PassesAtMostOne (summary_at p.graphs sums)) (sym same) (packed-passes_one p sums formed one)
