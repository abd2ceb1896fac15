use Rattle.std.proofs.Common.{◌+◌, ◌<◌, ◌∷◌, length, drop, sym, ap, ◌∙◌, arith}
use Rattle.std.proofs.lemmas.List.{at_drop_more}
use Rattle.dcc_prepare.specs.Points.{case_point}
use Rattle.dcc_crun.proofs.moment.case_point.Goals as goal

pub loop-case-preserved : goal.loop-case-preserved
loop-case-preserved c =
    let cases = c.args.cases.now in
    let i = c.loop-case.case-index in
    let n = c.args.n in
    let within : i < length cases = omega arith in
    ap (case_point (drop (i + 1) cases) n) c.case_or-point.ensures
    ∙ sym (at_drop_more (λ l. case_point l n c.loop-case.point) cases i c.case-item.result within
    ∙ ap (λ x. case_point (x ∷ drop (i + 1) cases) n c.loop-case.point) (sym c.case-item.is))
    ∙ c.loop-case.invariant
