use Rattle.std.proofs.Common.{◌≡◌, ◌+◌, sym, ap, ◌∙◌, arith}
use Rattle.std.proofs.lemmas.Result.{IfOk-weaker}
use Rattle.dcc_c.specs.Written.{written_depth}
use Rattle.dcc_c.specs.Numbered.{rows}
use Rattle.dcc_print.proofs.CountedRows.{pragma-none, pragma-one}
use Rattle.dcc_print.proofs.numbering.after_pragma.Goals as goal

pub returns-then-depth-next : goal.returns-then-depth-next
returns-then-depth-next c =
    let none : rows (written_depth c.args.depth c.args.next) ≡ 0 = pragma-none c.args.depth c.args.next c.if-depth-next.true in
    omega (arith, none)

pub returns-else-depth-next : goal.returns-else-depth-next
returns-else-depth-next c =
    let small = c.ranges.next.fits in
    let one : rows (written_depth c.args.depth c.args.next) ≡ 1 = pragma-one c.args.depth c.args.next c.if-depth-next.false (omega (arith, small)) in
    IfOk-weaker c.further.result _ _ (λ n is. is ∙ ap (λ m. c.args.line + m) (sym one)) c.further.ensures
