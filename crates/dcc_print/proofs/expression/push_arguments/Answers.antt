use Rattle.std.proofs.Common.{◌++◌, ap, ◌∙◌, string_bytes}
use Rattle.dcc_c.specs.Written.{written_expr}
use Rattle.dcc_c.specs.Views.{expr_of}
use Rattle.dcc_print.proofs.JoinedLaws.{arguments-joined}
use Rattle.dcc_print.proofs.expression.push_arguments.Goals as goal

pub returns-after-loop-e : goal.returns-after-loop-e
returns-after-loop-e c =
    let old = string_bytes c.args.text.now in
    arguments-joined c.args.arguments.now c.first-item.result c.loop-e.e-index old _ _ c.in-len1-up.len_at_least c.loop-e-test.false
    (c.in_ok-push_expr-in-len1-up.ensures ∙ ap (λ e. old ++ written_expr (expr_of e)) c.first-item.is) c.loop-e.invariant
