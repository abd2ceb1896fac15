use Rattle.std.proofs.Common.{◌≡◌, ◌++◌, take, string_bytes}
use Rattle.std.specs.List.{flat_map}
use Rattle.dcc_c.specs.Written.{written_expr}
use Rattle.dcc_c.specs.Views.{expr_of}
use Rattle.dcc_print.proofs.JoinedLaws.{after_comma}
use Rattle.dcc_print.proofs.expression.push_arguments.Given as goal

abbrev pub invariant-loop-e : goal.invariant-loop-e
invariant-loop-e l =
    string_bytes l.text
    ≡ string_bytes l.initial.text
    ++ flat_map (λ e. after_comma (written_expr (expr_of e))) (take l.e-index l.others)
