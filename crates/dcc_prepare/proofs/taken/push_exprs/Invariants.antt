use Rattle.std.proofs.Common.{◌≡◌, ◌++◌, map, drop}
use Rattle.dcc_c.specs.Views.{expr_of}
use Rattle.dcc_prepare.specs.Taken.{lent_words, exprs_taken}
use Rattle.dcc_prepare.proofs.taken.push_exprs.Given as goal

-- with the expressions that are left, all are there
abbrev pub invariant-loop-e : goal.invariant-loop-e
invariant-loop-e l =
    lent_words l.names.items ++ exprs_taken (map expr_of (drop l.e-index l.list))
    ≡ lent_words l.initial.names.items ++ exprs_taken (map expr_of l.list)
