use Rattle.std.proofs.Common.{take, map}
use Rattle.dcc_c.specs.Views.{expr_of}
use Rattle.dcc_value.specs.Resolved.{names_of}
use Rattle.dcc_prepare.specs.Points.{StandAll}
use Rattle.dcc_prepare.proofs.code.resolve_all.Given as goal

-- the expressions so far are resolved
abbrev pub invariant-loop-e : goal.invariant-loop-e
invariant-loop-e l = StandAll (names_of l.names) (map expr_of (take l.e-index l.list)) l.resolved.items
