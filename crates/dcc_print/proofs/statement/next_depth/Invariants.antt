use Rattle.std.proofs.Common.{◌≡◌, drop}
use Rattle.dcc_c.specs.Written.{next_depth}
use Rattle.dcc_c.specs.Views.{lines_of}
use Rattle.dcc_print.proofs.statement.next_depth.Given as goal

-- all statements so far are labels
abbrev pub invariant-loop-line : goal.invariant-loop-line
invariant-loop-line l = next_depth l.depth (lines_of (drop l.line-index l.lines)) ≡ next_depth l.depth (lines_of l.lines)
