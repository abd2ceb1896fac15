use Rattle.std.proofs.Common.{◌≡◌, drop}
use Rattle.dcc_prepare.specs.Points.{case_point}
use Rattle.dcc_crun.proofs.moment.case_point.Given as goal

-- with the cases that are left, the point is found
abbrev pub invariant-loop-case : goal.invariant-loop-case
invariant-loop-case l = case_point (drop l.case-index l.cases) l.n l.point ≡ case_point l.cases l.n l.initial.point
