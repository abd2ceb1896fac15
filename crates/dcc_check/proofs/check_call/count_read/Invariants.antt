use Rattle.std.proofs.Common.{◌≡◌, ◌≤◌, ◌+◌, map, drop}
use Rattle.dcc_c.specs.Offences.{count_read}
use Rattle.dcc_reader.specs.PartialViews.{expr_of}
use Rattle.dcc_check.proofs.check_call.count_read.Given as goal

-- with the arguments that are left, the count is that of all
abbrev pub invariant-loop-e : goal.invariant-loop-e
invariant-loop-e l = (l.count ≤ l.e-index) × (l.count + count_read (map expr_of (drop l.e-index l.arguments)) ≡ count_read (map expr_of l.arguments))
