use Rattle.std.proofs.Common.{◌≡◌, true, ◌++◌, drop}
use Rattle.dcc_c.specs.Rules.{differ}
use Rattle.dcc_pipe.proofs.allowed.differ.Given as goal

-- those that were seen differ, and with those that are left they are all cases
abbrev pub invariant-loop-case : goal.invariant-loop-case
invariant-loop-case l = (l.seen.keys ++ drop l.case-index l.cases ≡ l.cases) × (differ l.seen.keys ≡ true)
