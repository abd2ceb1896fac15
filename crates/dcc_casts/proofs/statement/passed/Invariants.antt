use Rattle.std.proofs.Common.{◌≡◌, ◌++◌, List, map, drop}
use Rattle.dcc_c.specs.Typing.{Declared}
use Rattle.dcc_c.specs.Views.{expr_of}
use Rattle.dcc_casts.specs.Casts.{passed}
use Rattle.dcc_casts.specs.Views.{IsKnown}
use Rattle.dcc_casts.proofs.statement.passed.Given as goal

-- with the arguments that are left, all are passed
abbrev pub invariant-loop-i : goal.invariant-loop-i
invariant-loop-i l = (ds : List Declared) → IsKnown l.names ds →
    map expr_of l.after.items ++ passed ds (drop l.i l.types) (map expr_of (drop l.i l.es)) ≡ passed ds l.types (map expr_of l.es)
