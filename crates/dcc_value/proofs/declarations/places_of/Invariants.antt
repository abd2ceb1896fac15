use Rattle.std.proofs.Common.{take}
use Rattle.dcc_value.specs.Evaluation.{names_declared}
use Rattle.dcc_value.specs.Places.{AreFirst}
use Rattle.dcc_value.proofs.declarations.places_of.Given as goal

-- the places of the names so far
abbrev pub invariant-loop-i : goal.invariant-loop-i
invariant-loop-i l = AreFirst l.places (names_declared (take l.i l.list))
