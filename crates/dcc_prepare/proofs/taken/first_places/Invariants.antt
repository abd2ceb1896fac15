use Rattle.std.proofs.Common.{take}
use Rattle.dcc_value.specs.Places.{AreFirst}
use Rattle.dcc_prepare.specs.Taken.{lent_words}
use Rattle.dcc_prepare.proofs.taken.first_places.Given as goal

-- the places of the names so far
abbrev pub invariant-loop-i : goal.invariant-loop-i
invariant-loop-i l = AreFirst l.places (lent_words (take l.i l.names))
