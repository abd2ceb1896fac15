use Rattle.std.proofs.Common.{◌≡◌, [], map, take, drop}
use Rattle.dcc_c.specs.Kinds.{first_after}
use Rattle.dcc_c.specs.TextOffences.{globals_places}
use Rattle.dcc_reader.specs.PartialViews.{variable_of}
use Rattle.dcc_check.specs.Places.{earlier_of, IsOccupied}
use Rattle.dcc_reader.specs.Told.{told}
use Rattle.dcc_check.proofs.places.tell_globals.Given as goal

-- the variables that are left tell, after those that have been seen, what all variables do
abbrev pub invariant-loop-i : goal.invariant-loop-i
invariant-loop-i l = record {
  held : IsOccupied l.occupied.marks.items l.occupied.complete (earlier_of (map variable_of (take l.i l.globals)));
  tells : first_after (told l.first) (globals_places l.stack.lo l.stack.hi (earlier_of (map variable_of (take l.i l.globals))) (map variable_of (drop l.i l.globals)))
      ≡ first_after (told l.initial.first) (globals_places l.stack.lo l.stack.hi [] (map variable_of l.globals));
}
