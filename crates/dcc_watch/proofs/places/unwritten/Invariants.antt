use Rattle.std.proofs.Common.{◌≡◌, None, take}
use Rattle.dcc_watch.specs.Accesses.{accesses_of}
use Rattle.dcc_watch.specs.Foul.{unwritten_in}
use Rattle.dcc_watch.proofs.places.unwritten.Given as goal

abbrev pub invariant-loop-access : goal.invariant-loop-access
invariant-loop-access l = unwritten_in l.layout l.written (accesses_of (take l.access-index l.access-items)) ≡ None
