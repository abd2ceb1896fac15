use Rattle.std.proofs.Common.{◌≡◌, None, take}
use Rattle.dcc_watch.specs.Accesses.{accesses_of}
use Rattle.dcc_watch.specs.Foul.{hidden_in}
use Rattle.dcc_watch.proofs.places.hidden.Given as goal

abbrev pub invariant-loop-access : goal.invariant-loop-access
invariant-loop-access l = hidden_in l.layout l.top l.frames.live (accesses_of (take l.access-index l.access-items)) ≡ None
