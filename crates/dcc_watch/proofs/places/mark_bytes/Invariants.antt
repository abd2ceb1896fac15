use Rattle.std.proofs.Common.{◌≡◌}
use Rattle.dcc_watch.specs.Accesses.{access_of}
use Rattle.dcc_watch.proofs.Bytes.{within, marked_at}
use Rattle.dcc_watch.proofs.places.mark_bytes.Given as goal

abbrev pub invariant-loop-k : goal.invariant-loop-k
invariant-loop-k l = l.written ≡ marked_at l.layout (within (access_of l.access) l.k) l.initial.written
