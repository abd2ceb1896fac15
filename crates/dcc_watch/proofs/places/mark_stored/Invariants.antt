use Rattle.std.proofs.Common.{◌≡◌, take}
use Rattle.dcc_watch.specs.Accesses.{accesses_of}
use Rattle.dcc_watch.specs.Foul.{touched}
use Rattle.dcc_watch.proofs.Stored.{is_storing}
use Rattle.dcc_watch.proofs.Bytes.{marked_at}
use Rattle.dcc_watch.proofs.places.mark_stored.Given as goal

abbrev pub invariant-loop-access : goal.invariant-loop-access
invariant-loop-access l =
    l.written ≡ marked_at l.layout (touched is_storing (accesses_of (take l.access-index l.access-items))) l.initial.written
