use Rattle.std.proofs.Common.{◌≡◌, None}
use Rattle.std.specs.Prelude.{not}
use Rattle.dcc_prog.specs.Clean.{is_marked}
use Rattle.dcc_watch.specs.Accesses.{access_of}
use Rattle.dcc_watch.specs.Foul.{first_at}
use Rattle.dcc_watch.proofs.Bytes.{within}
use Rattle.dcc_watch.proofs.places.unwritten_byte.Given as goal

abbrev pub invariant-loop-k : goal.invariant-loop-k
invariant-loop-k l = first_at l.layout (λ offset. not (is_marked l.written offset)) (within (access_of l.access) l.k) ≡ None
