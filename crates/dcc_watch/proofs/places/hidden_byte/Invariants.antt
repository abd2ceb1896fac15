use Rattle.std.proofs.Common.{◌≡◌, None}
use Rattle.std.specs.Prelude.{not}
use Rattle.dcc_watch.specs.Shapes.{exposed_in}
use Rattle.dcc_watch.specs.Accesses.{access_of}
use Rattle.dcc_watch.specs.Foul.{first_at}
use Rattle.dcc_watch.proofs.Bytes.{within}
use Rattle.dcc_watch.proofs.places.hidden_byte.Given as goal

abbrev pub invariant-loop-k : goal.invariant-loop-k
invariant-loop-k l = first_at l.layout (λ offset. not (exposed_in l.top l.frames.live offset)) (within (access_of l.access) l.k) ≡ None
