use Rattle.std.proofs.Common.{◌≡◌, drop}
use Rattle.dcc_available.specs.Known.{known_of, with_written}
use Rattle.dcc_available.proofs.known.Known.write_all.Given as goal

abbrev pub invariant-loop-place : goal.invariant-loop-place
invariant-loop-place l = with_written (drop l.place-index l.places) (known_of l.self) ≡ with_written l.places (known_of l.initial.self)
