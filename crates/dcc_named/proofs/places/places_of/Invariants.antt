use Rattle.std.proofs.Common.{◌≡◌, ℕ, map, drop}
use Rattle.dcc_c.specs.Views.{global_of}
use Rattle.dcc_check.specs.Declarations.{first_found}
use Rattle.dcc_named.specs.Named.{begins_at}
use Rattle.dcc_named.specs.Views.{placed}
use Rattle.dcc_named.proofs.places.places_of.Given as goal

-- with the global variables that are left, all are there
abbrev pub invariant-loop-g : goal.invariant-loop-g
invariant-loop-g l = (at : ℕ) → first_found (placed l.places at) (begins_at (map global_of (drop l.g-index l.globals)) at) ≡ begins_at (map global_of l.globals) at
