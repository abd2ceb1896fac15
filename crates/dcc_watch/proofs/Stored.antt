-- The accesses that store.
use Rattle.std.proofs.Common.{Bool}
use Rattle.std.specs.Prelude.{not}
use Rattle.dcc_machine.specs.Access.{Access}
use Rattle.dcc_prog.specs.Clean.{is_reading}

abbrev pub is_storing : Access → Bool
is_storing access = not (is_reading access)
