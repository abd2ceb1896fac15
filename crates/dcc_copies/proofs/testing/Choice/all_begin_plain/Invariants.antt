use Rattle.std.proofs.Common.{take}
use Rattle.std.specs.Prelude.{All}
use Rattle.dcc_copies.specs.Choice.{begins_of, BeginPlain}
use Rattle.dcc_copies.proofs.testing.Choice.all_begin_plain.Given as goal

abbrev pub invariant-loop-at : goal.invariant-loop-at
invariant-loop-at l = All (BeginPlain (begins_of l.self)) (take l.at l.places)
