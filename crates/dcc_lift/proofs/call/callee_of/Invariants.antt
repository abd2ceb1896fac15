-- None of the procedures so far has that entry.
use Rattle.std.proofs.Common.{◌≡◌, drop, map}
use Rattle.dcc_simulation.specs.Procedures.{procedure_at}
use Rattle.dcc_lift.specs.KnownProcedures.{procedure_of}
use Rattle.dcc_lift.proofs.call.callee_of.Given as goal

abbrev pub invariant-loop-procedure : goal.invariant-loop-procedure
invariant-loop-procedure l =
    procedure_at (map procedure_of (drop l.procedure-index l.procedures)) l.entry ≡ procedure_at
    (map procedure_of l.procedures) l.entry
