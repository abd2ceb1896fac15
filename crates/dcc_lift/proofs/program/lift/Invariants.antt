-- The graphs so far.
use Rattle.std.proofs.Common.{map}
use Rattle.dcc_ir.specs.Views.{graph_of}
use Rattle.dcc_lift.specs.KnownProcedures.{procedure_of}
use Rattle.dcc_lift.proofs.SceneLaws.{AreGraphsOfFirst}
use Rattle.dcc_lift.proofs.program.lift.Given as goal

abbrev pub invariant-loop-number : goal.invariant-loop-number
invariant-loop-number l =
    AreGraphsOfFirst l.image l.program.layout (map procedure_of l.procedures.items)
    (map (λ found. found.entries) l.program.heights.at.items) l.number (map graph_of l.graphs.items)
