use Rattle.std.proofs.Common.{take}
use Rattle.std.specs.Prelude.{All}
use Rattle.dcc_ir.specs.Views.{program_of}
use Rattle.dcc_summaries.proofs.FaultLaws.{IsNot}
use Rattle.dcc_summaries.proofs.backwards.Found.reused.Given as goal

abbrev pub invariant-loop-port : goal.invariant-loop-port
invariant-loop-port l = All (IsNot (program_of l.p) l.self) (take l.port-index l.self.calls.items)
