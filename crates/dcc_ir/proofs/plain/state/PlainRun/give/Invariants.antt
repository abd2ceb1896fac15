use Rattle.std.proofs.Common.{◌≡◌, drop}
use Rattle.dcc_ir.specs.Plain.{state_of}
use Rattle.dcc_ir.specs.Run.{giving}
use Rattle.dcc_ir.proofs.plain.state.PlainRun.give.Given as goal

-- what is left to give takes the state to where giving all takes the first one
abbrev pub invariant-loop-k : goal.invariant-loop-k
invariant-loop-k l = record {
  left : giving l.results l.values (state_of l.initial.self) ≡ giving (drop l.k l.results) (drop l.k l.values) (state_of l.self);
  fill : l.self.fill ≡ l.initial.self.fill;
}
