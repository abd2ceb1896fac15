use Rattle.std.proofs.Common.{◌≡◌, drop}
use Rattle.dcc_ir.specs.Plain.{state_of}
use Rattle.dcc_ir.specs.Run.{passing}
use Rattle.dcc_ir.proofs.plain.state.PlainRun.pass.Given as goal

-- what is left to pass takes the state to where passing all takes the first one
abbrev pub invariant-loop-j : goal.invariant-loop-j
invariant-loop-j l = record {
  left : passing 0 l.params l.arguments (state_of l.initial.self) ≡ passing l.j (drop l.j l.params) (drop l.j l.arguments) (state_of l.self);
  fill : l.self.fill ≡ l.initial.self.fill;
}
