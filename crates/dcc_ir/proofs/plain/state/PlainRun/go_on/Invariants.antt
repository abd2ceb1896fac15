use Rattle.std.proofs.Common.{◌≡◌, map, drop}
use Rattle.dcc_ir.specs.Views.{stmt_of, graph_of}
use Rattle.dcc_ir.specs.Plain.{state_of}
use Rattle.dcc_ir.specs.Run.{block_step}
use Rattle.dcc_ir.proofs.plain.state.PlainRun.go_on.Given as goal

-- what is left of the block takes the state to where the whole takes the first one
abbrev pub invariant-loop-i : goal.invariant-loop-i
invariant-loop-i l = record {
  left : block_step (map graph_of l.program.graphs.items) l.initial.self.fill (map stmt_of l.stmts) (state_of l.initial.self)
      ≡ block_step (map graph_of l.program.graphs.items) l.initial.self.fill (map stmt_of (drop l.i l.stmts)) (state_of l.self);
  fill : l.self.fill ≡ l.initial.self.fill;
}
