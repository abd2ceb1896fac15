use Rattle.std.proofs.Common.{◌≡◌, drop, map}
use Rattle.dcc_ir.specs.Views.{stmt_of}
use Rattle.dcc_modref.specs.States.{state_of, told_in, after_all}
use Rattle.dcc_modref.proofs.state.State.pass_all.Given as goal

abbrev pub invariant-loop-stmt : goal.invariant-loop-stmt
invariant-loop-stmt l = after_all (told_in l.subject.changed.now) l.subject.graph.now.pushed l.subject.location (map stmt_of (drop l.stmt-index l.stmts)) (state_of l.self)
    ≡ after_all (told_in l.subject.changed.now) l.subject.graph.now.pushed l.subject.location (map stmt_of l.stmts) (state_of l.initial.self)
