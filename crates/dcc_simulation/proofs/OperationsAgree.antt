-- The statements of an operation that leaves SP lead to the next instruction.
use Rattle.std.proofs.Common.{true, Some, refl, sym, ap, subst, arith}
use Rattle.dcc_run.specs.End.{is_over}
use Rattle.dcc_machine.specs.Step.{op_step, step}
use Rattle.dcc_machine.specs.Successors.{next_of}
use Rattle.dcc_machine.specs.Access.{found_accesses}
use Rattle.dcc_prog.specs.Clean.{top_in, with_marks, stored_bytes}
use Rattle.dcc_stack.proofs.TableSteps.{IsStepOf, step-of}
use Rattle.dcc_ir.specs.Run.{execute}
use Rattle.dcc_ops.specs.Statements.{op_stmts}
use Rattle.dcc_ops.proofs.PerformedLaws.{performed}
use Rattle.dcc_simulation.specs.Laws.{Within, OperationsAgree}
use Rattle.dcc_simulation.proofs.Coupling.{coupled}
use Rattle.dcc_simulation.proofs.StepsAgree.{none-rises, steps-agree}

pub operations-agree : OperationsAgree
operations-agree e s stack instr t number p q is apart stays stands before =
    steps-agree e s stack instr t (execute (op_stmts e.program.layout.cpu instr.op number p q) t) is apart before
    (subst (λ l. Within is l (step e.program.layout.cpu s) (execute (op_stmts e.program.layout.cpu instr.op number p
    q) t))
    (sym (none-rises (top_in e.program.layout s) (top_in e.program.layout (step e.program.layout.cpu s))
    (with_marks true (stored_bytes e.program.layout (found_accesses (Some instr) s)) stack.written)
    (omega (arith, stays))))
    (subst (λ u. Within is
    (with_marks true (stored_bytes e.program.layout (found_accesses (Some instr) s)) stack.written) u
    (execute (op_stmts e.program.layout.cpu instr.op number p q) t)) (sym taken.is) done))
  where
    taken : IsStepOf e.image e.program.layout is.of_file.loaded s.ip instr s
    taken =
        step-of e.image e.program.layout is.of_file.loaded s.ip s instr is.stands.segments.state refl
        (ap is_over before.goes) is.stands.segments.code is.found

    done : Within is
        (with_marks true (stored_bytes e.program.layout (found_accesses (Some instr) s)) stack.written)
        (op_step e.program.layout.cpu instr.op s.ip (record s { ip = next_of s.ip instr }))
        (execute (op_stmts e.program.layout.cpu instr.op number p q) t)
    done =
        let here = coupled e is.stands.newest is.stands.callers stack.written in
        performed (Within is stack.written)
        (Within is
        (with_marks true (stored_bytes e.program.layout (found_accesses (Some instr) s)) stack.written)) here
        (coupled e is.stands.newest is.stands.callers
        (with_marks true (stored_bytes e.program.layout (found_accesses (Some instr) s)) stack.written))
        e.program.layout.cpu instr.op number s.ip (record s { ip = next_of s.ip instr }) t p q taken.good stands
        (here.anywhere s t (next_of s.ip instr) before)
