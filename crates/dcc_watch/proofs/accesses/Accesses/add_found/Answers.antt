use Rattle.std.proofs.Common.{◌+◌, ◌%◌, [], sym, ap, ◌∙◌}
use Rattle.dcc_machine.specs.Access.{found_accesses}
use Rattle.dcc_step.specs.Core.{state_of}
use Rattle.dcc_watch.specs.Accesses.{near}
use Rattle.dcc_watch.proofs.Quiet.{accesses-beside}
use Rattle.dcc_watch.proofs.accesses.Accesses.add_found.Goals as goal

pub returns-then-may_access : goal.returns-then-may_access
returns-then-may_access c =
    c.add_operation.ensures
    ∙ ap (near c.args.layout.now)
    (sym (accesses-beside ((c.args.machine.now.ip + c.in-Some.instr.len) % 65536) [] [] c.in-Some.instr.op (state_of c.args.machine.now))
    ∙ ap (λ f. found_accesses f (state_of c.args.machine.now)) (sym c.in-Some.is))
