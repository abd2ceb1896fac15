use Rattle.std.proofs.Common.{sym, ap, ◌∙◌, ◌++◌}
use Rattle.std.specs.Prelude.{if◌then◌else◌, []}
use Rattle.dcc_machine.specs.Access.{Reading, Writing, operand_accesses}
use Rattle.dcc_step.specs.Core.{state_of}
use Rattle.dcc_watch.specs.Accesses.{near}
use Rattle.dcc_watch.proofs.Beside.{near-three}
use Rattle.dcc_watch.proofs.accesses.Accesses.add_alu.Goals as goal

pub returns-then-writes_operand : goal.returns-then-writes_operand
returns-then-writes_operand c =
    let s = state_of c.args.machine.now in
    near-three c.args.layout.now _ _ _ c.args.self.now c.add_operand.new.self c.add_operand-2.new.self c.add_operand-then-writes_operand.new.self
    c.requires c.add_operand.ensures.items c.add_operand-2.ensures.items c.add_operand-then-writes_operand.ensures.items
    ∙ ap (λ so. near c.args.layout.now (operand_accesses Reading c.args.a s ++ (operand_accesses Reading c.args.b s ++ (if so then operand_accesses Writing c.args.a s else []))))
    (sym (sym c.writes_operand.ensures ∙ c.if-writes_operand.true))
