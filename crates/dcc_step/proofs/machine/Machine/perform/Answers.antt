use Rattle.std.proofs.Common.{subst, sym, OnOk, IfErr}
use Rattle.dcc_machine.specs.Step.{op_step}
use Rattle.dcc_console.specs.WithConsole.{WithConsole, beside_console}
use Rattle.dcc_console.specs.Steps.{Makes, Steps, refusal_of}
use Rattle.dcc_step.specs.Core.{Core}
use Rattle.dcc_step.specs.Stepped.{machine_by, LeadsOnBytes}
use Rattle.dcc_step.proofs.Scenes.{leads_quiet}
use Rattle.dcc_step.proofs.Steps.{operation_made}
use Rattle.dcc_step.proofs.machine.Machine.perform.Goals as goal

pub returns-in_default-clause-made : goal.returns-in_default-clause-made
returns-in_default-clause-made g c =
    operation_made c.args.op c.args.at c.args.self.now c.operate.new.self _ _ c.in_default.not-Int21 c.operate.ensures

pub returns-in-Int21-clause-made : goal.returns-in-Int21-clause-made
returns-in-Int21-clause-made g c =
    let before : WithConsole Core = beside_console c.args.self.now (g.I.Source.left c.args.input.now) (g.O.Sink.taken c.args.out.now) in
    let now : WithConsole Core = beside_console c.call_dos.new.self (g.I.Source.left c.call_dos.new.input) (g.O.Sink.taken c.call_dos.new.out) in
    subst (λ o. OnOk c.call_dos.result (Makes (machine_by (λ cpu. op_step cpu o c.args.at)) before now)) (sym c.in-Int21.is) c.call_dos.ensures.made

pub returns-in-Int21-clause-refused : goal.returns-in-Int21-clause-refused
returns-in-Int21-clause-refused g c =
    let before : WithConsole Core = beside_console c.args.self.now (g.I.Source.left c.args.input.now) (g.O.Sink.taken c.args.out.now) in
    let now : WithConsole Core = beside_console c.call_dos.new.self (g.I.Source.left c.call_dos.new.input) (g.O.Sink.taken c.call_dos.new.out) in
    subst (λ o. IfErr c.call_dos.result (λ fault. Steps (machine_by (λ cpu. op_step cpu o c.args.at)) (refusal_of fault) before now)) (sym c.in-Int21.is)
    c.call_dos.ensures.refused

pub returns-in_default-clause-bytes : goal.returns-in_default-clause-bytes
returns-in_default-clause-bytes g c =
    leads_quiet (λ cpu. op_step cpu c.args.op c.args.at) c.args.self.now c.operate.new.self (sym c.operate.ensures)

pub returns-in-Int21-clause-bytes : goal.returns-in-Int21-clause-bytes
returns-in-Int21-clause-bytes g c =
    subst (λ o. OnOk c.call_dos.result (LeadsOnBytes (λ cpu. op_step cpu o c.args.at) c.args.self.now c.call_dos.new.self)) (sym c.in-Int21.is)
    c.call_dos.ensures.bytes
