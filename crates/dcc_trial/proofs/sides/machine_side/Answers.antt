use Rattle.std.proofs.Common.{◌≡◌, [], Some, ap, refl, ◌∙◌, arith}
use Rattle.std.proofs.lemmas.Result.{IfOk-weaker}
use Rattle.dcc_run.specs.End.{Outside as outside}
use Rattle.dcc_machine.specs.declared.cpu.Cpu.TheVariants.{I8086}
use Rattle.dcc_machine.specs.Machine.{start_state}
use Rattle.dcc_machine.specs.Step.{machine_system}
use Rattle.dcc_machine.proofs.MzImageLaws.{length-loaded}
use Rattle.dcc_console.specs.WithConsole.{beside_console}
use Rattle.dcc_step.specs.Stepped.{machine}
use Rattle.dcc_trial.specs.declared.found.Ending.TheVariants.{Running, Exit, Divide}
use Rattle.dcc_trial.specs.Trial.{IsRun}
use Rattle.dcc_trial.proofs.RunLaws.{run-is, ends-so, machine-begins}
use Rattle.dcc_trial.proofs.sides.machine_side.Goals as goal

pub new-requires-4 : goal.new-requires-4
new-requires-4 c = omega (arith, length-loaded c.args.image.now c.requires, c.args.image.now.bytes.ok.0)

pub returns-in-Running-clause-run : goal.returns-in-Running-clause-run
returns-in-Running-clause-run c =
    let image = c.args.image.now in
    let core = c.in_ok-machine.machine in
    let out = c.run.new.out.taken in
    IfOk-weaker c.side.result (λ side. (side.output.items ≡ out) × (side.ending ≡ Running))
    (IsRun (machine_system I8086) (start_state image []) c.args.steps)
    (run-is machine I8086 (start_state image) core (machine-begins I8086 core image c.in_ok-machine.ensures) c.args.steps
    _ _ (beside_console c.run.new.self _ _) out Running
    (ap (λ s. Some s.left) c.new-input.ensures ∙ ap Some c.new.ensures.items) (ap (λ s. Some s.taken) c.new-out.ensures)
    refl c.in-Running.ensures.run c.in-Running.ensures.answer)
    c.side.ensures.side

pub returns-in-Exit-clause-run : goal.returns-in-Exit-clause-run
returns-in-Exit-clause-run c =
    let image = c.args.image.now in
    let core = c.in_ok-machine.machine in
    let out = c.run.new.out.taken in
    IfOk-weaker c.side-in-Exit.result (λ side. (side.output.items ≡ out) × (side.ending ≡ (Exit c.in-Exit.code)))
    (IsRun (machine_system I8086) (start_state image []) c.args.steps)
    (run-is machine I8086 (start_state image) core (machine-begins I8086 core image c.in_ok-machine.ensures) c.args.steps
    _ _ (beside_console c.run.new.self _ _) out (Exit c.in-Exit.code)
    (ap (λ s. Some s.left) c.new-input.ensures ∙ ap Some c.new.ensures.items) (ap (λ s. Some s.taken) c.new-out.ensures)
    refl c.in-Exit.ensures.run c.in-Exit.ensures.answer)
    c.side-in-Exit.ensures.side

pub returns-in-Divide-clause-run : goal.returns-in-Divide-clause-run
returns-in-Divide-clause-run c =
    let image = c.args.image.now in
    let core = c.in_ok-machine.machine in
    let out = c.run.new.out.taken in
    IfOk-weaker c.side-in-Divide.result (λ side. (side.output.items ≡ out) × (side.ending ≡ Divide))
    (IsRun (machine_system I8086) (start_state image []) c.args.steps)
    (run-is machine I8086 (start_state image) core (machine-begins I8086 core image c.in_ok-machine.ensures) c.args.steps
    _ _ (beside_console c.run.new.self _ _) out Divide
    (ap (λ s. Some s.left) c.new-input.ensures ∙ ap Some c.new.ensures.items) (ap (λ s. Some s.taken) c.new-out.ensures)
    refl c.in-Divide.ensures.run c.in-Divide.ensures.answer)
    c.side-in-Divide.ensures.side

pub returns-in-Outside-clause-outside : goal.returns-in-Outside-clause-outside
returns-in-Outside-clause-outside c =
    let image = c.args.image.now in
    let core = c.in_ok-machine.machine in
    ends-so machine I8086 (start_state image) core (machine-begins I8086 core image c.in_ok-machine.ensures) c.args.steps
    _ _ (beside_console c.run.new.self _ _) (outside c.in-Outside.at)
    (ap (λ s. Some s.left) c.new-input.ensures ∙ ap Some c.new.ensures.items)
    c.in-Outside.ensures.run c.in-Outside.ensures.answer
