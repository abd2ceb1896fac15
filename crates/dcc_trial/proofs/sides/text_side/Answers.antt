use Rattle.std.proofs.Common.{◌≡◌, [], Some, ap, refl, ◌∙◌}
use Rattle.std.proofs.lemmas.Result.{IfOk-weaker}
use Rattle.dcc_c.specs.Rules.{IsAllowed}
use Rattle.dcc_c.specs.Run.{text_system, first_state}
use Rattle.dcc_c.specs.Views.{tree_of}
use Rattle.dcc_console.specs.WithConsole.{beside_console}
use Rattle.dcc_crun.specs.Stepped.{texts}
use Rattle.dcc_trial.specs.declared.found.Ending.TheVariants.{Running, Exit, Divide}
use Rattle.dcc_trial.specs.Trial.{IsRun}
use Rattle.dcc_trial.proofs.RunLaws.{run-is, text-begins}
use Rattle.dcc_trial.proofs.sides.text_side.Goals as goal

pub returns-in-Running-clause-run : goal.returns-in-Running-clause-run
returns-in-Running-clause-run c =
    let tree = tree_of c.args.unit.now in
    let run = c.in_ok-running.running in
    let out = c.run.new.out.taken in
    IfOk-weaker c.side.result (λ side. (side.output.items ≡ out) × (side.ending ≡ Running))
    (λ side. (allowed : IsAllowed tree) → IsRun (text_system tree) (first_state tree allowed.start 0 []) c.args.steps side)
    (λ side is allowed. run-is texts tree (first_state tree allowed.start 0) run
    (text-begins tree run 0 c.in_ok-running.ensures allowed) c.args.steps
    _ _ (beside_console c.run.new.self _ _) out Running
    (ap (λ s. Some s.left) c.new-input.ensures ∙ ap Some c.new.ensures.items) (ap (λ s. Some s.taken) c.new-out.ensures)
    refl c.in-Running.ensures.run c.in-Running.ensures.answer side is)
    c.side.ensures.side

pub returns-in-Exit-clause-run : goal.returns-in-Exit-clause-run
returns-in-Exit-clause-run c =
    let tree = tree_of c.args.unit.now in
    let run = c.in_ok-running.running in
    let out = c.run.new.out.taken in
    IfOk-weaker c.side-in-Exit.result (λ side. (side.output.items ≡ out) × (side.ending ≡ (Exit c.in-Exit.code)))
    (λ side. (allowed : IsAllowed tree) → IsRun (text_system tree) (first_state tree allowed.start 0 []) c.args.steps side)
    (λ side is allowed. run-is texts tree (first_state tree allowed.start 0) run
    (text-begins tree run 0 c.in_ok-running.ensures allowed) c.args.steps
    _ _ (beside_console c.run.new.self _ _) out (Exit c.in-Exit.code)
    (ap (λ s. Some s.left) c.new-input.ensures ∙ ap Some c.new.ensures.items) (ap (λ s. Some s.taken) c.new-out.ensures)
    refl c.in-Exit.ensures.run c.in-Exit.ensures.answer side is)
    c.side-in-Exit.ensures.side

pub returns-in-Divide-clause-run : goal.returns-in-Divide-clause-run
returns-in-Divide-clause-run c =
    let tree = tree_of c.args.unit.now in
    let run = c.in_ok-running.running in
    let out = c.run.new.out.taken in
    IfOk-weaker c.side-in-Divide.result (λ side. (side.output.items ≡ out) × (side.ending ≡ Divide))
    (λ side. (allowed : IsAllowed tree) → IsRun (text_system tree) (first_state tree allowed.start 0 []) c.args.steps side)
    (λ side is allowed. run-is texts tree (first_state tree allowed.start 0) run
    (text-begins tree run 0 c.in_ok-running.ensures allowed) c.args.steps
    _ _ (beside_console c.run.new.self _ _) out Divide
    (ap (λ s. Some s.left) c.new-input.ensures ∙ ap Some c.new.ensures.items) (ap (λ s. Some s.taken) c.new-out.ensures)
    refl c.in-Divide.ensures.run c.in-Divide.ensures.answer side is)
    c.side-in-Divide.ensures.side
