use Rattle.std.proofs.Common.{◌≡◌, ℕ, suc, ◌-◌, List, [], ◌∷◌, ◌++◌, Some, refl, sym, ap, ◌∙◌, subst, arith}
use Rattle.std.proofs.lemmas.Result.{on_ok_weaker}
use Rattle.dcc_run.specs.Event.{writes}
use Rattle.dcc_console.specs.Steps.{made, Steps}
use Rattle.dcc_console.specs.WithConsole.{beside_console}
use Rattle.dcc_machine.specs.Step.{step}
use Rattle.dcc_step.specs.Core.{Core}
use Rattle.dcc_step.specs.Stepped.{machine, end_told, outcome_of}
use Rattle.dcc_step.proofs.Laws.{machine_executes}
use Rattle.dcc_map.specs.declared.machine_side.MachineSide.{MachineSide}
use Rattle.dcc_map.specs.Compared.{address_of}
use Rattle.dcc_map.specs.Comparison.{end_of}
use Rattle.dcc_map.specs.Placed.{placed_at}
use Rattle.dcc_map.specs.Side.{event_of, key_event, machine_side}
use Rattle.dcc_map.proofs.MachineKinds.{machine_apart, machine_kind}
use Rattle.dcc_map.proofs.LineLaws.{machine_places}
use Rattle.dcc_map.proofs.PendingLaws.{pending_key}
use Rattle.dcc_map.proofs.SideLaws.{coming_key}
use Rattle.dcc_map.proofs.BothSides.{machine_made, made_by, ended_as}
use Rattle.dcc_map.proofs.machine_side.MachineSide.take_key.Goals as goal

pub returns-clause-comes : goal.returns-clause-comes
returns-clause-comes c cpu coming end before =
    let old = c.args.self.now in
    let key = c.pop_front-key.result in
    let out = c.step.new.out.taken in
    let fine : outcome_of c.step.result ≡ made = machine_made c.step.result c.in_default.not-InFault c.in_default.not-OutFault in
    let done = made_by machine (outcome_of c.step.result) _ _ fine c.step.ensures.step in
    let unwritten =
    subst (λ (l : List ℕ). Steps machine made (beside_console old.machine (Some c.new-input.result.left) (Some l)) (beside_console c.step.new.self (Some c.step.new.input.left) (Some out)))
    (ap (λ s. s.taken) c.new-out.ensures) done in
    on_ok_weaker c.add_written.result
    (λ written.
    let now : MachineSide = record old { machine = c.step.new.self; keys = c.pop_front-key.new.self; at = c.ip-at.result; steps = old.steps - 1; end = c.end_of-self.result; pending = c.add_written.new.events } in
    let more : old.steps ≡ suc now.steps = omega (arith, c.requires.may.1) in
    coming_key machine machine_executes address_of cpu (machine_apart (step cpu)) (machine_kind cpu) (machine_side old) (machine_side now) coming end c.ip-at.result before c.requires.may more
    (λ s happened stands runs events. machine_places cpu old.machine s c.ip-at.result happened stands c.ip-at.ensures)
    (ended_as machine c.step.new.self (end_told c.step.result) (end_of c.end_of-self.result) c.end_of-self.ensures c.step.ensures.answer)
    key c.new-input.result.left (Some c.step.new.input.left) out (ap (λ s. s.left) c.new-input.ensures ∙ c.in_ok-given.ensures)
    c.pop_front-key.ensures.items c.pop_front-key.ensures.rest
    (pending_key old.at c.ip-at.result old.pending.items c.push_back.new.self.items c.add_written.new.events.items key _ c.requires.may.0
    (c.in_ok-push_back-in_default.ensures.items ∙ ap (λ e. old.pending.items ++ e ∷ []) c.key_event.ensures) written
    ∙ ap (λ (l : List ℕ). placed_at c.ip-at.result (event_of (key_event key) ∷ writes l)) (c.deref.ensures.value ∙ c.taken.ensures))
    c.requires.takes unwritten)
    c.add_written.ensures
