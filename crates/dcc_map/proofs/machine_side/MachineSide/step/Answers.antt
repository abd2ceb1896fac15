use Rattle.std.proofs.Common.{◌≡◌, ℕ, suc, ◌-◌, List, [], ◌∷◌, Some, refl, sym, ap, ◌∙◌, subst, arith}
use Rattle.std.proofs.lemmas.Result.{on_ok_weaker}
use Rattle.dcc_run.specs.Event.{writes}
use Rattle.dcc_console.specs.Steps.{made, Steps}
use Rattle.dcc_console.specs.WithConsole.{WithConsole, beside_console}
use Rattle.dcc_machine.specs.Step.{step}
use Rattle.dcc_step.specs.Core.{Core}
use Rattle.dcc_step.specs.Stepped.{machine, end_told, outcome_of}
use Rattle.dcc_step.proofs.Laws.{machine_executes}
use Rattle.dcc_map.specs.declared.machine_side.MachineSide.{MachineSide}
use Rattle.dcc_map.specs.Compared.{address_of}
use Rattle.dcc_map.specs.Comparison.{end_of}
use Rattle.dcc_map.specs.Placed.{placed_at}
use Rattle.dcc_map.specs.Side.{Side, Coming, machine_side}
use Rattle.dcc_map.proofs.MachineKinds.{machine_apart, machine_kind}
use Rattle.dcc_map.proofs.LineLaws.{machine_places}
use Rattle.dcc_map.proofs.PendingLaws.{pending_written}
use Rattle.dcc_map.proofs.SideLaws.{coming_withheld, refuses_still}
use Rattle.dcc_map.proofs.BothSides.{machine_made, made_by, ended_as}
use Rattle.dcc_map.proofs.machine_side.MachineSide.step.Goals as goal

pub take_key-requires-clause-takes : goal.take_key-requires-clause-takes
take_key-requires-clause-takes c =
    (refuses_still machine c.args.self.now.machine c.step.new.self _ _ c.in-InFault.ensures.step).1

pub returns-in-InFault-clause-comes : goal.returns-in-InFault-clause-comes
returns-in-InFault-clause-comes c cpu coming end before =
    let same = (refuses_still machine c.args.self.now.machine c.step.new.self _ _ c.in-InFault.ensures.step).0 in
    c.take_key.ensures.comes cpu coming end
    (subst (λ (m : Core). Coming machine address_of cpu (record (machine_side c.args.self.now) { code = m }) coming end) (sym same) before)

pub returns-in_default-clause-comes : goal.returns-in_default-clause-comes
returns-in_default-clause-comes c cpu coming end before =
    let old = c.args.self.now in
    let out = c.step.new.out.taken in
    let fine : outcome_of c.step.result ≡ made = machine_made c.step.result c.in_default.not-InFault c.in_default.not-OutFault in
    let done = made_by machine (outcome_of c.step.result) _ _ fine c.step.ensures.step in
    let given = subst (λ (l : List ℕ). Steps machine made (beside_console old.machine (Some (0 ∷ [])) (Some l)) (beside_console c.step.new.self (Some (0 ∷ [])) (Some out))) c.requires.unwritten done in
    on_ok_weaker c.add_written.result
    (λ written.
    let now : MachineSide = record old { machine = c.step.new.self; at = c.ip-at.result; steps = old.steps - 1; end = c.end_of-self.result; pending = c.add_written.new.events } in
    let more : old.steps ≡ suc now.steps = omega (arith, c.requires.may.1) in
    coming_withheld machine machine_executes address_of cpu (machine_apart (step cpu)) (machine_kind cpu) (machine_side old) (machine_side now) coming end c.ip-at.result before c.requires.may more
    (λ s happened stands runs events. machine_places cpu c.args.self.now.machine s c.ip-at.result happened stands c.ip-at.ensures)
    (ended_as machine c.step.new.self (end_told c.step.result) (end_of c.end_of-self.result) c.end_of-self.ensures c.step.ensures.answer)
    out refl
    (pending_written old.at c.ip-at.result old.pending.items c.add_written.new.events.items _ c.requires.may.0 written
    ∙ ap (λ (l : List ℕ). placed_at c.ip-at.result (writes l)) (c.deref.ensures.value ∙ c.taken.ensures))
    given)
    c.add_written.ensures
