use Rattle.std.proofs.Common.{◌≡◌, ℕ, suc, ◌-◌, List, [], ◌∷◌, Some, refl, sym, ap, ◌∙◌, subst, arith}
use Rattle.std.proofs.lemmas.Result.{on_ok_weaker}
use Rattle.dcc_run.specs.Event.{writes}
use Rattle.dcc_console.specs.Steps.{made, Steps}
use Rattle.dcc_console.specs.WithConsole.{WithConsole, beside_console}
use Rattle.dcc_crun.specs.declared.run.CRun.{CRun}
use Rattle.dcc_crun.specs.Stepped.{texts, end_told, outcome_of}
use Rattle.dcc_crun.proofs.RunLaws.{texts_execute}
use Rattle.dcc_map.specs.declared.text_side.TextSide.{TextSide}
use Rattle.dcc_map.specs.Compared.{line_of}
use Rattle.dcc_map.specs.Comparison.{end_of}
use Rattle.dcc_map.specs.Placed.{placed_at}
use Rattle.dcc_map.specs.Side.{Side, Coming, text_side}
use Rattle.dcc_map.proofs.TextKinds.{text_apart, text_kind}
use Rattle.dcc_map.proofs.LineLaws.{text_places}
use Rattle.dcc_map.proofs.PendingLaws.{pending_written}
use Rattle.dcc_map.proofs.SideLaws.{coming_withheld, refuses_still}
use Rattle.dcc_map.proofs.BothSides.{text_made, made_by, ended_as}
use Rattle.dcc_map.proofs.text_side.TextSide.step.Goals as goal

pub take_key-requires-clause-takes : goal.take_key-requires-clause-takes
take_key-requires-clause-takes c =
    (refuses_still texts c.args.self.now.run c.step.new.self _ _ c.in-InFault.ensures.step).1

pub returns-in-InFault-clause-comes : goal.returns-in-InFault-clause-comes
returns-in-InFault-clause-comes c tree coming end before =
    let same = (refuses_still texts c.args.self.now.run c.step.new.self _ _ c.in-InFault.ensures.step).0 in
    c.take_key.ensures.comes tree coming end
    (subst (λ (m : CRun). Coming texts line_of tree (record (text_side c.args.self.now) { code = m }) coming end) (sym same) before)

pub returns-in_default-clause-comes : goal.returns-in_default-clause-comes
returns-in_default-clause-comes c tree coming end before =
    let old = c.args.self.now in
    let out = c.step.new.out.taken in
    let fine : outcome_of c.step.result ≡ made = text_made c.step.result c.in_default.not-InFault c.in_default.not-OutFault c.in_default.not-Memory in
    let done = made_by texts (outcome_of c.step.result) _ _ fine c.step.ensures.step in
    let given = subst (λ (l : List ℕ). Steps texts made (beside_console old.run (Some (0 ∷ [])) (Some l)) (beside_console c.step.new.self (Some (0 ∷ [])) (Some out))) c.requires.unwritten done in
    on_ok_weaker c.add_written.result
    (λ written.
    let now : TextSide = record old { run = c.step.new.self; line = c.line-line.result; steps = old.steps - 1; end = c.end_of-self.result; pending = c.add_written.new.events } in
    let more : old.steps ≡ suc now.steps = omega (arith, c.requires.may.1) in
    coming_withheld texts texts_execute line_of tree (text_apart tree) (text_kind tree) (text_side old) (text_side now) coming end c.line-line.result before c.requires.may more
    (λ s happened stands runs events. text_places tree s c.line-line.result happened runs (c.line-line.ensures tree s stands runs) events)
    (ended_as texts c.step.new.self (end_told c.step.result) (end_of c.end_of-self.result) c.end_of-self.ensures c.step.ensures.answer)
    out refl
    (pending_written old.line c.line-line.result old.pending.items c.add_written.new.events.items _ c.requires.may.0 written
    ∙ ap (λ (l : List ℕ). placed_at c.line-line.result (writes l)) (c.deref.ensures.value ∙ c.taken.ensures))
    given)
    c.add_written.ensures
