use Rattle.std.proofs.Common.{◌≡◌, ℕ, suc, ◌-◌, List, [], ◌∷◌, ◌++◌, Some, refl, sym, ap, ◌∙◌, subst, arith}
use Rattle.std.proofs.lemmas.Result.{on_ok_weaker}
use Rattle.dcc_run.specs.Event.{writes}
use Rattle.dcc_console.specs.Steps.{made, Steps}
use Rattle.dcc_console.specs.WithConsole.{beside_console}
use Rattle.dcc_crun.specs.declared.run.CRun.{CRun}
use Rattle.dcc_crun.specs.Stepped.{texts, end_told, outcome_of}
use Rattle.dcc_crun.proofs.RunLaws.{texts_execute}
use Rattle.dcc_map.specs.declared.text_side.TextSide.{TextSide}
use Rattle.dcc_map.specs.Compared.{line_of}
use Rattle.dcc_map.specs.Comparison.{end_of}
use Rattle.dcc_map.specs.Placed.{placed_at}
use Rattle.dcc_map.specs.Side.{event_of, key_event, text_side}
use Rattle.dcc_map.proofs.TextKinds.{text_apart, text_kind}
use Rattle.dcc_map.proofs.LineLaws.{text_places}
use Rattle.dcc_map.proofs.PendingLaws.{pending_key}
use Rattle.dcc_map.proofs.SideLaws.{coming_key}
use Rattle.dcc_map.proofs.BothSides.{text_made, made_by, ended_as}
use Rattle.dcc_map.proofs.text_side.TextSide.take_key.Goals as goal

pub returns-clause-comes : goal.returns-clause-comes
returns-clause-comes c tree coming end before =
    let old = c.args.self.now in
    let key = c.pop_front-key.result in
    let out = c.step.new.out.taken in
    let fine : outcome_of c.step.result ≡ made = text_made c.step.result c.in_default.not-InFault c.in_default.not-OutFault c.in_default.not-Memory in
    let done = made_by texts (outcome_of c.step.result) _ _ fine c.step.ensures.step in
    let unwritten =
    subst (λ (l : List ℕ). Steps texts made (beside_console old.run (Some c.new-input.result.left) (Some l)) (beside_console c.step.new.self (Some c.step.new.input.left) (Some out)))
    (ap (λ s. s.taken) c.new-out.ensures) done in
    on_ok_weaker c.add_written.result
    (λ written.
    let now : TextSide = record old { run = c.step.new.self; keys = c.pop_front-key.new.self; line = c.line-line.result; steps = old.steps - 1; end = c.end_of-self.result; pending = c.add_written.new.events } in
    let more : old.steps ≡ suc now.steps = omega (arith, c.requires.may.1) in
    coming_key texts texts_execute line_of tree (text_apart tree) (text_kind tree) (text_side old) (text_side now) coming end c.line-line.result before c.requires.may more
    (λ s happened stands runs events. text_places tree s c.line-line.result happened runs (c.line-line.ensures tree s stands runs) events)
    (ended_as texts c.step.new.self (end_told c.step.result) (end_of c.end_of-self.result) c.end_of-self.ensures c.step.ensures.answer)
    key c.new-input.result.left (Some c.step.new.input.left) out (ap (λ s. s.left) c.new-input.ensures ∙ c.in_ok-given.ensures)
    c.pop_front-key.ensures.items c.pop_front-key.ensures.rest
    (pending_key old.line c.line-line.result old.pending.items c.push_back.new.self.items c.add_written.new.events.items key _ c.requires.may.0
    (c.in_ok-push_back-in_default.ensures.items ∙ ap (λ e. old.pending.items ++ e ∷ []) c.key_event.ensures) written
    ∙ ap (λ (l : List ℕ). placed_at c.line-line.result (event_of (key_event key) ∷ writes l)) (c.deref.ensures.value ∙ c.taken.ensures))
    c.requires.takes unwritten)
    c.add_written.ensures
