use Rattle.std.proofs.Common.{◌≡◌, sym, ap, ◌∙◌, subst}
use Rattle.dcc_step.specs.Core.{Core}
use Rattle.dcc_step.specs.Ending.{end_of}
use Rattle.dcc_step.specs.Stepped.{StepAnswers, counted}
use Rattle.dcc_step.proofs.Steps.{over_answers}
use Rattle.dcc_step.proofs.Quick.{quiet_answers}
use Rattle.dcc_step.proofs.machine.Machine.step.Goals as goal

pub returns-then-make_form : goal.returns-then-make_form
returns-then-make_form g c =
    quiet_answers c.args.self.now c.make_form.new.self _ _ _ _ (c.make_form.ensures.made c.if-make_form.true)

pub returns-in_default : goal.returns-in_default
returns-in_default g c =
    let m = c.args.self.now in
    let left = g.I.Source.left c.args.input.now in
    let taken = g.O.Sink.taken c.args.out.now in
    let reads = g.I.Source.faults c.args.input.now in
    let writes = g.O.Sink.faults c.args.out.now in
    let kept : c.make_form.new.self ≡ m = c.make_form.ensures.kept c.if-make_form.false in
    let end : m.end ≡ end_of c.self.inside.end = sym (ap (λ (k : Core). k.end) (c.self.view_is ∙ kept)) in
    subst (λ (k : Core). StepAnswers c.answer.result (counted m left taken reads writes) (counted k left taken reads writes)) (sym kept)
    (over_answers c.self.inside.end c.answer.result m left taken reads writes c.answer.ensures end c.in_default.not-Running)
