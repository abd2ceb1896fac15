use Rattle.std.proofs.Common.{Some, sym, ap, ◌∙◌, subst}
use Rattle.dcc_c.specs.Tree.{Return}
use Rattle.dcc_c.specs.Value.{value_of}
use Rattle.dcc_c.specs.Run.{State, back_step, stmt_step, scope_of}
use Rattle.dcc_value.specs.Evaluation.{typed}
use Rattle.dcc_value.specs.Resolved.{evaluated}
use Rattle.dcc_crun.specs.Doing.{Led, IsEnded, end_at}
use Rattle.dcc_crun.proofs.MomentLaws.{value_here, ended, goes_further}
use Rattle.dcc_crun.proofs.StepLaws.{led_err, give_is}
use Rattle.dcc_crun.proofs.moment.Moment.give.Goals as goal

pub returns-in_err-v : goal.returns-in_err-v
returns-in_err-v c tree points s expr line are state procedure stands =
    let one = give_is tree s line expr c.args.e.now c.in-Some.e c.in-Some-result.ty stands c.in-Some.is
    (sym procedure.is_start ∙ c.if-procedure.false) (sym procedure.result ∙ c.in-Some-result.is) in
    led_err tree points line c.from_residual.result c.args.self.now s (stmt_step tree (Return expr) line s) c.in_err-v.field-0.0 c.from_residual.ensures.1
    (subst (λ (now : State). IsEnded s now (end_at line c.in_err-v.field-0.0)) (sym one.2)
    (ended (value_of (scope_of tree s) one.0) c.in_err-v.field-0.0 line s _
    (sym (c.in_err-v.ensures ∙ ap (λ sc. evaluated sc c.in-Some.e) c.scene.ensures ∙ value_here tree points c.args.globals.now c.args.self.now s one.0 c.in-Some.e are state one.1))))

pub returns : goal.returns
returns c tree points s expr line are state procedure stands =
    let one = give_is tree s line expr c.args.e.now c.in-Some.e c.in-Some-result.ty stands c.in-Some.is
    (sym procedure.is_start ∙ c.if-procedure.false) (sym procedure.result ∙ c.in-Some-result.is) in
    let value = sym (c.in_ok-v.ensures ∙ ap (λ sc. evaluated sc c.in-Some.e) c.scene.ensures ∙ value_here tree points c.args.globals.now c.args.self.now s one.0 c.in-Some.e are state one.1) in
    let is_now = one.2 ∙ goes_further (value_of (scope_of tree s) one.0) (typed c.in_ok-v.v) line s _ value in
    subst (λ (now : State). Led tree points line c.go_back-2.result c.go_back-2.new.self s now)
    (ap (λ v. back_step s.waiting (Some v) line s) c.converted.ensures ∙ sym is_now)
    (c.go_back-2.ensures tree points s line state)
