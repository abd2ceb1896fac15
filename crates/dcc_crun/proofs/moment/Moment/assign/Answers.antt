use Rattle.std.proofs.Common.{ap, ◌∙◌}
use Rattle.dcc_c.specs.Tree.{Assign}
use Rattle.dcc_c.specs.Run.{stmt_step}
use Rattle.dcc_value.specs.Evaluation.{typed}
use Rattle.dcc_value.specs.Resolved.{evaluated, targeted}
use Rattle.dcc_crun.proofs.StepLaws.{kept_err, assign_ended, assign_untargeted, assign_made}
use Rattle.dcc_crun.proofs.moment.Moment.assign.Goals as goal

pub returns-in_err-v-clause-state : goal.returns-in_err-v-clause-state
returns-in_err-v-clause-state c tree points s place_expr expr line are state place_stands stands =
    let scene = c.scene-scene.ensures in
    kept_err tree points line c.from_residual.result c.args.self.now s (stmt_step tree (Assign place_expr expr) line s) c.in_err-v.field-0.0 c.from_residual.ensures.1
    (assign_ended tree points c.args.globals.now c.args.self.now s place_expr expr c.args.e.now c.in_err-v.field-0.0 line are state stands
    (c.in_err-v.ensures ∙ ap (λ sc. evaluated sc c.args.e.now) scene))

pub returns-in_err-target-clause-state : goal.returns-in_err-target-clause-state
returns-in_err-target-clause-state c tree points s place_expr expr line are state place_stands stands =
    let scene = c.scene-scene.ensures in
    kept_err tree points line c.from_residual-in_err-target.result c.args.self.now s (stmt_step tree (Assign place_expr expr) line s) c.in_err-target.field-0.0 c.from_residual-in_err-target.ensures.1
    (assign_untargeted tree points c.args.globals.now c.args.self.now s place_expr expr c.args.place.now c.args.e.now (typed c.in_ok-v.v) c.in_err-target.field-0.0 line are state place_stands stands
    (c.in_ok-v.ensures ∙ ap (λ sc. evaluated sc c.args.e.now) scene)
    (c.in_err-target.ensures ∙ ap (λ sc. targeted sc c.args.place.now) scene))

pub returns-clause-state : goal.returns-clause-state
returns-clause-state c tree points s place_expr expr line are state place_stands stands =
    let scene = c.scene-scene.ensures in
    assign_made tree points c.args.globals.now c.args.self.now c.take.new.self s place_expr expr c.args.place.now c.args.e.now (typed c.in_ok-v.v) c.in_ok-target.target line are state place_stands stands
    (c.in_ok-v.ensures ∙ ap (λ sc. evaluated sc c.args.e.now) scene)
    (c.in_ok-target.ensures ∙ ap (λ sc. targeted sc c.args.place.now) scene)
    (λ lands. c.take.ensures.state tree points s state lands)
