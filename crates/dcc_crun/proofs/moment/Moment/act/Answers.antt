use Rattle.std.proofs.Common.{List, Ok, Err, sym, ap, ◌∙◌, subst}
use Rattle.std.specs.Prelude.{if◌then◌else◌}
use Rattle.dcc_c.specs.declared.syntax.Base.TheVariants.{Uint}
use Rattle.dcc_c.specs.Types.{plain}
use Rattle.dcc_c.specs.Value.{Gives, and_then, given, is_zero, converted}
use Rattle.dcc_prepare.specs.declared.program.Label.{Label}
use Rattle.dcc_prepare.specs.declared.program.Case.{Case}
use Rattle.dcc_value.specs.declared.variable.Binding.{Binding as Bound}
use Rattle.dcc_value.specs.Resolved.{evaluated}
use Rattle.dcc_prepare.specs.Points.{label_point, case_point}
use Rattle.dcc_crun.specs.Doing.{scene_in, AreGlobals}
use Rattle.dcc_crun.proofs.StepLaws.{stays_err}
use Rattle.dcc_crun.proofs.ActLaws.{assigned, tested, switched, went, returned}
use Rattle.dcc_crun.proofs.moment.Moment.act.Goals as goal

pub returns-in_err-assign-in-Assign : goal.returns-in_err-assign-in-Assign
returns-in_err-assign-in-Assign c tree points s now line other call =
    let why = c.in_err-assign-in-Assign.field-0.0 in
    stays_err tree points line c.from_residual.result c.assign.new.self s now why c.from_residual.ensures.1
    (assigned c.args.program.now c.args.procedure.now line c.args.action.now c.args.self.now c.assign.new.self tree points s now c.in-Assign.place c.in-Assign.e c.in-Assign.next (Err why) call c.in-Assign.is
    (λ t place_expr expr globals state place_stands stands.
    c.in_err-assign-in-Assign.ensures.state tree points t place_expr expr line (subst (AreGlobals tree) (sym c.deref.ensures.value) globals) state place_stands stands)
    c.assign.ensures.at)

pub returns-in_ok-assign-in-Assign : goal.returns-in_ok-assign-in-Assign
returns-in_ok-assign-in-Assign c tree points s now line other call =
    assigned c.args.program.now c.args.procedure.now line c.args.action.now c.args.self.now c.assign.new.self tree points s now c.in-Assign.place c.in-Assign.e c.in-Assign.next (Ok tt) call c.in-Assign.is
    (λ t place_expr expr globals state place_stands stands.
    c.in_ok-assign-in-Assign.ensures.state tree points t place_expr expr line (subst (AreGlobals tree) (sym c.deref.ensures.value) globals) state place_stands stands)
    c.assign.ensures.at

pub returns-in_err-self-in-Test : goal.returns-in_err-self-in-Test
returns-in_err-self-in-Test c tree points s now line other call =
    let why = c.in_err-self-in-Test.field-0.0 in
    stays_err tree points line c.from_residual-in_err-self-in-Test.result c.args.self.now s now why c.from_residual-in_err-self-in-Test.ensures.1
    (tested c.args.program.now c.args.procedure.now line c.args.action.now c.args.self.now tree points s now c.in-Test.e c.in-Test.yes c.in-Test.no (Err why) call c.in-Test.is
    (c.in_err-self-in-Test.ensures
    ∙ ap (λ (g : List Bound). and_then (λ v. Gives (if is_zero v then c.in-Test.no else c.in-Test.yes)) (evaluated (scene_in c.args.self.now g) c.in-Test.e)) c.deref-in-Test.ensures.value))

pub returns-in_ok-self-in-Test : goal.returns-in_ok-self-in-Test
returns-in_ok-self-in-Test c tree points s now line other call =
    tested c.args.program.now c.args.procedure.now line c.args.action.now c.args.self.now tree points s now c.in-Test.e c.in-Test.yes c.in-Test.no (Ok c.in_ok-self-in-Test.field-0) call c.in-Test.is
    (c.in_ok-self-in-Test.ensures
    ∙ ap (λ (g : List Bound). and_then (λ v. Gives (if is_zero v then c.in-Test.no else c.in-Test.yes)) (evaluated (scene_in c.args.self.now g) c.in-Test.e)) c.deref-in-Test.ensures.value)

pub returns-in_err-self-in-Switch : goal.returns-in_err-self-in-Switch
returns-in_err-self-in-Switch c tree points s now line other call =
    let why = c.in_err-self-in-Switch.field-0.0 in
    stays_err tree points line c.from_residual-in_err-self-in-Switch.result c.args.self.now s now why c.from_residual-in_err-self-in-Switch.ensures.1
    (switched c.args.program.now c.args.procedure.now line c.args.action.now c.args.self.now tree points s now c.in-Switch.e c.in-Switch.cases c.in-Switch.otherwise (Err why) call c.in-Switch.is
    (c.in_err-self-in-Switch.ensures
    ∙ ap (λ (cs : List Case). and_then (λ v. Gives (case_point cs (converted (plain Uint) v).bits c.in-Switch.otherwise)) (evaluated (scene_in c.args.self.now c.deref-in-Switch.result.now) c.in-Switch.e)) c.deref-in-Switch-2.ensures.value
    ∙ ap (λ (g : List Bound). and_then (λ v. Gives (case_point c.in-Switch.cases.items (converted (plain Uint) v).bits c.in-Switch.otherwise)) (evaluated (scene_in c.args.self.now g) c.in-Switch.e)) c.deref-in-Switch.ensures.value))

pub returns-in_ok-self-in-Switch : goal.returns-in_ok-self-in-Switch
returns-in_ok-self-in-Switch c tree points s now line other call =
    switched c.args.program.now c.args.procedure.now line c.args.action.now c.args.self.now tree points s now c.in-Switch.e c.in-Switch.cases c.in-Switch.otherwise (Ok c.in_ok-self-in-Switch.field-0) call c.in-Switch.is
    (c.in_ok-self-in-Switch.ensures
    ∙ ap (λ (cs : List Case). and_then (λ v. Gives (case_point cs (converted (plain Uint) v).bits c.in-Switch.otherwise)) (evaluated (scene_in c.args.self.now c.deref-in-Switch.result.now) c.in-Switch.e)) c.deref-in-Switch-2.ensures.value
    ∙ ap (λ (g : List Bound). and_then (λ v. Gives (case_point c.in-Switch.cases.items (converted (plain Uint) v).bits c.in-Switch.otherwise)) (evaluated (scene_in c.args.self.now g) c.in-Switch.e)) c.deref-in-Switch.ensures.value)

pub returns-in_err-self-in-Goto : goal.returns-in_err-self-in-Goto
returns-in_err-self-in-Goto c tree points s now line other call =
    let why = c.in_err-self-in-Goto.field-0.0 in
    stays_err tree points line c.from_residual-in_err-self-in-Goto.result c.args.self.now s now why c.from_residual-in_err-self-in-Goto.ensures.1
    (went c.args.program.now c.args.procedure.now line c.args.action.now c.args.self.now tree points s now c.in-Goto.label (Err why) call c.in-Goto.is
    (c.in_err-self-in-Goto.ensures ∙ ap (λ (ls : List Label). given (label_point ls c.in-Goto.label)) c.deref-in-Goto.ensures.value))

pub returns-in_ok-self-in-Goto : goal.returns-in_ok-self-in-Goto
returns-in_ok-self-in-Goto c tree points s now line other call =
    went c.args.program.now c.args.procedure.now line c.args.action.now c.args.self.now tree points s now c.in-Goto.label (Ok c.in_ok-self-in-Goto.field-0) call c.in-Goto.is
    (c.in_ok-self-in-Goto.ensures ∙ ap (λ (ls : List Label). given (label_point ls c.in-Goto.label)) c.deref-in-Goto.ensures.value)

pub returns-in_ok-give-in-Return : goal.returns-in_ok-give-in-Return
returns-in_ok-give-in-Return c tree points s now line other call =
    returned c.args.program.now c.args.procedure.now line c.args.action.now c.args.self.now c.give.new.self tree points s now c.in-Return.e call c.in-Return.is
    (λ t expr globals state procedure stands.
    c.in_ok-give-in-Return.ensures tree points t expr line (subst (AreGlobals tree) (sym c.deref-in-Return.ensures.value) globals) state procedure stands)
