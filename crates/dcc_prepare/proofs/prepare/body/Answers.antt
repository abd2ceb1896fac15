use Rattle.std.proofs.Common.{ap, subst}
use Rattle.std.proofs.lemmas.Result.{IfOk-weaker}
use Rattle.dcc_c.specs.Tree.{Function, Lines}
use Rattle.dcc_c.specs.Run.{runs, ends_function, from_label}
use Rattle.dcc_c.specs.Views.{lines_of, function_of}
use Rattle.dcc_prepare.specs.Emission.{Emits}
use Rattle.dcc_prepare.specs.Programs.{none_open}
use Rattle.dcc_prepare.specs.Prepared.{IsBody}
use Rattle.dcc_prepare.proofs.PrepareLaws.{closes, body_leads, body_is}
use Rattle.dcc_prepare.proofs.prepare.body.Goals as goal

pub returns : goal.returns
returns c tree context rows labels =
    let f : Function = function_of c.args.function.now in
    let one = closes tree f c.args.code.now c.push.new.self c.in_ok-close.close c.args.function.now.last rows c.in_ok-close.ensures.point c.in_ok-close.ensures.rows c.in_ok-close.ensures.labels in
    let points = one.grows.grown in
    let made = c.emit_lines.ensures (ends_function c.args.function.now.last) tree f none_open points context one.grows.rows (body_leads tree points c.in_ok-close.close c.args.function.now.last one.goes) in
    IfOk-weaker c.emit_lines.result _ (IsBody tree f c.emit_lines.new.code)
    (λ at emits.
    body_is tree f c.args.code.now c.push.new.self c.emit_lines.new.code at points labels c.in_ok-close.ensures.labels
    (subst (λ (body : Lines). Emits tree f none_open points c.push.new.self c.emit_lines.new.code (λ word. from_label word body (ends_function c.args.function.now.last)) at (runs body (ends_function c.args.function.now.last)))
    (ap lines_of c.deref.ensures.value) emits))
    made
