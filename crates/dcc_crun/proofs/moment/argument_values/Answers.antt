use Rattle.std.proofs.Common.{◌≡◌, ◌+◌, ◌<◌, List, [], ◌∷◌, ◌++◌, length, map, drop, sym, ap, ◌∙◌, arith}
use Rattle.std.proofs.lemmas.List.{length-map, map-append}
use Rattle.dcc_c.specs.declared.syntax.CType.{CType}
use Rattle.dcc_c.specs.Value.{Value, Gives, and_then, converted}
use Rattle.dcc_prepare.specs.declared.program.Variable.{Variable}
use Rattle.dcc_value.specs.Evaluation.{typed}
use Rattle.dcc_value.specs.Resolved.{contents_of}
use Rattle.dcc_crun.specs.Doing.{resolved_arguments}
use Rattle.dcc_crun.proofs.ArgumentLaws.{argument_step, argument_fails, arguments_wanting, arguments_err, type_at}
use Rattle.dcc_crun.proofs.moment.argument_values.Goals as goal

pub returns-in_err-value : goal.returns-in_err-value
returns-in_err-value c =
    let params = c.args.procedure.now.params.items in
    let types : List CType = map (λ (p : Variable). p.ty) params in
    let i = c.loop-i.i in
    let within : i < length params = omega (arith, c.args.procedure.now.params.ok.0, c.len.ensures) in
    arguments_err c.from_residual.result c.in_err-value.field-0.0 _ c.from_residual.ensures.1
    (c.loop-i.invariant.values
    ∙ argument_fails (contents_of c.args.scene.now) types c.args.arguments.now i c.index-param.result.now.ty c.index-param.result.now.ty c.index-arguments-i.result (map typed c.loop-i.values.items) c.in_err-value.field-0.0
    (omega (arith, length-map params (λ (p : Variable). p.ty))) (omega arith) (type_at params i c.index-param.result.now within c.index-param.ensures) c.index-arguments-i.is (sym c.in_err-value.ensures))

pub loop-i-preserved : goal.loop-i-preserved
loop-i-preserved c =
    let params = c.args.procedure.now.params.items in
    let types : List CType = map (λ (p : Variable). p.ty) params in
    let i = c.loop-i.i in
    let within : i < length params = omega (arith, c.args.procedure.now.params.ok.0, c.len.ensures) in
    let more : map typed c.push.new.self.items ≡ map typed c.loop-i.values.items ++ converted c.index-param.result.now.ty (typed c.in_ok-value.value) ∷ [] =
    ap (map typed) c.in_ok-push.ensures.items ∙ map-append typed c.loop-i.values.items (c.converted.result ∷ [])
    ∙ ap (λ v. map typed c.loop-i.values.items ++ v ∷ []) c.converted.ensures in
    record {
      within = omega arith;
      values =
          c.loop-i.invariant.values
          ∙ argument_step (contents_of c.args.scene.now) types c.args.arguments.now i c.index-param.result.now.ty c.index-param.result.now.ty c.index-arguments-i.result (map typed c.loop-i.values.items) (typed c.in_ok-value.value)
          (omega (arith, length-map params (λ (p : Variable). p.ty))) (omega arith) (type_at params i c.index-param.result.now within c.index-param.ensures) c.index-arguments-i.is (sym c.in_ok-value.ensures)
          ∙ ap (λ (l : List Value). and_then (λ vs. Gives (l ++ vs)) (resolved_arguments (contents_of c.args.scene.now) (drop (i + 1) types) (drop (i + 1) c.args.arguments.now))) (sym more);
    }

pub returns-then-arguments-len : goal.returns-then-arguments-len
returns-then-arguments-len c =
    let params = c.args.procedure.now.params.items in
    c.loop-i.invariant.values
    ∙ arguments_wanting (contents_of c.args.scene.now) (map (λ (p : Variable). p.ty) params) c.args.arguments.now c.loop-i.i (map typed c.loop-i.values.items)
    (omega arith) (omega (arith, length-map params (λ (p : Variable). p.ty), c.args.procedure.now.params.ok.0, c.len-2.ensures))
