use Rattle.std.proofs.Common.{◌≡◌, ◌+◌, ◌<◌, ◌++◌, [], ◌∷◌, List, length, take, map, sym, ap, ◌∙◌, subst, arith}
use Rattle.std.proofs.lemmas.List.{take_more, map-append}
use Rattle.dcc_c.specs.Tree.{Expr}
use Rattle.dcc_c.specs.Views.{expr_of}
use Rattle.dcc_value.specs.declared.expression.Resolved.{Resolved}
use Rattle.dcc_value.specs.Resolved.{names_of}
use Rattle.dcc_prepare.specs.Points.{StandAll}
use Rattle.dcc_prepare.proofs.PointLaws.{stand_push}
use Rattle.dcc_prepare.proofs.code.resolve_all.Goals as goal

pub loop-e-preserved : goal.loop-e-preserved
loop-e-preserved c =
    let names = names_of c.args.names.now in
    let list = c.args.list.now in
    let i = c.loop-e.e-index in
    let within : i < length list = omega arith in
    let e = c.e-item.result in
    let more : map expr_of (take (i + 1) list) ≡ map expr_of (take i list) ++ expr_of e ∷ [] =
    ap (map expr_of) (take_more list i e within ∙ ap (λ x. take i list ++ x ∷ []) (sym c.e-item.is)) ∙ map-append expr_of (take i list) (e ∷ []) in
    subst (λ (es : List Expr). StandAll names es c.push.new.self.items) (sym more)
    (subst (λ (rs : List Resolved). StandAll names (map expr_of (take i list) ++ expr_of e ∷ []) rs) (sym {A = List Resolved} c.in_ok-push.ensures.items)
    (stand_push names (map expr_of (take i list)) c.loop-e.resolved.items (expr_of e) c.in_ok-resolve.field-0 c.loop-e.invariant c.in_ok-resolve.ensures))
