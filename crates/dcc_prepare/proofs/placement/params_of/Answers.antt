use Rattle.std.proofs.Common.{ℕ, ◌+◌, List, ◌∷◌, map, drop, false, sym, subst, arith}
use Rattle.dcc_c.specs.Tree.{Variable as DeclaredVariable}
use Rattle.dcc_c.specs.Placement.{param_places}
use Rattle.dcc_c.specs.Views.{variable_of, lines_of}
use Rattle.dcc_prepare.specs.declared.program.Variable.{Variable}
use Rattle.dcc_prepare.specs.Placing.{ArePlaced}
use Rattle.dcc_prepare.proofs.PlacementLaws.{place-step, next_variable}
use Rattle.dcc_prepare.proofs.placement.params_of.Goals as goal

pub loop-param-preserved : goal.loop-param-preserved
loop-param-preserved c =
    let params = c.args.params.now in
    let body = lines_of c.args.body.now in
    let i = c.loop-param.param-index in
    let number = c.loop-param.invariant.0 in
    let next = c.param_of-next.ensures body number c.in_ok-taken.ensures c.loop-param.invariant.1 in
    let param = c.param-item.result in
    let left = map variable_of (drop (i + 1) params) in
    let declared = map variable_of params in
    let vs = c.loop-param.variables.items in
    let places_of = λ (base : ℕ). param_places body base 0 false declared in
    let before = λ (base : ℕ) (l : List DeclaredVariable). param_places body base number c.loop-param.placed l in
    let after = λ (base : ℕ) (l : List DeclaredVariable). param_places body base next.next c.param_of-next.result.placed l in
    let had : ArePlaced declared places_of (variable_of param ∷ left) before vs =
    subst (λ (l : List DeclaredVariable). ArePlaced declared places_of l before vs) (next_variable params i param param (omega arith) c.param-item.is) c.loop-param.invariant.2 in (
      next.next,
      next.at,
      subst (λ (items : List Variable). ArePlaced declared places_of left after items) (sym c.in_ok-push.ensures.items)
          (place-step declared left (variable_of param) places_of before after vs c.param_of-next.result.variable had next.kind (λ base. next.places base left)),
    )
