use Rattle.std.proofs.Common.{◌≡◌, ℕ, ◌+◌, ◌%◌, List, ◌∷◌, map, drop, Some, None, Vec, Global, sym, ap, ◌∙◌, subst, arith}
use Rattle.std.specs.Prelude.{option_map}
use Rattle.dcc_c.specs.Tree.{Variable as DeclaredVariable}
use Rattle.dcc_c.specs.Placement.{local_places, bytes_of, below}
use Rattle.dcc_c.specs.Views.{variable_of}
use Rattle.dcc_prepare.specs.declared.program.Variable.{Variable}
use Rattle.dcc_prepare.specs.Placing.{ArePlaced}
use Rattle.dcc_prepare.proofs.PlacementLaws.{place-step, next_variable, same_kind, local-other, local-auto, local_same}
use Rattle.dcc_prepare.proofs.placement.locals_of.Goals.{then-is_auto+in_ok-push, else-is_auto+in_ok-push-2}
use Rattle.dcc_prepare.proofs.placement.locals_of.Goals as goal

pub loop-local-preserved : goal.loop-local-preserved
loop-local-preserved c =
    let locals = c.args.locals.now in
    let i = c.loop-local.local-index in
    let local = c.local-item.result in
    let v = variable_of local in
    let left = map variable_of (drop (i + 1) locals) in
    let declared = map variable_of locals in
    let vs = c.loop-local.variables.items in
    let used = c.loop-local.used in
    let places_of = λ (base : ℕ). local_places base 4 declared in
    let before = λ (base : ℕ) (l : List DeclaredVariable). local_places base used l in
    let had : ArePlaced declared places_of (v ∷ left) before vs =
    subst (λ (l : List DeclaredVariable). ArePlaced declared places_of l before vs) (next_variable locals i local local (omega arith) c.local-item.is) c.loop-local.invariant in
    let now = c.if-is_auto.used in
    let after = λ (base : ℕ) (l : List DeclaredVariable). local_places base now l in
    let n = bytes_of local.ty local.len in
    elim c.if-is_auto.branch [
      | then-is_auto+in_ok-push w ↦
          let same : now % 65536 ≡ (used + n) % 65536 = omega (arith, w.used-is, w.bytes_of-used.ensures) in
          subst (λ (items : List Variable). ArePlaced declared places_of left after items) (sym (ap (λ (q : Vec Variable Global). q.items) w.variables-is ∙ w.in_ok-push.ensures.items))
          (place-step declared left v places_of before after vs w.variable.result had
          (same_kind w.variable.result v w.variable.ensures.kind w.variable.ensures.array)
          (λ base.
          ap (λ o. option_map (λ offset. (base + offset) % 65536) o ∷ local_places base now left) w.variable.ensures.offset
          ∙ ap (λ k. Some k ∷ local_places base now left) (omega (arith, w.used-is, w.bytes_of-used.ensures))
          ∙ ap (λ l. Some (below base (used + n)) ∷ l) (local_same base now (used + n) left same)
          ∙ local-auto base used v left (sym c.is_auto.ensures ∙ w.if-is_auto.true)))
      | else-is_auto+in_ok-push-2 w ↦
          subst (λ (items : List Variable). ArePlaced declared places_of left after items) (sym (ap (λ (q : Vec Variable Global). q.items) w.variables-is ∙ w.in_ok-push-2.ensures.items))
          (place-step declared left v places_of before after vs w.variable-else-is_auto.result had
          (same_kind w.variable-else-is_auto.result v w.variable-else-is_auto.ensures.kind w.variable-else-is_auto.ensures.array)
          (λ base.
          ap (λ o. option_map (λ offset. (base + offset) % 65536) o ∷ local_places base now left) w.variable-else-is_auto.ensures.offset
          ∙ ap (λ k. None ∷ local_places base k left) w.used-is
          ∙ local-other base used v left (sym c.is_auto.ensures ∙ w.if-is_auto.false)))
    ]
