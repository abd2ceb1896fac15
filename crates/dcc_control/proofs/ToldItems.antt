-- Lists of items and of arms whose loops are told, one after another, and the `continue`s among them.
use Rattle.std.proofs.Common.{◌≡◌, List, [], ◌∷◌, ◌++◌, refl, sym, ap, ap₂, ◌∙◌}
use Rattle.std.specs.Prelude.{◌||◌}
use Rattle.std.proofs.Math.Bool.{or_assoc, or-false}
use Rattle.dcc_control.specs.declared.item.Item.{Item as TheItem}
use Rattle.dcc_control.specs.declared.item.Arm.{Arm as TheArm}
use Rattle.dcc_control.specs.Plan.{Plan, item, arm, joined}
use Rattle.dcc_control.specs.Told.{continues, item_continues, arms_continue, told_loops, told_item, told_arms}
use Rattle.dcc_control.specs.Views.{item_of, plan_before, plan_of, arms_of}
use Rattle.dcc_control.proofs.ItemRows.{plan_before-append, arms_before, arms_before-append}

-- items before others
pub before-joined : (items : List TheItem) (plan : Plan) → plan_before items plan ≡ joined (plan_of items) plan
before-joined [] plan = refl
before-joined (i ∷ items) plan = ap (item (item_of i)) (before-joined items plan)

-- one item more is told
pub one-told : (done : List TheItem) (i made : TheItem) (items : List TheItem) → item_of made ≡ told_item (item_of i)
    → plan_before (done ++ made ∷ []) (told_loops (plan_of items)) ≡ plan_before done (told_loops (plan_of (i ∷ items)))
one-told done i made items is =
    plan_before-append done (made ∷ []) (told_loops (plan_of items)) ∙ ap (λ x. plan_before done (item x (told_loops (plan_of items)))) is

pub one-continues : (done : List TheItem) (made : TheItem) → continues (plan_of (done ++ made ∷ [])) ≡ (continues (plan_of done) || item_continues (item_of made))
one-continues [] made = or-false (item_continues (item_of made))
one-continues (d ∷ done) made =
    ap (λ x. item_continues (item_of d) || x) (one-continues done made)
    ∙ sym (or_assoc (item_continues (item_of d)) (continues (plan_of done)) (item_continues (item_of made)))

-- one arm more is told
pub one-arm : (done : List TheArm) (a made : TheArm) (arms : List TheArm) → made.cases.items ≡ a.cases.items → plan_of made.body.items ≡ told_loops (plan_of a.body.items)
    → arms_before (done ++ made ∷ []) (told_arms (arms_of arms)) ≡ arms_before done (told_arms (arms_of (a ∷ arms)))
one-arm done a made arms cases body =
    arms_before-append done (made ∷ []) (told_arms (arms_of arms)) ∙ ap₂ (λ ns p. arms_before done (arm ns p (told_arms (arms_of arms)))) cases body

pub one-arm-continues : (done : List TheArm) (made : TheArm) → arms_continue (arms_of (done ++ made ∷ [])) ≡ (arms_continue (arms_of done) || continues (plan_of made.body.items))
one-arm-continues [] made = or-false (continues (plan_of made.body.items))
one-arm-continues (d ∷ done) made =
    ap (λ x. continues (plan_of d.body.items) || x) (one-arm-continues done made)
    ∙ sym (or_assoc (continues (plan_of d.body.items)) (arms_continue (arms_of done)) (continues (plan_of made.body.items)))
