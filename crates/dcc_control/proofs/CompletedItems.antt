-- Lists of items and of arms, completed one after another.
use Rattle.std.proofs.Common.{◌≡◌, Bool, true, false, ◌==◌, List, [], ◌∷◌, ◌++◌, length, refl, sym, ap, ap₂, ◌∙◌, true≢false, arith}
use Rattle.dcc_control.specs.declared.item.Item.{Item as TheItem, Empty as EmptyOf}
use Rattle.dcc_control.specs.declared.item.Arm.{Arm as TheArm}
use Rattle.dcc_control.specs.Complete.{followed, some_arms, completed, completed_item, completed_arms}
use Rattle.dcc_control.specs.Plan.{Item, Plan, Empty, no_items, item, no_arms, arm, is_mark}
use Rattle.dcc_control.specs.Views.{item_of, plan_before, plan_of, arms_of}
use Rattle.dcc_control.proofs.ItemRows.{plan_before-append, arms_before, arms_before-append}

-- an item follows
followed-item : (labelled : Bool) (i : Item) (plan : Plan) → followed labelled (item i plan) ≡ item i plan
followed-item true i plan = refl
followed-item false i plan = refl

-- one item more is completed
pub one-completed : (done : List TheItem) (i made : TheItem) (items : List TheItem) (labelled mark : Bool) → item_of made ≡ completed_item (item_of i) → mark ≡ is_mark (item_of i)
    → plan_before (done ++ made ∷ []) (followed mark (completed (plan_of items))) ≡ plan_before done (followed labelled (completed (plan_of (i ∷ items))))
one-completed done i made items labelled mark is same =
    let rest = completed (plan_of items) in
    plan_before-append done (made ∷ []) (followed mark rest)
    ∙ ap₂ (λ x m. plan_before done (item x (followed m rest))) is same
    ∙ ap (plan_before done) (sym (followed-item labelled (completed_item (item_of i)) (followed (is_mark (item_of i)) rest)))

-- where no item is left
pub none-left : (items : List TheItem) (labelled : Bool) → length items ≡ 0 → followed labelled (completed (plan_of items)) ≡ followed labelled no_items
none-left [] labelled none = refl
none-left (i ∷ items) labelled none = absurd (omega (arith, none))

-- an empty statement at the end
pub empty-added : (items : List TheItem) → plan_of (items ++ EmptyOf ∷ []) ≡ plan_before items (item Empty no_items)
empty-added items = plan_before-append items (EmptyOf ∷ []) no_items

-- one arm more is completed
pub one-arm-completed : (done : List TheArm) (a made : TheArm) (arms : List TheArm) → made.cases.items ≡ a.cases.items → plan_of made.body.items ≡ completed (plan_of a.body.items)
    → arms_before (done ++ made ∷ []) (completed_arms (arms_of arms)) ≡ arms_before done (completed_arms (arms_of (a ∷ arms)))
one-arm-completed done a made arms cases body =
    arms_before-append done (made ∷ []) (completed_arms (arms_of arms)) ∙ ap₂ (λ ns p. arms_before done (arm ns p (completed_arms (arms_of arms)))) cases body

pub no-arm-left : (arms : List TheArm) → length arms ≡ 0 → completed_arms (arms_of arms) ≡ no_arms
no-arm-left [] none = refl
no-arm-left (a ∷ arms) none = absurd (omega (arith, none))

-- a choice with an arm has some
pub some-there : (arms : List TheArm) → false ≡ (length arms == 0) → arms_of arms ≡ some_arms (arms_of arms)
some-there [] some = absurd (true≢false (sym some))
some-there (a ∷ arms) some = refl
