-- The plans of items with others inside, as the lists of these give them.
use Rattle.std.proofs.Common.{◌≡◌, ℕ, Bool, List, [], ◌∷◌, ◌++◌, Vec, Global, refl, sym, ap, ap₂, ◌∙◌}
use mathlib.Core.Former.{Count}
use Rattle.dcc_control.specs.declared.item.Item.{Item as TheItem, If as IfOf, If', Switch as SwitchOf, Switch', For as ForOf, For', While as WhileOf, While', DoWhile as DoWhileOf, DoWhile', Row_of-Item, end_of-Item, more_of-Item, Row_of-Arm, end_of-Arm, more_of-Arm, items-the_row-Item, items-the_row-Arm, items_hidden-the_row-Item-0, items_hidden-the_row-Arm-1, items_shown-the_row-Item-0}
use Rattle.dcc_control.specs.declared.item.Arm.{Arm as TheArm}
use Rattle.dcc_control.specs.Plan.{If, Switch, For, While, DoWhile, Plan, item, Arms, no_arms, arm}
use Rattle.dcc_control.specs.Views.{item_of, plan_before, plan_of, plan_of_row, arms_of, arms_of_row}

row-items : {n : _} (row : Row_of-Item n) → plan_of (items-the_row-Item n row) ≡ plan_of_row row
row-items end_of-Item = refl
row-items (more_of-Item i rest) = ap (item (item_of i)) (row-items rest)

row-arms : {n : _} (row : Row_of-Arm n) → arms_of (items-the_row-Arm n row) ≡ arms_of_row row
row-arms end_of-Arm = refl
row-arms (more_of-Arm cases k body rest) =
    ap₂ (arm cases.items) (ap plan_of (items_shown-the_row-Item-0 k body) ∙ row-items body) (row-arms rest)

-- the rows inside an item
abbrev first_row : TheItem → (n : Count) × Row_of-Item n
first_row (If' b _ one _ other) = (_, one)
first_row (For' b _ body) = (_, body)
first_row (While' on b _ body) = (_, body)
first_row (DoWhile' on b head _ body) = (_, body)
first_row _ = (_, end_of-Item)

abbrev second_row : TheItem → (n : Count) × Row_of-Item n
second_row (If' b _ one _ other) = (_, other)
second_row _ = (_, end_of-Item)

abbrev arm_row : TheItem → (n : Count) × Row_of-Arm n
arm_row (Switch' b _ arms) = (_, arms)
arm_row _ = (_, end_of-Arm)

hidden-items : {n : _} (row : Row_of-Item n) (items : List TheItem) → items-the_row-Item n row ≡ items → plan_of_row row ≡ plan_of items
hidden-items row items same = sym (row-items row) ∙ ap plan_of same

hidden-arms : {n : _} (row : Row_of-Arm n) (arms : List TheArm) → items-the_row-Arm n row ≡ arms → arms_of_row row ≡ arms_of arms
hidden-arms row arms same = sym (row-arms row) ∙ ap arms_of same

pub if-item : (b : ℕ) (one other : Vec TheItem Global) → item_of (IfOf b one other) ≡ If b (plan_of one.items) (plan_of other.items)
if-item b one other =
    let i = IfOf b one other in
    ap₂ (If b)
    (hidden-items (first_row i).1 one.items (items_hidden-the_row-Item-0 one))
    (hidden-items (second_row i).1 other.items (items_hidden-the_row-Item-0 other))

pub switch-item : (b : ℕ) (arms : Vec TheArm Global) → item_of (SwitchOf b arms) ≡ Switch b (arms_of arms.items)
switch-item b arms = ap (Switch b) (hidden-arms (arm_row (SwitchOf b arms)).1 arms.items (items_hidden-the_row-Arm-1 arms))

pub for-item : (b : ℕ) (body : Vec TheItem Global) → item_of (ForOf b body) ≡ For b (plan_of body.items)
for-item b body = ap (For b) (hidden-items (first_row (ForOf b body)).1 body.items (items_hidden-the_row-Item-0 body))

pub while-item : (on : Bool) (b : ℕ) (body : Vec TheItem Global) → item_of (WhileOf on b body) ≡ While on b (plan_of body.items)
while-item on b body = ap (While on b) (hidden-items (first_row (WhileOf on b body)).1 body.items (items_hidden-the_row-Item-0 body))

pub do-item : (on : Bool) (b head : ℕ) (body : Vec TheItem Global) → item_of (DoWhileOf on b head body) ≡ DoWhile on b head (plan_of body.items)
do-item on b head body = ap (DoWhile on b head) (hidden-items (first_row (DoWhileOf on b head body)).1 body.items (items_hidden-the_row-Item-0 body))

-- Lists of items.

pub plan_before-append : (first second : List TheItem) (plan : Plan) → plan_before (first ++ second) plan ≡ plan_before first (plan_before second plan)
plan_before-append [] second plan = refl
plan_before-append (i ∷ items) second plan = ap (item (item_of i)) (plan_before-append items second plan)

-- arms before others
abbrev pub arms_before : List TheArm → Arms → Arms
arms_before [] rest = rest
arms_before (a ∷ arms) rest = arm a.cases.items (plan_of a.body.items) (arms_before arms rest)

pub arms_before-append : (first second : List TheArm) (rest : Arms) → arms_before (first ++ second) rest ≡ arms_before first (arms_before second rest)
arms_before-append [] second rest = refl
arms_before-append (a ∷ arms) second rest = ap (arm a.cases.items (plan_of a.body.items)) (arms_before-append arms second rest)

pub arms_before-none : (arms : List TheArm) → arms_before arms no_arms ≡ arms_of arms
arms_before-none [] = refl
arms_before-none (a ∷ arms) = ap (arm a.cases.items (plan_of a.body.items)) (arms_before-none arms)
