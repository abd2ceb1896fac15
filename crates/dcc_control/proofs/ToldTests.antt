-- What the loop of a block is told as, from its first item, and from its last one.
use Rattle.std.proofs.Common.{◌≡◌, ℕ, ◌≤◌, Bool, true, false, ◌==◌, List, [], ◌∷◌, ◌++◌, length, take, Vec, Global, Option, Some, None, refl, sym, ap, ap₂, ◌∙◌, true≢false, arith}
use Rattle.std.specs.Prelude.{◌||◌, ◌&&◌, not, if◌then◌else◌, is_some}
use Rattle.std.specs.List.{slice_get}
use Rattle.std.proofs.Math.Bool.{or-false}
use Rattle.std.proofs.lemmas.Bool.{ne_eqb}
use Rattle.std.proofs.lemmas.List.{take_all, take-append-le}
use Rattle.dcc_control.specs.declared.item.Item.{Item as TheItem, If as IfOf}
use Rattle.dcc_control.specs.Plan.{Item, If, For, While, DoWhile, Break, Plan, no_items, item, joined, is_of}
use Rattle.dcc_control.specs.Told.{is_empty, only_breaks, Leaving, leaving_of, continues, item_continues, last, front, tests_first, tests_last, told_last, told_loop}
use Rattle.dcc_control.specs.Views.{item_of, plan_before, plan_of}
use Rattle.dcc_control.proofs.ItemRows.{if-item}
use Rattle.dcc_control.proofs.ToldItems.{one-continues, before-joined}
use Rattle.dcc_control.proofs.ToldShapes.{some-same, empty-is, leaving, leaving-is, IsTold, stays, first, lasts, told-is}

-- Tests that leave the loop around them.

two-apart : (i next : Item) (plan : Plan) → false ≡ only_breaks (item i (item next plan))
two-apart Break next plan = refl
two-apart _ next plan = refl

-- two items or more are no `break` alone
pub many-apart : (items : List TheItem) → 2 ≤ length items → false ≡ only_breaks (plan_of items)
many-apart [] many = absurd (omega (arith, many))
many-apart (i ∷ []) many = absurd (omega (arith, many))
many-apart (i ∷ next ∷ items) many = two-apart (item_of i) (item_of next) (plan_of items)

pub empty-list : (items : List TheItem) → is_empty (plan_of items) ≡ (length items == 0)
empty-list [] = refl
empty-list (i ∷ items) = sym (ne_eqb (length (i ∷ items)) 0 (λ none. omega arith))

leaving-if : (i : TheItem) (b : ℕ) (one other : Vec TheItem Global) → i ≡ IfOf b one other
    → leaving_of (item_of i) ≡ leaving_of (If b (plan_of one.items) (plan_of other.items))
leaving-if i b one other is = ap leaving_of (ap item_of is ∙ if-item b one other)

-- a test that leaves the loop but for a truth value, for which it goes on with a plan
abbrev pub some-test : Bool → ℕ → Plan → Option Leaving
some-test on b plan = Some (record { on = on; block = b; goes_on = plan })

-- a test, by whether its sides are `break` alone
pub leaving-when : (x y : Bool) (i : TheItem) (b : ℕ) (one other : Vec TheItem Global) → i ≡ IfOf b one other → only_breaks (plan_of other.items) ≡ x → only_breaks (plan_of one.items) ≡ y
    → leaving_of (item_of i) ≡ (if x then some-test true b (plan_of one.items) else if y then some-test false b (plan_of other.items) else None)
leaving-when x y i b one other is e f =
    leaving-if i b one other is ∙ ap₂ (λ v w. if v then some-test true b (plan_of one.items) else if w then some-test false b (plan_of other.items) else None) e f

-- no `continue` of the loop around a loop stands in it
pub loop-calm : (b : ℕ) (body : Plan) → item_continues (told_loop b body) ≡ false
loop-calm b body = by (told-is b body)
  where
    by : {plan : Plan} {i : Item} → IsTold b plan i → item_continues i ≡ false
    by stays = refl
    by (first on goes_on plan) = refl
    by (lasts on a plan calm starts) = refl

-- The first item.

pub first-made : (b a : ℕ) (one other rest : Plan) → is_some (tests_first b (If a one other) rest) ≡ true
    → tests_first b (If a one other) rest ≡ Some (While (only_breaks other) b (joined (if only_breaks other then one else other) rest))
first-made b a one other rest is = by (only_breaks other) (only_breaks one) is
  where
    -- the test as the loop's, if it is one
    loop-of : Option Leaving → Option Item
    loop-of (Some test) = if test.block == b then Some (While test.on b (joined test.goes_on rest)) else None
    loop-of None = None

    at-block : (on : Bool) (goes_on : Plan) (here : Bool) → is_some (if here then Some (While on b (joined goes_on rest)) else None) ≡ true
        → (if here then Some (While on b (joined goes_on rest)) else None) ≡ Some (While on b (joined goes_on rest))
    at-block on goes_on true is = refl
    at-block on goes_on false is = absurd (true≢false (sym is))

    by : (x y : Bool) → is_some (loop-of (if x then some-test true a one else if y then some-test false a other else None)) ≡ true
        → loop-of (if x then some-test true a one else if y then some-test false a other else None) ≡ Some (While x b (joined (if x then one else other) rest))
    by true y is = at-block true one (a == b) is
    by false true is = at-block false other (a == b) is
    by false false is = absurd (true≢false (sym is))

one-plan : (x : Bool) (one other : List TheItem) → plan_of (if x then one else other) ≡ (if x then plan_of one else plan_of other)
one-plan true one other = refl
one-plan false one other = refl

-- the first item's side that goes on, and then what is left
pub first-loop : (b a : ℕ) (top : TheItem) (one other : Vec TheItem Global) (left start made : List TheItem) (on : Bool) (i : Item) (rest : Plan) → top ≡ IfOf a one other
    → item (item_of top) (plan_of left) ≡ item i rest → is_some (tests_first b i rest) ≡ true → on ≡ only_breaks (plan_of other.items)
    → start ≡ (if on then one.items else other.items) → plan_of made ≡ plan_before start (plan_of left) → tests_first b i rest ≡ Some (While on b (plan_of made))
first-loop b a top one other left start made on i rest is whole tests on-is start-is made-is =
    let test : item_of top ≡ If a (plan_of one.items) (plan_of other.items) = ap item_of is ∙ if-item a one other in
    let item-is : item_of top ≡ i = cc in
    let rest-is : plan_of left ≡ rest = cc in
    let same : tests_first b (If a (plan_of one.items) (plan_of other.items)) (plan_of left) ≡ tests_first b i rest = ap₂ (tests_first b) (sym test ∙ item-is) rest-is in
    let begun : plan_of start ≡ (if only_breaks (plan_of other.items) then plan_of one.items else plan_of other.items) =
    ap plan_of start-is ∙ one-plan on one.items other.items ∙ ap (λ x. if x then plan_of one.items else plan_of other.items) on-is in
    sym same
    ∙ first-made b a (plan_of one.items) (plan_of other.items) (plan_of left) (ap is_some same ∙ tests)
    ∙ ap₂ (λ x body. Some (While x b body)) (sym on-is) (ap (λ p. joined p (plan_of left)) (sym begun) ∙ sym (before-joined start (plan_of left)) ∙ sym made-is)

pub told-first : (b : ℕ) (i : Item) (rest : Plan) (loop : Item) → tests_first b i rest ≡ Some loop → told_loop b (item i rest) ≡ loop
told-first b i rest loop is = ap (λ o. elim o [ Some loop ↦ loop | None ↦ if is_of b i then told_last b i rest else For b (item i rest) ]) is

pub told-otherwise : (b : ℕ) (i : Item) (rest : Plan) (x : Bool) → is_some (tests_first b i rest) ≡ false → is_of b i ≡ x
    → told_loop b (item i rest) ≡ (if x then told_last b i rest else For b (item i rest))
told-otherwise b i rest x none of = by (tests_first b i rest) none ∙ ap (λ y. if y then told_last b i rest else For b (item i rest)) of
  where
    by : (o : Option Item) → is_some o ≡ false
        → (elim o [ Some loop ↦ loop | None ↦ if is_of b i then told_last b i rest else For b (item i rest) ]) ≡ (if is_of b i then told_last b i rest else For b (item i rest))
    by None none = refl
    by (Some loop) some = absurd (true≢false some)

-- a plan from its first item on
pub begun-plan : (items given : List TheItem) (i : TheItem) → Some i ≡ slice_get given 0 → given ≡ items → (left : List TheItem) × (plan_of items ≡ item (item_of i) (plan_of left))
begun-plan items [] i is same = absurd cc
begun-plan items (j ∷ given) i is same = (given, ap plan_of (sym same ∙ ap (λ k. k ∷ given) (sym (some-same is))))

pub told-nothing : (b : ℕ) (items : List TheItem) → None ≡ slice_get items 0 → told_loop b (plan_of items) ≡ For b (plan_of items)
told-nothing b [] none = refl
told-nothing b (i ∷ items) none = absurd cc

-- The last item.

last-is : (i : Item) (xs : List TheItem) (y : TheItem) → last i (plan_of (xs ++ y ∷ [])) ≡ item_of y
last-is i [] y = refl
last-is i (x ∷ xs) y = last-is (item_of x) xs y

front-is : (i : Item) (xs : List TheItem) (y : TheItem) → front i (plan_of (xs ++ y ∷ [])) ≡ item i (plan_of xs)
front-is i [] y = refl
front-is i (x ∷ xs) y = ap (item i) (front-is (item_of x) xs y)

ends-with : (xs : List TheItem) (y : TheItem) (i : Item) (rest : Plan) → plan_of (xs ++ y ∷ []) ≡ item i rest → (last i rest ≡ item_of y) × (front i rest ≡ plan_of xs)
ends-with [] y i rest is =
    let one : item_of y ≡ i = cc in
    let none : no_items ≡ rest = cc in
    (ap₂ last (sym one) (sym none), ap₂ front (sym one) (sym none))
ends-with (x ∷ xs) y i rest is =
    let one : item_of x ≡ i = cc in
    let more : plan_of (xs ++ y ∷ []) ≡ rest = cc in (
      ap₂ last (sym one) (sym more) ∙ last-is (item_of x) xs y,
      ap₂ front (sym one) (sym more) ∙ front-is (item_of x) xs y,
    )

-- a test that leaves the loop at once where it doesn't go on holds no `continue`
leaving-calm : (on : Bool) (b : ℕ) → item_continues (leaving on b no_items) ≡ false
leaving-calm true b = refl
leaving-calm false b = refl

same-continues : (xs : List TheItem) (y : TheItem) (test : Leaving) → leaving_of (item_of y) ≡ Some test → is_empty test.goes_on ≡ true
    → continues (plan_of (xs ++ y ∷ [])) ≡ continues (plan_of xs)
same-continues xs y test is none =
    one-continues xs y
    ∙ ap (λ x. continues (plan_of xs) || x)
    (ap item_continues (leaving-is (item_of y) test is ∙ ap (leaving test.on test.block) (empty-is test.goes_on none)) ∙ leaving-calm test.on test.block)
    ∙ or-false (continues (plan_of xs))

-- the loop of a block that is told by its last item, or else stays
abbrev or-for : ℕ → Plan → Option Item → Item
or-for b body (Some loop) = loop
or-for b body None = For b body

-- the loop of a block whose last item is the test, if it is one, and whose others are these
abbrev last-loop : ℕ → Plan → Option Leaving → Option Item
last-loop b plan (Some test) = if is_empty test.goes_on && not (continues plan) then Some (DoWhile test.on test.block b plan) else None
last-loop b plan None = None

told-last : (b : ℕ) (xs : List TheItem) (y : TheItem) (i : Item) (rest : Plan) (o : Option Leaving) → plan_of (xs ++ y ∷ []) ≡ item i rest → leaving_of (item_of y) ≡ o
    → told_last b i rest ≡ or-for b (item i rest) (last-loop b (plan_of xs) o)
told-last b xs y i rest o whole is =
    let ends = ends-with xs y i rest whole in
    ap (or-for b (item i rest)) (ap₂ (tests_last b) ends.1 ends.0 ∙ ap (last-loop b (plan_of xs)) is)

-- where the last item is no test that leaves the loop
pub last-stays : (b : ℕ) (xs : List TheItem) (y : TheItem) (i : Item) (rest : Plan) → plan_of (xs ++ y ∷ []) ≡ item i rest → leaving_of (item_of y) ≡ None
    → told_last b i rest ≡ For b (item i rest)
last-stays b xs y i rest whole is = told-last b xs y i rest None whole is

-- where the last item is a test that leaves the loop
pub last-test : (b : ℕ) (xs : List TheItem) (y : TheItem) (i : Item) (rest : Plan) (test : Leaving) (empty found : Bool) → plan_of (xs ++ y ∷ []) ≡ item i rest
    → leaving_of (item_of y) ≡ Some test → is_empty test.goes_on ≡ empty → continues (item i rest) ≡ found
    → told_last b i rest ≡ (if empty && not found then DoWhile test.on test.block b (plan_of xs) else For b (item i rest))
last-test b xs y i rest test empty found whole is none calm = told-last b xs y i rest (Some test) whole is ∙ by empty none
  where
    made : Bool → Bool → Item
    made e k = or-for b (item i rest) (if e && not k then Some (DoWhile test.on test.block b (plan_of xs)) else None)

    chosen : (k : Bool) → made true k ≡ (if not k then DoWhile test.on test.block b (plan_of xs) else For b (item i rest))
    chosen true = refl
    chosen false = refl

    by : (empty : Bool) → is_empty test.goes_on ≡ empty
        → made (is_empty test.goes_on) (continues (plan_of xs)) ≡ (if empty && not found then DoWhile test.on test.block b (plan_of xs) else For b (item i rest))
    by false none = ap (λ e. made e (continues (plan_of xs))) none
    by true none = ap₂ made none (sym (same-continues xs y test is none) ∙ ap continues whole ∙ calm) ∙ chosen found

-- a loop with a `continue` among its items stays
pub last-continues : (b : ℕ) (xs : List TheItem) (y : TheItem) (i : Item) (rest : Plan) (test : Leaving) → plan_of (xs ++ y ∷ []) ≡ item i rest
    → leaving_of (item_of y) ≡ Some test → continues (item i rest) ≡ true → told_last b i rest ≡ For b (item i rest)
last-continues b xs y i rest test whole is found = last-test b xs y i rest test (is_empty test.goes_on) true whole is refl found ∙ by (is_empty test.goes_on)
  where
    by : (empty : Bool) → (if empty && not true then DoWhile test.on test.block b (plan_of xs) else For b (item i rest)) ≡ For b (item i rest)
    by true = refl
    by false = refl

-- the items before the last one
pub front-taken : (items xs : List TheItem) (y : TheItem) (n : ℕ) → items ≡ xs ++ y ∷ [] → n ≡ length xs → take n items ≡ xs
front-taken items xs y n is count =
    ap₂ take count is ∙ take-append-le (length xs) xs (y ∷ []) (omega arith) ∙ take_all (length xs) xs (omega arith)
