-- The text of a plan whose loops are told by their tests has a step for the same blocks.
use Rattle.std.proofs.Common.{◌≡◌, ℕ, inl, inr, Bool, true, false, ◌==◌, List, [], ◌∷◌, ◌++◌, Option, Some, None, refl, sym, ap, ap₂, ◌∙◌, true≢false}
use Rattle.std.specs.Prelude.{◌⊎◌, ◌||◌, not, if◌then◌else◌}
use Rattle.std.proofs.lemmas.Bool.{or_left, or_right, or_cases, not_from_false, cases_Bool, eqb-true, false_from_ne_true}
use Rattle.std.proofs.lemmas.List.Folds.{list_any-append}
use Rattle.dcc_ir.specs.Live.{block_in}
use Rattle.dcc_ir.specs.Tree as inner
use Rattle.dcc_control.specs.Plan.{Item, If, Switch, For, While, DoWhile, Plan, no_items, item, Arms, no_arms, arm, joined, turns, item_turns, arm_turns, is_in, is_marked, is_begun, is_of, starts_with}
use Rattle.dcc_control.specs.Told.{Leaving, leaving_of, last, front, tests_first, tests_last, told_loops, told_item, told_arms, told_last, told_loop, ToldLoopsKeepSteps}
use Rattle.dcc_control.specs.Valid.{Context, outside, only_goes, IsValidBy, IsValidItemBy, AreValidArmsBy}
use Rattle.dcc_control.proofs.StartLaws.{not-started}
use Rattle.dcc_control.proofs.ToldLaws.{of-told}
use Rattle.dcc_control.proofs.ToldShapes.{leaving-is, leaving-of, told-is, turns-kept, marks-told, turns-told}

-- A loop that is told begins with an item of its block.

first-of : (b : ℕ) (i : Item) (plan : Plan) (loop : Item) → tests_first b i plan ≡ Some loop → is_of b i ≡ true
first-of b i plan loop is = by (leaving_of i) refl is
  where
    here : (test : Leaving) → leaving_of i ≡ Some test → (x : Bool) → (test.block == b) ≡ x
        → (if x then Some (While test.on b (joined test.goes_on plan)) else None) ≡ Some loop → is_of b i ≡ true
    here test e true same is = ap (is_of b) (leaving-is i test e) ∙ leaving-of b test.on test.block test.goes_on ∙ same
    here test e false same is = absurd cc

    by : (o : Option Leaving) → leaving_of i ≡ o
        → (elim o [ Some test ↦ if test.block == b then Some (While test.on b (joined test.goes_on plan)) else None | None ↦ None ]) ≡ Some loop → is_of b i ≡ true
    by None e is = absurd cc
    by (Some test) e is = here test e (test.block == b) refl is

told-kind : (b : ℕ) (body : Plan) → (told_loop b body ≡ For b body) ⊎ (starts_with b body ≡ true)
told-kind b no_items = inl refl
told-kind b (item i plan) = elim (cases_Bool (is_of b i)) [
  | inl is ↦ inr is
  | inr apart ↦ inl (by (tests_first b i plan) refl apart)
]
  where
    by : (o : Option Item) → tests_first b i plan ≡ o → is_of b i ≡ false
        → (elim o [ Some loop ↦ loop | None ↦ if is_of b i then told_last b i plan else For b (item i plan) ]) ≡ For b (item i plan)
    by (Some loop) e apart = absurd (true≢false (sym (first-of b i plan loop e) ∙ apart))
    by None e apart = ap (λ x. if x then told_last b i plan else For b (item i plan)) apart

starts-told : (b : ℕ) (plan : Plan) → starts_with b (told_loops plan) ≡ true → starts_with b plan ≡ true
starts-told b no_items is = is
starts-told b (item i plan) is = sym (of-told b i) ∙ is

-- A block that only goes to another.
module _ (graph : inner.Graph) (begun marked : ℕ → Bool) (b : ℕ) (jumps : only_goes (block_in graph b).stmts (block_in graph b).exit ≡ true) where
  abbrev Valid : Plan → Context → Type 0
  Valid = IsValidBy graph begun marked

  -- the loop isn't this block's where it is told another way
  other-block : (h : ℕ) (body : Plan) (c : Context) → Valid body c → starts_with h (told_loops body) ≡ true → (h == b) ≡ false
  other-block h body c v is =
      false_from_ne_true (h == b) (λ same. not-started graph begun marked b body c jumps v (ap (λ k. starts_with k body) (sym (eqb-true h b same)) ∙ starts-told h body is))

  abbrev In : List ℕ → Type 0
  In bs = is_in b bs ≡ true

  either : (xs ys more others : List ℕ) → (In xs → In more) → (In ys → In others) → In (xs ++ ys) → In (more ++ others)
  either xs ys more others f g is = elim (or_cases (is_in b xs) (is_in b ys) (sym (list_any-append (λ a. a == b) xs ys) ∙ is)) [
    | inl here ↦ list_any-append (λ a. a == b) more others ∙ or_left (is_in b more) (is_in b others) (f here)
    | inr there ↦ list_any-append (λ a. a == b) more others ∙ or_right (is_in b more) (is_in b others) (g there)
  ]

  past : (h : ℕ) (bs : List ℕ) → (h == b) ≡ false → In (h ∷ bs) → In bs
  past h bs apart is = sym (ap (λ x. x || is_in b bs) apart) ∙ is

  mutual
    turns-stay : (plan : Plan) (c : Context) → Valid plan c → In (turns plan) → In (turns (told_loops plan))
    turns-stay no_items c v is = is
    turns-stay (item i plan) c v is =
        either (item_turns i) (turns plan) (item_turns (told_item i)) (turns (told_loops plan)) (item-turns-stay i plan c v.0) (turns-stay plan c v.1) is

    item-turns-stay : (i : Item) (plan : Plan) (c : Context) → IsValidItemBy graph begun marked i plan c → In (item_turns i) → In (item_turns (told_item i))
    item-turns-stay (If a one other) plan c v is =
        either (turns one) (turns other) (turns (told_loops one)) (turns (told_loops other)) (turns-stay one _ v.6) (turns-stay other _ v.8) is
    item-turns-stay (Switch a arms) plan c v is = arm-turns-stay arms _ v.5 is
    item-turns-stay (For h body) plan c v is = elim (told-kind h (told_loops body)) [
      | inl same ↦ ap (λ i. is_in b (item_turns i)) same ∙ either (h ∷ []) (turns body) (h ∷ []) (turns (told_loops body)) (λ here. here) (turns-stay body _ v.2) is
      | inr of ↦ turns-kept (told-is h (told_loops body)) b (turns-stay body _ v.2 (past h (turns body) (other-block h body _ v.2 of) is))
    ]
    item-turns-stay (While on a body) plan c v is = turns-stay body _ v.7 is
    item-turns-stay (DoWhile on a head body) plan c v is = turns-stay body _ v.9 is
    item-turns-stay _ plan c v is = is

    arm-turns-stay : (arms : Arms) (c : Context) → AreValidArmsBy graph begun marked arms c → In (arm_turns arms) → In (arm_turns (told_arms arms))
    arm-turns-stay no_arms c v is = is
    arm-turns-stay (arm cases body arms) c v is =
        either (turns body) (arm_turns arms) (turns (told_loops body)) (arm_turns (told_arms arms)) (turns-stay body c v.0) (arm-turns-stay arms c v.1) is

same-truth : (x y : Bool) → (x ≡ true → y ≡ true) → (y ≡ true → x ≡ true) → x ≡ y
same-truth true y f g = sym (f refl)
same-truth false true f g = g refl
same-truth false false f g = refl

pub steps-kept : ToldLoopsKeepSteps
steps-kept graph plan is b = elim (cases_Bool (only_goes (block_in graph b).stmts (block_in graph b).exit)) [
  | inl jumps ↦
      let told = told_loops plan in
      let turning : is_in b (turns told) ≡ is_in b (turns plan) =
      same-truth (is_in b (turns told)) (is_in b (turns plan)) (turns-told plan b) (turns-stay graph (is_begun plan) (is_marked plan) b jumps plan outside is.valid) in
      ap (λ x. x || not (only_goes (block_in graph b).stmts (block_in graph b).exit))
      (ap₂ (λ x y. x || y) (ap (is_in b) (marks-told plan)) turning)
  | inr more ↦
      let step = not_from_false (only_goes (block_in graph b).stmts (block_in graph b).exit) more in
      or_right (is_begun (told_loops plan) b) (not (only_goes (block_in graph b).stmts (block_in graph b).exit)) step
      ∙ sym (or_right (is_begun plan b) (not (only_goes (block_in graph b).stmts (block_in graph b).exit)) step)
]
