-- Which loops are told by their tests, and which blocks' labels and turns stand in them.
use Rattle.std.proofs.Common.{◌≡◌, ℕ, inl, inr, Bool, true, false, ◌==◌, List, [], ◌∷◌, ◌++◌, Option, Some, None, refl, sym, ap, ap₂, ◌∙◌, subst, true≢false}
use Rattle.std.specs.Prelude.{◌&&◌, not, if◌then◌else◌}
use Rattle.std.proofs.lemmas.Bool.{and_parts, or_left, or_right, or_cases, not-true, eqb-true}
use Rattle.std.proofs.lemmas.List.{append_assoc, append-nil}
use Rattle.std.proofs.lemmas.List.Folds.{list_any-append}
use Rattle.dcc_control.specs.Plan.{Item, If, Switch, For, While, DoWhile, Break, Plan, no_items, item, Arms, no_arms, arm, joined, marks, item_marks, arm_marks, turns, item_turns, arm_turns, is_in, is_of, starts_with}
use Rattle.dcc_control.specs.Told.{is_empty, only_breaks, Leaving, leaving_of, continues, last, front, tests_first, tests_last, told_last, told_loop, told_loops, told_item, told_arms}

pub some-same : {A : Type 0} {a b : A} → Some a ≡ Some b → a ≡ b
some-same e = cc

-- Tests that leave a loop.

breaks-is : (plan : Plan) → only_breaks plan ≡ true → plan ≡ item Break no_items
breaks-is (item Break no_items) is = refl
breaks-is _ is = absurd (true≢false (sym is))

pub empty-is : (plan : Plan) → is_empty plan ≡ true → plan ≡ no_items
empty-is no_items is = refl
empty-is (item i plan) is = absurd (true≢false (sym is))

-- a test that leaves the loop but for one truth value, for which it goes on with a plan
abbrev pub leaving : Bool → ℕ → Plan → Item
leaving true b plan = If b plan (item Break no_items)
leaving false b plan = If b (item Break no_items) plan

pub leaving-is : (i : Item) (test : Leaving) → leaving_of i ≡ Some test → i ≡ leaving test.on test.block test.goes_on
leaving-is (If b one other) test is = by (only_breaks other) (only_breaks one) refl refl is
  where
    by : (x y : Bool) → only_breaks other ≡ x → only_breaks one ≡ y
        → (if x then Some (record { on = true; block = b; goes_on = one }) else if y then Some (record { on = false; block = b; goes_on = other }) else None) ≡ Some test
        → If b one other ≡ leaving test.on test.block test.goes_on
    by true y e f is = ap (If b one) (breaks-is other e) ∙ ap (λ (t : Leaving). leaving t.on t.block t.goes_on) (some-same is)
    by false true e f is = ap (λ plan. If b plan other) (breaks-is one f) ∙ ap (λ (t : Leaving). leaving t.on t.block t.goes_on) (some-same is)
    by false false e f is = absurd cc
leaving-is _ test is = absurd cc

pub leaving-of : (b : ℕ) (on : Bool) (a : ℕ) (plan : Plan) → is_of b (leaving on a plan) ≡ (a == b)
leaving-of b true a plan = refl
leaving-of b false a plan = refl

-- The loop of a block with these items, as it is told.
pub data IsTold (b : ℕ) : Plan → Item → Type 0 where
  stays : {body : Plan} → IsTold b body (For b body)
  first : (on : Bool) (goes_on plan : Plan) → IsTold b (item (leaving on b goes_on) plan) (While on b (joined goes_on plan))
  lasts : (on : Bool) (a : ℕ) (plan : Plan) → continues plan ≡ false → starts_with b plan ≡ true → IsTold b (joined plan (item (leaving on a no_items) no_items)) (DoWhile on a b plan)

first-is : (b : ℕ) (i : Item) (plan : Plan) (loop : Item) → tests_first b i plan ≡ Some loop → IsTold b (item i plan) loop
first-is b i plan loop is = by (leaving_of i) refl is
  where
    here : (test : Leaving) → leaving_of i ≡ Some test → (x : Bool) → (test.block == b) ≡ x
        → (if x then Some (While test.on b (joined test.goes_on plan)) else None) ≡ Some loop → IsTold b (item i plan) loop
    here test e true same is =
        let item_is : i ≡ leaving test.on b test.goes_on = leaving-is i test e ∙ ap (λ k. leaving test.on k test.goes_on) (eqb-true test.block b same) in
        subst (IsTold b (item i plan)) (some-same is)
        (subst (λ j. IsTold b (item j plan) (While test.on b (joined test.goes_on plan))) (sym item_is) (first test.on test.goes_on plan))
    here test e false same is = absurd cc

    by : (o : Option Leaving) → leaving_of i ≡ o
        → (elim o [ Some test ↦ if test.block == b then Some (While test.on b (joined test.goes_on plan)) else None | None ↦ None ]) ≡ Some loop → IsTold b (item i plan) loop
    by None e is = absurd cc
    by (Some test) e is = here test e (test.block == b) refl is

lasts-is : (b : ℕ) (plan : Plan) (i loop : Item) → starts_with b plan ≡ true → tests_last b plan i ≡ Some loop → IsTold b (joined plan (item i no_items)) loop
lasts-is b plan i loop starts is = by (leaving_of i) refl is
  where
    here : (test : Leaving) → leaving_of i ≡ Some test → (x : Bool) → (is_empty test.goes_on && not (continues plan)) ≡ x
        → (if x then Some (DoWhile test.on test.block b plan) else None) ≡ Some loop → IsTold b (joined plan (item i no_items)) loop
    here test e true both is =
        let (none, calm) = and_parts (is_empty test.goes_on) (not (continues plan)) both in
        let item_is : i ≡ leaving test.on test.block no_items = leaving-is i test e ∙ ap (leaving test.on test.block) (empty-is test.goes_on none) in
        subst (IsTold b (joined plan (item i no_items))) (some-same is)
        (subst (λ j. IsTold b (joined plan (item j no_items)) (DoWhile test.on test.block b plan)) (sym item_is) (lasts test.on test.block plan (not-true (continues plan) calm) starts))
    here test e false both is = absurd cc

    by : (o : Option Leaving) → leaving_of i ≡ o
        → (elim o [ Some test ↦ if is_empty test.goes_on && not (continues plan) then Some (DoWhile test.on test.block b plan) else None | None ↦ None ]) ≡ Some loop
        → IsTold b (joined plan (item i no_items)) loop
    by None e is = absurd cc
    by (Some test) e is = here test e (is_empty test.goes_on && not (continues plan)) refl is

front-last : (i : Item) (plan : Plan) → joined (front i plan) (item (last i plan) no_items) ≡ item i plan
front-last i no_items = refl
front-last i (item next plan) = ap (item i) (front-last next plan)

-- where the first item is one of the block and no test that leaves the loop at once, so is the first before the last
front-starts : (b : ℕ) (i : Item) (plan : Plan) (loop : Item) → tests_first b i plan ≡ None → is_of b i ≡ true → tests_last b (front i plan) (last i plan) ≡ Some loop
    → starts_with b (front i plan) ≡ true
front-starts b i (item next plan) loop none is loops = is
front-starts b i no_items loop none is loops = absurd (by (leaving_of i) refl none loops)
  where
    by : (o : Option Leaving) → leaving_of i ≡ o
        → ◌≡◌ {A = Option Item} (elim o [ Some test ↦ if test.block == b then Some (While test.on b (joined test.goes_on no_items)) else None | None ↦ None ]) None
        → (elim o [ Some test ↦ if is_empty test.goes_on && not (continues no_items) then Some (DoWhile test.on test.block b no_items) else None | None ↦ None ]) ≡ Some loop → ⊥
    by None e none loops = absurd cc
    by (Some test) e none loops =
        let same : (test.block == b) ≡ true = sym (leaving-of b test.on test.block test.goes_on) ∙ ap (is_of b) (sym (leaving-is i test e)) ∙ is in
        let found = ap (λ x. if x then Some (While test.on b (joined test.goes_on no_items)) else None) (sym same) ∙ none in absurd cc

pub told-is : (b : ℕ) (body : Plan) → IsTold b body (told_loop b body)
told-is b no_items = stays
told-is b (item i plan) = by (tests_first b i plan) refl
  where
    by-last : (o : Option Item) → tests_first b i plan ≡ None → is_of b i ≡ true → tests_last b (front i plan) (last i plan) ≡ o
        → IsTold b (item i plan) (elim o [ Some loop ↦ loop | None ↦ For b (item i plan) ])
    by-last (Some loop) none of e =
        subst (λ body. IsTold b body loop) (front-last i plan) (lasts-is b (front i plan) (last i plan) loop (front-starts b i plan loop none of e) e)
    by-last None none of e = stays

    by-kind : (x : Bool) → tests_first b i plan ≡ None → is_of b i ≡ x → IsTold b (item i plan) (if x then told_last b i plan else For b (item i plan))
    by-kind true none of = by-last (tests_last b (front i plan) (last i plan)) none of refl
    by-kind false none of = stays

    by : (o : Option Item) → tests_first b i plan ≡ o
        → IsTold b (item i plan) (elim o [ Some loop ↦ loop | None ↦ if is_of b i then told_last b i plan else For b (item i plan) ])
    by (Some loop) e = first-is b i plan loop e
    by None e = by-kind (is_of b i) e refl

-- Numbers of blocks, gathered from items in their order.

module _ (parts : Plan → List ℕ) (item_parts : Item → List ℕ) (none : parts no_items ≡ []) (cons : (i : Item) (plan : Plan) → parts (item i plan) ≡ item_parts i ++ parts plan)
    (sides : (b : ℕ) (one other : Plan) → item_parts (If b one other) ≡ parts one ++ parts other) (breaks : item_parts Break ≡ []) where
  break-parts : parts (item Break no_items) ≡ []
  break-parts = cons Break no_items ∙ ap₂ (λ xs ys. xs ++ ys) breaks none

  leaving-parts : (on : Bool) (b : ℕ) (plan : Plan) → item_parts (leaving on b plan) ≡ parts plan
  leaving-parts true b plan = sides b plan (item Break no_items) ∙ ap (λ ys. parts plan ++ ys) break-parts ∙ append-nil (parts plan)
  leaving-parts false b plan = sides b (item Break no_items) plan ∙ ap (λ xs. xs ++ parts plan) break-parts

  joined-parts : (plan after : Plan) → parts (joined plan after) ≡ parts plan ++ parts after
  joined-parts no_items after = sym (ap (λ xs. xs ++ parts after) none)
  joined-parts (item i plan) after =
      cons i (joined plan after)
      ∙ ap (λ ys. item_parts i ++ ys) (joined-parts plan after)
      ∙ sym (append_assoc (item_parts i) (parts plan) (parts after))
      ∙ sym (ap (λ xs. xs ++ parts after) (cons i plan))

  first-parts : (on : Bool) (b : ℕ) (goes_on plan : Plan) → parts (joined goes_on plan) ≡ parts (item (leaving on b goes_on) plan)
  first-parts on b goes_on plan = joined-parts goes_on plan ∙ sym (cons (leaving on b goes_on) plan ∙ ap (λ xs. xs ++ parts plan) (leaving-parts on b goes_on))

  last-parts : (on : Bool) (a : ℕ) (plan : Plan) → parts plan ≡ parts (joined plan (item (leaving on a no_items) no_items))
  last-parts on a plan =
      let end = item (leaving on a no_items) no_items in
      let nothing : parts end ≡ [] = cons (leaving on a no_items) no_items ∙ ap₂ (λ xs ys. xs ++ ys) (leaving-parts on a no_items ∙ none) none in
      sym (joined-parts plan end ∙ ap (λ ys. parts plan ++ ys) nothing ∙ append-nil (parts plan))

-- One list lies in another.

abbrev pub Within : List ℕ → List ℕ → Type 0
Within xs ys = (b : ℕ) → is_in b xs ≡ true → is_in b ys ≡ true

both-within : (xs ys more others : List ℕ) → Within xs more → Within ys others → Within (xs ++ ys) (more ++ others)
both-within xs ys more others f g b is = elim (or_cases (is_in b xs) (is_in b ys) (sym (list_any-append (λ a. a == b) xs ys) ∙ is)) [
  | inl here ↦ list_any-append (λ a. a == b) more others ∙ or_left (is_in b more) (is_in b others) (f b here)
  | inr there ↦ list_any-append (λ a. a == b) more others ∙ or_right (is_in b more) (is_in b others) (g b there)
]

same-within : {xs ys : List ℕ} → xs ≡ ys → Within xs ys
same-within same b is = ap (is_in b) (sym same) ∙ is

-- Labels and turns of a loop that is told.

told-marks : {b : ℕ} {body : Plan} {i : Item} → IsTold b body i → item_marks i ≡ marks body
told-marks stays = refl
told-marks {b = b} (first on goes_on plan) = first-parts marks item_marks refl (λ i p. refl) (λ a one other. refl) refl on b goes_on plan
told-marks (lasts on a plan calm starts) = last-parts marks item_marks refl (λ i p. refl) (λ b one other. refl) refl on a plan

told-turns : {b : ℕ} {body : Plan} {i : Item} → IsTold b body i → Within (item_turns i) (b ∷ turns body)
told-turns stays = λ k is. is
told-turns {b = b} (first on goes_on plan) =
    λ k is. or_right (b == k) (is_in k (turns (item (leaving on b goes_on) plan)))
    (same-within (first-parts turns item_turns refl (λ i p. refl) (λ a one other. refl) refl on b goes_on plan) k is)
told-turns {b = b} (lasts on a plan calm starts) =
    λ k is. or_right (b == k) (is_in k (turns (joined plan (item (leaving on a no_items) no_items))))
    (same-within (last-parts turns item_turns refl (λ i p. refl) (λ x one other. refl) refl on a plan) k is)

pub turns-kept : {b : ℕ} {body : Plan} {i : Item} → IsTold b body i → Within (turns body) (item_turns i)
turns-kept {b = b} (stays {body = body}) = λ k is. or_right (b == k) (is_in k (turns body)) is
turns-kept {b = b} (first on goes_on plan) = same-within (sym (first-parts turns item_turns refl (λ i p. refl) (λ a one other. refl) refl on b goes_on plan))
turns-kept (lasts on a plan calm starts) = same-within (sym (last-parts turns item_turns refl (λ i p. refl) (λ x one other. refl) refl on a plan))

-- Labels and turns of a plan whose loops are told.

mutual
  pub marks-told : (plan : Plan) → marks (told_loops plan) ≡ marks plan
  marks-told no_items = refl
  marks-told (item i plan) = ap₂ (λ xs ys. xs ++ ys) (item-marks-told i) (marks-told plan)

  item-marks-told : (i : Item) → item_marks (told_item i) ≡ item_marks i
  item-marks-told (If b one other) = ap₂ (λ xs ys. xs ++ ys) (marks-told one) (marks-told other)
  item-marks-told (Switch b arms) = arm-marks-told arms
  item-marks-told (For b body) = told-marks (told-is b (told_loops body)) ∙ marks-told body
  item-marks-told (While on b body) = marks-told body
  item-marks-told (DoWhile on b head body) = marks-told body
  item-marks-told _ = refl

  arm-marks-told : (arms : Arms) → arm_marks (told_arms arms) ≡ arm_marks arms
  arm-marks-told no_arms = refl
  arm-marks-told (arm cases body arms) = ap₂ (λ xs ys. xs ++ ys) (marks-told body) (arm-marks-told arms)

mutual
  pub turns-told : (plan : Plan) → Within (turns (told_loops plan)) (turns plan)
  turns-told no_items = λ k is. is
  turns-told (item i plan) = both-within (item_turns (told_item i)) (turns (told_loops plan)) (item_turns i) (turns plan) (item-turns-told i) (turns-told plan)

  item-turns-told : (i : Item) → Within (item_turns (told_item i)) (item_turns i)
  item-turns-told (If b one other) = both-within (turns (told_loops one)) (turns (told_loops other)) (turns one) (turns other) (turns-told one) (turns-told other)
  item-turns-told (Switch b arms) = arm-turns-told arms
  item-turns-told (For b body) =
      λ k is. both-within (b ∷ []) (turns (told_loops body)) (b ∷ []) (turns body) (λ n there. there) (turns-told body) k (told-turns (told-is b (told_loops body)) k is)
  item-turns-told (While on b body) = turns-told body
  item-turns-told (DoWhile on b head body) = turns-told body
  item-turns-told _ = λ k is. is

  arm-turns-told : (arms : Arms) → Within (arm_turns (told_arms arms)) (arm_turns arms)
  arm-turns-told no_arms = λ k is. is
  arm-turns-told (arm cases body arms) = both-within (turns (told_loops body)) (arm_turns (told_arms arms)) (turns body) (arm_turns arms) (turns-told body) (arm-turns-told arms)
