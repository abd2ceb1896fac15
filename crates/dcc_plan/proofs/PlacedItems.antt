-- The items of the plan of a text with jumps may stand where they do.
use Rattle.std.proofs.Common.{◌≡◌, ℕ, suc, ◌+◌, ◌≤◌, inl, inr, Bool, true, false, ◌==◌, List, [], ◌∷◌, ◌++◌, length, Some, refl, sym, ap, ap₂, ◌∙◌, true≢false, arith}
use Rattle.std.specs.Prelude.{◌&&◌, ◌||◌, not, nat_lt, nat_le, if◌then◌else◌, slice_get, filter}
use Rattle.std.specs.List.{list_all}
use Rattle.std.proofs.lemmas.Bool.{cases_Bool, and_parts, and_from, or_from, or_cases, or_left, or_right, eqb-true, eq-eqb, le-leb, leb-true, not-true, not_from_false, false_from_ne_true}
use Rattle.std.proofs.lemmas.List.Folds.{list_any-append}
use Rattle.dcc_ir.specs.Tree as inner
use Rattle.dcc_ir.specs.WellFormed.{is_stmt, is_expr_of, is_exit, is_block}
use Rattle.dcc_c.specs.Grammar.{outermost, in_switch}
use Rattle.dcc_c.specs.Rules.{differ}
use Rattle.dcc_c.proofs.Writable.{are_cases}
use Rattle.dcc_plan.specs.Allowed.{may_stand, item_may_stand, arms_may_stand, GotoPlansMayStand}
use Rattle.dcc_control.specs.Complete.{followed, some_arms, completed, completed_item, completed_arms}
use Rattle.dcc_control.specs.GotoPlan.{jump, do_all, distinct, places_from, target_arms, goto_exit, goto_blocks}
use Rattle.dcc_control.specs.Plan.{Item, Do, Mark, Jump, If, Switch, Return, Plan, no_items, item, arm, is_in, is_mark, all_cases}

-- Numbers that differ.

-- what is in a filtered list is in the list
from-filter : (n : ℕ) (test : ℕ → Bool) (xs : List ℕ) → is_in n (filter test xs) ≡ true → is_in n xs ≡ true
from-filter n test [] is = is
from-filter n test (x ∷ xs) is = by (test x) (from-filter n test xs) is
  where
    by : (b : Bool) → (is_in n (filter test xs) ≡ true → is_in n xs ≡ true) → is_in n (if b then x ∷ filter test xs else filter test xs) ≡ true → is_in n (x ∷ xs) ≡ true
    by true others there = elim (or_cases (x == n) (is_in n (filter test xs)) there) [
      | inl here ↦ or_left (x == n) (is_in n xs) here
      | inr later ↦ or_right (x == n) (is_in n xs) (others later)
    ]
    by false others there = or_right (x == n) (is_in n xs) (others there)

not-in : (n : ℕ) (xs : List ℕ) → (is_in n xs ≡ true → ⊥) → is_in n xs ≡ false
not-in n xs never = false_from_ne_true (is_in n xs) never

filter-differs : (test : ℕ → Bool) (xs : List ℕ) → differ xs ≡ true → differ (filter test xs) ≡ true
filter-differs test [] is = refl
filter-differs test (x ∷ xs) is =
    let (front, others) = and_parts (not (is_in x xs)) (differ xs) is in
    by (test x) front (filter-differs test xs others)
  where
    by : (b : Bool) → not (is_in x xs) ≡ true → differ (filter test xs) ≡ true → differ (if b then x ∷ filter test xs else filter test xs) ≡ true
    by true front others =
        and_from (not (is_in x (filter test xs))) (differ (filter test xs))
        (not_from_false (is_in x (filter test xs)) (not-in x (filter test xs) (λ there. true≢false (sym (from-filter x test xs there) ∙ not-true (is_in x xs) front)))) others
    by false front others = others

-- a number is not in a list without it
filtered-out : (n : ℕ) (xs : List ℕ) → is_in n (filter (λ m. not (m == n)) xs) ≡ false
filtered-out n [] = refl
filtered-out n (x ∷ xs) = elim (cases_Bool (x == n)) [
  | inl same ↦ rw same (filtered-out n xs)
  | inr apart ↦ rw apart (or_from (x == n) (is_in n (filter (λ m. not (m == n)) xs)) apart (filtered-out n xs))
]

distinct-differ : (ns : List ℕ) → differ (distinct ns) ≡ true
distinct-differ [] = refl
distinct-differ (n ∷ ns) =
    let others = filter (λ m. not (m == n)) (distinct ns) in
    and_from (not (is_in n others)) (differ others) (not_from_false (is_in n others) (filtered-out n (distinct ns))) (filter-differs (λ m. not (m == n)) (distinct ns) (distinct-differ ns))

distinct-in : (n : ℕ) (ns : List ℕ) → is_in n (distinct ns) ≡ true → is_in n ns ≡ true
distinct-in n [] is = is
distinct-in n (m ∷ ns) is = elim (or_cases (m == n) (is_in n (filter (λ k. not (k == m)) (distinct ns))) is) [
  | inl here ↦ or_left (m == n) (is_in n ns) here
  | inr later ↦ or_right (m == n) (is_in n ns) (distinct-in n ns (from-filter n (λ k. not (k == m)) (distinct ns) later))
]

pub differ-both : (xs ys : List ℕ) → differ xs ≡ true → differ ys ≡ true → ((n : ℕ) → is_in n xs ≡ true → is_in n ys ≡ false) → differ (xs ++ ys) ≡ true
differ-both [] ys first second apart = second
differ-both (x ∷ xs) ys first second apart =
    let (front, others) = and_parts (not (is_in x xs)) (differ xs) first in
    and_from (not (is_in x (xs ++ ys))) (differ (xs ++ ys))
    (not_from_false (is_in x (xs ++ ys))
    (list_any-append (λ a. a == x) xs ys ∙ or_from (is_in x xs) (is_in x ys) (not-true (is_in x xs) front) (apart x (or_left (x == x) (is_in x xs) (eq-eqb x x refl)))))
    (differ-both xs ys others second (λ n there. apart n (or_right (x == n) (is_in n xs) there)))

-- Cases: the places of a target.

-- the list has the target at a place that is found
record IsFound (place target : ℕ) (places : List ℕ) (n : ℕ) : Type 0 where
  k : ℕ
  at : n ≡ place + k
  there : slice_get places k ≡ Some target

found : (place target : ℕ) (places : List ℕ) (n : ℕ) → is_in n (places_from place target places) ≡ true → IsFound place target places n
found place target [] n is = absurd (true≢false (sym is))
found place target (m ∷ ms) n is = elim (cases_Bool (m == target)) [
  | inl same ↦ elim (or_cases (place == n) (is_in n (places_from (suc place) target ms)) (ap (λ b. is_in n (if b then place ∷ places_from (suc place) target ms else places_from (suc place) target ms)) (sym same) ∙ is)) [
    | inl here ↦ record { k = 0; at = omega (arith, eqb-true place n here); there = ap (λ t. Some t) (eqb-true m target same) }
    | inr later ↦ next (found (suc place) target ms n later)
  ]
  | inr apart ↦ next (found (suc place) target ms n (ap (λ b. is_in n (if b then place ∷ places_from (suc place) target ms else places_from (suc place) target ms)) (sym apart) ∙ is))
]
  where
    next : IsFound (suc place) target ms n → IsFound place target (m ∷ ms) n
    next x = record { k = suc x.k; at = omega (arith, x.at); there = x.there }

places-differ : (place target : ℕ) (places : List ℕ) → differ (places_from place target places) ≡ true
places-differ place target [] = refl
places-differ place target (m ∷ ms) = by (m == target) (places-differ (suc place) target ms)
  where
    by : (b : Bool) → differ (places_from (suc place) target ms) ≡ true → differ (if b then place ∷ places_from (suc place) target ms else places_from (suc place) target ms) ≡ true
    by true others =
        and_from (not (is_in place (places_from (suc place) target ms))) (differ (places_from (suc place) target ms))
        (not_from_false (is_in place (places_from (suc place) target ms))
        (not-in place (places_from (suc place) target ms) (λ there. let x = found (suc place) target ms place there in absurd (omega (arith, x.at)))))
        others
    by false others = others

-- each is a number of 16 bits, and there is one for each target
abbrev is_small : ℕ → Bool
is_small m = nat_le m 65535

places-small : (place target : ℕ) (places : List ℕ) → place + length places ≤ 65536 → list_all is_small (places_from place target places) ≡ true
places-small place target [] few = refl
places-small place target (m ∷ ms) few = by (m == target) (places-small (suc place) target ms (omega (arith, few)))
  where
    by : (b : Bool) → list_all is_small (places_from (suc place) target ms) ≡ true → list_all is_small (if b then place ∷ places_from (suc place) target ms else places_from (suc place) target ms) ≡ true
    by true others = and_from (is_small place) (list_all is_small (places_from (suc place) target ms)) (le-leb place 65535 (omega (arith, few))) others
    by false others = others

cases-from : (xs : List ℕ) → list_all is_small xs ≡ true → (xs ≡ [] → ⊥) → are_cases xs ≡ true
cases-from [] all some = absurd (some refl)
cases-from (x ∷ xs) all some = all

places-some : (place target : ℕ) (places : List ℕ) → is_in target places ≡ true → places_from place target places ≡ [] → ⊥
places-some place target [] is none = true≢false (sym is)
places-some place target (m ∷ ms) is none = elim (cases_Bool (m == target)) [
  | inl same ↦ cons-some (ap (λ b. if b then place ∷ places_from (suc place) target ms else places_from (suc place) target ms) (sym same) ∙ none)
  | inr apart ↦ places-some (suc place) target ms (ap (λ b. b || is_in target ms) (sym apart) ∙ is)
      (ap (λ b. if b then place ∷ places_from (suc place) target ms else places_from (suc place) target ms) (sym apart) ∙ none)
]
  where
    cons-some : {x : ℕ} {xs : List ℕ} → x ∷ xs ≡ [] → ⊥
    cons-some e = absurd cc

-- Arms.

record HasTarget (places targets : List ℕ) (n : ℕ) : Type 0 where
  target : ℕ
  among : is_in target targets ≡ true
  there : slice_get places n ≡ Some target

case-target : (places targets : List ℕ) (n : ℕ) → is_in n (all_cases (target_arms places targets)) ≡ true → HasTarget places targets n
case-target places [] n is = absurd (true≢false (sym is))
case-target places (t ∷ targets) n is =
    elim (or_cases (is_in n (places_from 0 t places)) (is_in n (all_cases (target_arms places targets))) (sym (list_any-append (λ a. a == n) (places_from 0 t places) (all_cases (target_arms places targets))) ∙ is)) [
      | inl here ↦ (let x = found 0 t places n here in record {
        target = t;
        among = or_left (t == t) (is_in t targets) (eq-eqb t t refl);
        there = ap (slice_get places) (let e : n ≡ x.k = omega (arith, x.at) in e) ∙ x.there;
      })
      | inr later ↦ (let x = case-target places targets n later in record { target = x.target; among = or_right (t == x.target) (is_in x.target targets) x.among; there = x.there })
    ]

some-same : {A : Type 0} {a b : A} → Some a ≡ Some b → a ≡ b
some-same e = cc

arms-differ : (places targets : List ℕ) → differ targets ≡ true → differ (all_cases (target_arms places targets)) ≡ true
arms-differ places [] is = refl
arms-differ places (t ∷ targets) is =
    let (front, others) = and_parts (not (is_in t targets)) (differ targets) is in
    differ-both (places_from 0 t places) (all_cases (target_arms places targets)) (places-differ 0 t places) (arms-differ places targets others)
    (λ n there. not-in n (all_cases (target_arms places targets)) (λ also.
    let x = found 0 t places n there in
    let y = case-target places targets n also in
    let at : x.k ≡ n = omega (arith, x.at) in
    let same : t ≡ y.target = some-same (sym x.there ∙ ap (slice_get places) at ∙ y.there) in
    true≢false (sym y.among ∙ ap (λ k. is_in k targets) (sym same) ∙ not-true (is_in t targets) front)))

arms-stand : (places targets : List ℕ) → length places ≤ 65536 → ((t : ℕ) → is_in t targets ≡ true → is_in t places ≡ true) → arms_may_stand (in_switch outermost) (target_arms places targets) ≡ true
arms-stand places [] few among = refl
arms-stand places (t ∷ targets) few among =
    and_from (are_cases (places_from 0 t places)) (arms_may_stand (in_switch outermost) (target_arms places targets))
    (cases-from (places_from 0 t places) (places-small 0 t places (omega (arith, few))) (places-some 0 t places (among t (or_left (t == t) (is_in t targets) (eq-eqb t t refl)))))
    (arms-stand places targets few (λ k there. among k (or_right (t == k) (is_in k targets) there)))

-- a choice of jumps is completed but for an arm
targets-completed : (places targets : List ℕ) → completed_arms (target_arms places targets) ≡ target_arms places targets
targets-completed places [] = refl
targets-completed places (t ∷ targets) = ap (arm (places_from 0 t places) (jump t)) (targets-completed places targets)

some-stand : (b : ℕ) (places targets : List ℕ) → length places ≤ 65536 → differ targets ≡ true → ((t : ℕ) → is_in t targets ≡ true → is_in t places ≡ true)
    → item_may_stand outermost (Switch b (some_arms (target_arms places targets))) ≡ true
some-stand b places [] few apart among = refl
some-stand b places (t ∷ targets) few apart among =
    and_from (differ (all_cases (target_arms places (t ∷ targets)))) (arms_may_stand (in_switch outermost) (target_arms places (t ∷ targets)))
    (arms-differ places (t ∷ targets) apart) (arms-stand places (t ∷ targets) few among)

choice-stands : (b : ℕ) (places targets : List ℕ) → length places ≤ 65536 → differ targets ≡ true → ((t : ℕ) → is_in t targets ≡ true → is_in t places ≡ true)
    → item_may_stand outermost (completed_item (Switch b (target_arms places targets))) ≡ true
choice-stands b places targets few apart among =
    ap (λ arms. item_may_stand outermost (Switch b (some_arms arms))) (targets-completed places targets) ∙ some-stand b places targets few apart among

-- Items.

abbrev Good : Plan → Type 0
Good plan = may_stand outermost false (completed plan) ≡ true

-- an item that is no label
item-good : (i : Item) (plan : Plan) → item_may_stand outermost (completed_item i) ≡ true → is_mark (completed_item i) ≡ false → is_mark i ≡ false → Good plan → Good (item i plan)
item-good i plan stands no_mark none good =
    and_from (item_may_stand outermost (completed_item i)) (may_stand outermost (is_mark (completed_item i)) (followed (is_mark i) (completed plan))) stands
    (ap₂ (λ after before. may_stand outermost after (followed before (completed plan))) no_mark none ∙ good)

mark-good : (b : ℕ) (plan : Plan) → Good plan → Good (item (Mark b) plan)
mark-good b no_items good = refl
mark-good b (item i plan) good = good

all-good : (b m : ℕ) (stmts : List inner.Stmt) (plan : Plan) → Good plan → Good (do_all b m stmts plan)
all-good b m [] plan good = good
all-good b m (stmt ∷ stmts) plan good = item-good (Do b m) (do_all b (suc m) stmts plan) refl refl refl (all-good b (suc m) stmts plan good)

exit-good : (bits : List ℕ) (count b : ℕ) (exit : inner.Exit) (plan : Plan) → is_exit bits count exit ≡ true → Good plan → Good (goto_exit b exit plan)
exit-good bits count b (inner.Goto next) plan formed good = item-good (Jump next) plan refl refl refl good
exit-good bits count b (inner.If test one other) plan formed good = item-good (If b (jump one) (jump other)) plan refl refl refl good
exit-good bits count b (inner.Switch e places) plan formed good =
    let (two, within) = and_parts (is_expr_of bits 16 e && nat_le (length places) 65536) (list_all (λ place. nat_lt place count) places) formed in
    let few = leb-true (length places) 65536 (and_parts (is_expr_of bits 16 e) (nat_le (length places) 65536) two).1 in
    item-good (Switch b (target_arms places (distinct places))) plan (choice-stands b places (distinct places) few (distinct-differ places) (λ t. distinct-in t places)) refl refl good
exit-good bits count b (inner.Ret values) plan formed good = item-good (Return b) plan refl refl refl good
exit-good bits count b inner.Stop plan formed good = good

blocks-good : (bits : List ℕ) (count b : ℕ) (blocks : List inner.Block) → list_all (is_block bits count) blocks ≡ true → Good (goto_blocks b blocks)
blocks-good bits count b [] formed = refl
blocks-good bits count b (block ∷ blocks) formed =
    let (here, later) = and_parts (is_block bits count block) (list_all (is_block bits count) blocks) formed in
    let (stmts, exit) = and_parts (list_all (is_stmt bits) block.stmts) (is_exit bits count block.exit) here in
    let rest = goto_blocks (suc b) blocks in
    let end = goto_exit b block.exit rest in
    mark-good b (do_all b 0 block.stmts end) (all-good b 0 block.stmts end (exit-good bits count b block.exit rest exit (blocks-good bits count (suc b) blocks later)))

pub goto-stands : GotoPlansMayStand
goto-stands graph formed = blocks-good graph.bits (length graph.blocks) 0 graph.blocks formed.blocks
