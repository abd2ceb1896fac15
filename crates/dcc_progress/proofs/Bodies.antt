-- What holds of each statement of a body holds of those that stand in it.
use Rattle.std.proofs.Common.{◌≡◌, ℕ, Bool, true, false, ◌&&◌, ◌||◌, not, List, [], ◌∷◌, ◌++◌, refl, sym, ap, ◌∙◌}
use Rattle.std.specs.List.{list_all, list_any, flat_map}
use Rattle.std.proofs.lemmas.Bool.{and_parts, and_from, or_parts, or_left, or_right}
use Rattle.std.proofs.lemmas.List.Folds.{list_all-append, list_any-append}
use Rattle.dcc_c.specs.Tree.{Stmt, Lines, Arms}
use Rattle.dcc_c.specs.Parts.{stmts_in, inner_stmts, arm_stmts}
use Rattle.dcc_progress.specs.Stuck.{StandsIn, here, inside, later, StandsInside, in_then, in_else, in_while, in_do}
use Rattle.dcc_progress.specs.Stuck.{in_for, in_arm, in_default, StandsInArms, in_body, in_others}

-- Tests of lists.

module _ {A : Type 0} (p : A → Bool) where
  pub all_left : (xs ys : List A) → list_all p (xs ++ ys) ≡ true → list_all p xs ≡ true
  all_left xs ys all = (and_parts (list_all p xs) (list_all p ys) (sym (list_all-append p xs ys) ∙ all)).0

  pub all_right : (xs ys : List A) → list_all p (xs ++ ys) ≡ true → list_all p ys ≡ true
  all_right xs ys all = (and_parts (list_all p xs) (list_all p ys) (sym (list_all-append p xs ys) ∙ all)).1

  pub any_left : (xs ys : List A) → list_any p xs ≡ true → list_any p (xs ++ ys) ≡ true
  any_left xs ys any = list_any-append p xs ys ∙ or_left (list_any p xs) (list_any p ys) any

  pub any_right : (xs ys : List A) → list_any p ys ≡ true → list_any p (xs ++ ys) ≡ true
  any_right xs ys any = list_any-append p xs ys ∙ or_right (list_any p xs) (list_any p ys) any

  pub any_later : (x : A) (xs : List A) → list_any p xs ≡ true → list_any p (x ∷ xs) ≡ true
  any_later x xs any = or_right (p x) (list_any p xs) any

  -- where a test holds of no item, its opposite holds of each
  pub none_all : (xs : List A) → list_any p xs ≡ false → list_all (λ x. not (p x)) xs ≡ true
  none_all [] none = refl
  none_all (x ∷ xs) none =
      let (first, others) = or_parts (p x) (list_any p xs) none in
      and_from (not (p x)) (list_all (λ x. not (p x)) xs) (ap not first) (none_all xs others)

pub any_flat : {A B : Type 0} (p : B → Bool) (f : A → List B) (xs : List A) → list_any p (flat_map f xs) ≡ list_any (λ x. list_any p (f x)) xs
any_flat p f [] = refl
any_flat p f (x ∷ xs) = list_any-append p (f x) (flat_map f xs) ∙ ap (λ b. list_any p (f x) || b) (any_flat p f xs)

pub all_flat : {A B : Type 0} (p : B → Bool) (f : A → List B) (xs : List A) → list_all p (flat_map f xs) ≡ list_all (λ x. list_all p (f x)) xs
all_flat p f [] = refl
all_flat p f (x ∷ xs) = list_all-append p (f x) (flat_map f xs) ∙ ap (λ b. list_all p (f x) && b) (all_flat p f xs)

-- Statements.

module _ (p : Stmt → Bool) where
  mutual
    pub each_stands : {lines : Lines} {stmt : Stmt} {at : ℕ} → StandsIn lines stmt at → list_all p (stmts_in lines) ≡ true → p stmt ≡ true
    each_stands (here {stmt} {at} {lines}) all = (and_parts (p stmt) (list_all p (inner_stmts stmt ++ stmts_in lines)) all).0
    each_stands (inside {outer} {stmt} {place} {at} {lines} i) all =
        let others = (and_parts (p outer) (list_all p (inner_stmts outer ++ stmts_in lines)) all).1 in
        each_inside i (all_left p (inner_stmts outer) (stmts_in lines) others)
    each_stands (later {other} {stmt} {place} {at} {lines} l) all =
        let others = (and_parts (p other) (list_all p (inner_stmts other ++ stmts_in lines)) all).1 in
        each_stands l (all_right p (inner_stmts other) (stmts_in lines) others)

    each_inside : {outer stmt : Stmt} {at : ℕ} → StandsInside outer stmt at → list_all p (inner_stmts outer) ≡ true → p stmt ≡ true
    each_inside (in_then {e} {body} {otherwise} s) all = each_stands s (all_left p (stmts_in body) (stmts_in otherwise) all)
    each_inside (in_else {e} {body} {otherwise} s) all = each_stands s (all_right p (stmts_in body) (stmts_in otherwise) all)
    each_inside (in_while s) all = each_stands s all
    each_inside (in_do s) all = each_stands s all
    each_inside (in_for s) all = each_stands s all
    each_inside (in_arm {e} {arms} {last} s) all = each_in_arms s (all_left p (arm_stmts arms) (arm_stmts last) all)
    each_inside (in_default {e} {arms} {last} s) all = each_in_arms s (all_right p (arm_stmts arms) (arm_stmts last) all)

    each_in_arms : {arms : Arms} {stmt : Stmt} {at : ℕ} → StandsInArms arms stmt at → list_all p (arm_stmts arms) ≡ true → p stmt ≡ true
    each_in_arms (in_body {cases} {body} {arms} s) all = each_stands s (all_left p (stmts_in body) (arm_stmts arms) all)
    each_in_arms (in_others {cases} {body} {arms} s) all = each_in_arms s (all_right p (stmts_in body) (arm_stmts arms) all)

-- what holds of a statement that stands in the body holds of one of them
pub some_stands : (p : Stmt → Bool) {lines : Lines} {stmt : Stmt} {at : ℕ} → StandsIn lines stmt at → p stmt ≡ true → list_any p (stmts_in lines) ≡ true
some_stands p {lines} {stmt} {at} stands holds = by (list_any p (stmts_in lines)) refl
  where
    by : (b : Bool) → list_any p (stmts_in lines) ≡ b → list_any p (stmts_in lines) ≡ true
    by true any = any
    by false any =
        let none : not (p stmt) ≡ true = each_stands (λ s. not (p s)) stands (none_all p (stmts_in lines) any) in
        let no : not true ≡ true = ap not (sym holds) ∙ none in
        absurd cc
