-- Lists.
use Rattle.std.proofs.Common.{◌≡◌, ◌∙◌, sym, ap, ℕ, ◌+◌, Bool, true, false, ◌||◌, List, [], ◌∷◌, ◌++◌, map, filter, cond, arith}
use Rattle.std.specs.List.{list_any, range_with_len}
use Rattle.std.proofs.lemmas.List.{map-id, append-nil, append_assoc}
use Rattle.std.proofs.lemmas.List.Folds.{list_any-append}
use Rattle.std.proofs.lemmas.List.FromFn.{filter_of_map_range_with_len_more, map-range_with_len_more}

-- a test of two lists
pub any_append : {X : Type 0} (p : X → Bool) (xs ys : List X)
    → list_any p (xs ++ ys) ≡ (list_any p xs || list_any p ys)
any_append p xs ys = list_any-append p xs ys

-- one number more
filter_more : (p : ℕ → Bool) (n : ℕ)
    → filter p (range_with_len 0 (n + 1)) ≡ filter p (range_with_len 0 n) ++ cond (p n) (n ∷ []) []
filter_more p n =
    ap (filter p) (sym (map-id (range_with_len 0 (n + 1))))
    ∙ filter_of_map_range_with_len_more p (λ x. x) 0 n n (omega arith)
    ∙ ap (λ xs. filter p xs ++ cond (p n) (n ∷ []) []) (map-id (range_with_len 0 n))

pub filter_keeps : (p : ℕ → Bool) (n : ℕ) → p n ≡ true
    → filter p (range_with_len 0 (n + 1)) ≡ filter p (range_with_len 0 n) ++ n ∷ []
filter_keeps p n e = filter_more p n ∙ ap (λ b. filter p (range_with_len 0 n) ++ cond b (n ∷ []) []) e

pub filter_leaves : (p : ℕ → Bool) (n : ℕ) → p n ≡ false
    → filter p (range_with_len 0 (n + 1)) ≡ filter p (range_with_len 0 n)
filter_leaves p n e = filter_more p n ∙ ap (λ b. filter p (range_with_len 0 n) ++ cond b (n ∷ []) []) e
    ∙ append-nil (filter p (range_with_len 0 n))

pub map_more : {X : Type 0} (f : ℕ → X) (n : ℕ)
    → map f (range_with_len 0 (n + 1)) ≡ map f (range_with_len 0 n) ++ f n ∷ []
map_more f n = map-range_with_len_more f 0 n n (omega arith)

-- one more after another list
pub map_more_after : {X : Type 0} (f : ℕ → X) (n : ℕ) (before : List X)
    → (before ++ map f (range_with_len 0 n)) ++ f n ∷ [] ≡ before ++ map f (range_with_len 0 (n + 1))
map_more_after f n before = append_assoc before (map f (range_with_len 0 n)) (f n ∷ [])
    ∙ ap (λ xs. before ++ xs) (sym (map_more f n))

-- one piece more of what two lists make together
pub pass_on : {X : Type 0} (before after piece left rest all : List X) → after ≡ before ++ piece
    → left ≡ piece ++ rest → before ++ left ≡ all → after ++ rest ≡ all
pass_on before after piece left rest all e f g =
    ap (λ xs. xs ++ rest) e ∙ append_assoc before piece rest ∙ ap (λ xs. before ++ xs) (sym f) ∙ g
