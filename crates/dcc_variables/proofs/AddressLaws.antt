-- Whether one of two lists, or what is made of a list's elements, has something; and the halves of one cell more.
use Rattle.std.proofs.Common.{◌≡◌, ℕ, zero, suc, ◌+◌, ◌++◌, Bool, List, [], ◌∷◌, map, refl, ap, ◌∙◌, arith}
use Rattle.std.specs.Prelude.{◌||◌}
use Rattle.std.specs.List.{list_any, range_with_len, flat_map}
use Rattle.std.proofs.lemmas.List.Folds.{list_any-append}
use Rattle.dcc_variables.specs.Variables.{cell_halves}

pub any-map : {X Y : Type 0} (p : X → Bool) (h : Y → X) (ys : List Y) → list_any p (map h ys) ≡ list_any (λ y. p (h y)) ys
any-map p h [] = refl
any-map p h (y ∷ ys) = ap (λ b. p (h y) || b) (any-map p h ys)

pub ruleset any_rules = (list_any-append, any-map)

pub cells-more : (a n : ℕ) → flat_map cell_halves (range_with_len a (n + 1)) ≡ flat_map cell_halves (range_with_len a n) ++ cell_halves (a + n)
cells-more a zero = ap cell_halves (omega arith)
cells-more a (suc n) =
    let longer : suc n + 1 ≡ suc (n + 1) = omega arith in
    let last : a + 1 + n ≡ a + suc n = omega arith in
    ap (λ k. flat_map cell_halves (range_with_len a k)) longer
    ∙ ap (λ l. cell_halves a ++ l) (cells-more (a + 1) n ∙ ap (λ k. flat_map cell_halves (range_with_len (a + 1) n) ++ cell_halves k) last)
