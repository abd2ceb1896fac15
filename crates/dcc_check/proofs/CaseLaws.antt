-- The numbers of cases that are known.
use Rattle.std.proofs.Common.{◌≡◌, ℕ, Bool, true, false, cond, List, ◌∷◌, refl, ap, ◌∙◌}
use Rattle.std.specs.Prelude.{◌==◌, ◌||◌, not}
use Rattle.std.specs.List.{list_any}
use Rattle.std.specs.Ordering.{nat_cmp}
use Rattle.std.specs.Cmp.{unsigned_tied}
use Rattle.std.specs.BTreeMap.{is_at}
use Rattle.std.specs.BTreeSet.{BTreeSet, contains, Updates}

-- the set holds these numbers
abbrev pub IsKnown : BTreeSet ℕ → List ℕ → Type 0
IsKnown known earlier = (n : ℕ) → contains nat_cmp known n ≡ list_any (λ m. m == n) earlier

either : (a b t : Bool) → a ≡ b → cond a true t ≡ (b || t)
either a true t e = ap (λ x. cond x true t) e
either a false t e = ap (λ x. cond x true t) e

-- one number more
pub known-more : (old new : BTreeSet ℕ) (earlier : List ℕ) (n : ℕ) → IsKnown old earlier → Updates nat_cmp old new n true → IsKnown new (n ∷ earlier)
known-more old new earlier n known updates = λ m.
    updates.0 m
    ∙ ap (λ t. cond (is_at (nat_cmp n) m) true t) (known m)
    ∙ either (is_at (nat_cmp n) m) (n == m) (list_any (λ k. k == m) earlier) (unsigned_tied n m)

pub not-not : (a : Bool) → not (not a) ≡ a
not-not true = refl
not-not false = refl
