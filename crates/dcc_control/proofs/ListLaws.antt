-- What is left of a list after its first elements, what stands in a list, and the block at a place.
use Rattle.std.proofs.Common.{◌≡◌, ℕ, zero, suc, ◌<◌, ◌≤◌, Bool, true, false, ◌==◌, List, [], ◌∷◌, length, Some, refl, sym, ap, ap₂, ◌∙◌, true≢false, arith}
use Rattle.std.specs.Prelude.{◌||◌, drop, slice_get}
use Rattle.std.specs.List.{list_any}
use Rattle.std.proofs.lemmas.Bool.{eq-eqb, eqb-true, false_from_ne_true}
use Rattle.std.proofs.lemmas.Option.{slice_get-get_or}
use Rattle.dcc_ir.specs.Live.{block_in}
use Rattle.dcc_ir.specs.Run.{no_block}
use Rattle.dcc_ir.specs.Tree as inner
use Rattle.dcc_control.specs.Plan.{is_in}

pub drop-first : {A : Type 0} (xs : List A) (m : ℕ) (x : A) (ys : List A) → drop m xs ≡ x ∷ ys → slice_get xs m ≡ Some x
drop-first [] zero x ys e = absurd cc
drop-first [] (suc m) x ys e = absurd cc
drop-first (z ∷ xs) zero x ys e = let same : z ≡ x = cc in ap Some same
drop-first (z ∷ xs) (suc m) x ys e = drop-first xs m x ys e

pub drop-next : {A : Type 0} (xs : List A) (m : ℕ) (x : A) (ys : List A) → drop m xs ≡ x ∷ ys → drop (suc m) xs ≡ ys
drop-next [] zero x ys e = absurd cc
drop-next [] (suc m) x ys e = absurd cc
drop-next (z ∷ xs) zero x ys e = cc
drop-next (z ∷ xs) (suc m) x ys e = drop-next xs m x ys e

pub drop-less : {A : Type 0} (xs : List A) (m : ℕ) (x : A) (ys : List A) → drop m xs ≡ x ∷ ys → m < length xs
drop-less [] zero x ys e = absurd cc
drop-less [] (suc m) x ys e = absurd cc
drop-less (z ∷ xs) zero x ys e = omega arith
drop-less (z ∷ xs) (suc m) x ys e = let less = drop-less xs m x ys e in omega (arith, less)

pub drop-all : {A : Type 0} (xs : List A) (m : ℕ) → drop m xs ≡ [] → m ≤ length xs → m ≡ length xs
drop-all [] zero e within = refl
drop-all [] (suc m) e within = absurd (omega (arith, within))
drop-all (z ∷ xs) zero e within = absurd cc
drop-all (z ∷ xs) (suc m) e within = ap suc (drop-all xs m e (omega (arith, within)))

pub drop-none : {A : Type 0} (xs : List A) → drop 0 xs ≡ xs
drop-none [] = refl
drop-none (x ∷ xs) = refl

-- the block at a place in a graph
pub block-at : (graph : inner.Graph) (b : ℕ) → b < length graph.blocks → slice_get graph.blocks b ≡ Some (block_in graph b)
block-at graph b less = slice_get-get_or graph.blocks b no_block less

-- whether a number is another is told either way round
eqb-turned : (a b : ℕ) → (a == b) ≡ (b == a)
eqb-turned a b = by (a == b) refl
  where
    by : (same : Bool) → (a == b) ≡ same → (a == b) ≡ (b == a)
    by true is = is ∙ sym (eq-eqb b a (sym (eqb-true a b is)))
    by false is = is ∙ sym (false_from_ne_true (b == a) (λ back. true≢false (sym (eq-eqb a b (sym (eqb-true b a back))) ∙ is)))

pub turned : (n : ℕ) (ns : List ℕ) → list_any (λ m. n == m) ns ≡ is_in n ns
turned n [] = refl
turned n (m ∷ ns) = ap₂ (λ x y. x || y) (eqb-turned n m) (turned n ns)
