-- Trails by their places, for the plain program.
use Rattle.std.proofs.Common.{◌≡◌, ℕ, ◌+◌, ◌-◌, ◌≤◌, ◌<◌, Bool, true, false, nat_eq, List, [], ◌∷◌, length, get_or, drop, Contains, IsTrue, ◌↔◌, refl, sym, ap, ◌∙◌, subst, arith, length-drop, eqb-true, eq-eqb}
use Rattle.std.specs.List.{IsAnyAnswer}
use Rattle.std.proofs.lemmas.List.{drop_more}
use Rattle.dcc_machine.specs.declared.image.Image.{Image}
use Rattle.dcc_prog.specs.declared.procedure.Layout.{Layout}
use Rattle.dcc_prog.specs.Trail.{successors, IsTrail}

-- the answer of `contains`
pub contains-answer :
    (xs : List ℕ) (x : ℕ) (answer : Bool) → IsAnyAnswer (λ y b. nat_eq y x ≡ b) xs answer
    → IsTrue answer ↔ Contains xs x
contains-answer xs x true some = (λ t. (some.0, some.1, eqb-true (get_or xs some.0 x) x (some.2 x)), λ c. refl)
contains-answer xs x false none =
    (λ t. absurd (let clash = t in cc), λ c. sym (none c.0 x (omega arith) c.1) ∙ eq-eqb (get_or xs c.0 x) x c.2)

module _ (image : Image) (layout : Layout) (entry : ℕ) where
  trail-onward :
      (at : ℕ) (trail : List ℕ) → 0 < length trail
      → IsTrail image layout entry (at ∷ trail) ↔
      (Contains (successors image layout trail) at × IsTrail image layout entry trail)
  trail-onward at [] some = absurd (omega arith)
  trail-onward at (last ∷ rest) some = (λ t. t, λ t. t)

  module _ (trail : List ℕ) (place : ℕ) (some : 1 ≤ place) (inside : place < length trail) where
    trail-place :
        IsTrail image layout entry (drop (place - 1) trail) ↔
        (Contains (successors image layout (drop place trail)) (get_or trail (place - 1) 0) × IsTrail image layout entry (drop place trail))
    trail-place =
        let next : place - 1 + 1 ≡ place = omega arith in
        let split : drop (place - 1) trail ≡ get_or trail (place - 1) 0 ∷ drop place trail =
        drop_more trail (place - 1) 0 (omega arith) ∙ ap (λ k. get_or trail (place - 1) 0 ∷ drop k trail) next in
        let left : 0 < length (drop place trail) = (let e = length-drop place trail in omega arith) in
        subst
        (λ l. IsTrail image layout entry l ↔ (Contains (successors image layout (drop place trail)) (get_or trail (place - 1) 0) × IsTrail image layout entry (drop place trail)))
        (sym split) (trail-onward (get_or trail (place - 1) 0) (drop place trail) left)

    -- one offset further: those from there on decide too
    pub trail-further :
        Contains (successors image layout (drop place trail)) (get_or trail (place - 1) 0)
        → IsTrail image layout entry (drop (place - 1) trail) ↔ IsTrail image layout entry trail
        → IsTrail image layout entry (drop (place + 1 - 1) trail) ↔ IsTrail image layout entry trail
    trail-further goes decides =
        let same : place ≡ place + 1 - 1 = omega arith in
        subst (λ k. IsTrail image layout entry (drop k trail) ↔ IsTrail image layout entry trail) same
        (λ t. decides.0 (trail-place.1 (goes, t)), λ t. (trail-place.0 (decides.1 t)).1)

    -- an offset to which those before it don't go on
    pub trail-broken :
        ¬ Contains (successors image layout (drop place trail)) (get_or trail (place - 1) 0)
        → IsTrail image layout entry (drop (place - 1) trail) ↔ IsTrail image layout entry trail
        → ¬ IsTrail image layout entry trail
    trail-broken stops decides t = stops (trail-place.0 (decides.1 t)).0
