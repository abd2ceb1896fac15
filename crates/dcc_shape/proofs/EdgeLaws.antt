-- The different numbers of a list, added to another.
use Rattle.std.proofs.Common.{◌≡◌, ℕ, ◌+◌, Bool, true, false, List, [], ◌∷◌, ◌++◌, length, cond, refl, sym, ap, ◌∙◌, subst, arith}
use Rattle.std.specs.Prelude.{◌==◌, ◌||◌, if◌then◌else◌}
use Rattle.std.specs.List.{count_by}
use Rattle.std.specs.BTreeSet.{BTreeSet, contains, Updates}
use Rattle.std.specs.Ordering.{nat_cmp}
use Rattle.std.proofs.lemmas.Bool.{eqb-true}
use Rattle.std.proofs.lemmas.List.{length-append}
use Rattle.dcc_flow.specs.Edges.{is_in}
use Rattle.dcc_shape.specs.Procedures.{different}
use Rattle.dcc_shape.specs.Known.{IsSetOf}
use Rattle.dcc_shape.proofs.KnownLaws.{set-before}
use Rattle.dcc_shape.proofs.LoopLaws.{count-push}

-- the numbers are known, and each of them was added once to the list, which began as the first one
pub record AreAdded (set : BTreeSet ℕ) (numbers first list : List ℕ) : Type 0 where
  pub known : IsSetOf set numbers
  pub count : length list ≡ length first + different numbers
  pub each : (n : ℕ) → count_by (λ m. m == n) list ≡ count_by (λ m. m == n) first + (if is_in numbers n then 1 else 0)

each-new : (k : ℕ) (b r : Bool) → (b ≡ true → r ≡ false) → (k + (if r then 1 else 0)) + cond b 1 0 ≡ k + (if b || r then 1 else 0)
each-new k true r fresh = ap (λ x. (k + (if x then 1 else 0)) + 1) (fresh refl) ∙ (let same : (k + 0) + 1 ≡ k + 1 = omega arith in same)
each-new k false true fresh = omega arith
each-new k false false fresh = omega arith

each-old : (k : ℕ) (b r : Bool) → (b ≡ true → r ≡ true) → k + (if r then 1 else 0) ≡ k + (if b || r then 1 else 0)
each-old k true r old = ap (λ x. k + (if x then 1 else 0)) (old refl)
each-old k false r old = refl

module _ (known : BTreeSet ℕ) (rest first list : List ℕ) (n : ℕ) (had : AreAdded known rest first list) where
  here : (answer : Bool) → contains nat_cmp known n ≡ answer → (q : ℕ) → (n == q) ≡ true → is_in rest q ≡ answer
  here answer is q e = ap (is_in rest) (sym (eqb-true n q e)) ∙ sym (had.known n) ∙ is

  pub added-new : (new : BTreeSet ℕ) (numbers after : List ℕ) → numbers ≡ n ∷ rest → contains nat_cmp known n ≡ false → Updates nat_cmp known new n true
      → after ≡ list ++ n ∷ [] → AreAdded new numbers first after
  added-new new numbers after parts fresh updates pushed =
      subst (λ l. AreAdded new l first after) (sym parts) (subst (AreAdded new (n ∷ rest) first) (sym pushed) (record {
        known = set-before known new n updates rest had.known;
        count =
            let size : length (list ++ n ∷ []) ≡ length list + 1 = length-append list (n ∷ []) in
            let one : different (n ∷ rest) ≡ different rest + 1 = ap (λ b. different rest + (if b then 0 else 1)) (sym (had.known n) ∙ fresh) in
            omega (arith, size, one, had.count);
        each = λ q.
            count-push (λ m. m == q) list n
            ∙ ap (λ k. k + cond (n == q) 1 0) (had.each q)
            ∙ each-new (count_by (λ m. m == q) first) (n == q) (is_in rest q) (here false fresh q);
      }))

  pub added-old : (new : BTreeSet ℕ) (numbers : List ℕ) → numbers ≡ n ∷ rest → contains nat_cmp known n ≡ true → Updates nat_cmp known new n true
      → AreAdded new numbers first list
  added-old new numbers parts old updates =
      subst (λ l. AreAdded new l first list) (sym parts) (record {
        known = set-before known new n updates rest had.known;
        count =
            let none : different (n ∷ rest) ≡ different rest + 0 = ap (λ b. different rest + (if b then 0 else 1)) (sym (had.known n) ∙ old) in
            omega (arith, none, had.count);
        each = λ q. had.each q ∙ each-old (count_by (λ m. m == q) first) (n == q) (is_in rest q) (here true old q);
      })
