-- A map of global variables by their offsets, in which the first one at an offset counts.
use Rattle.std.proofs.Common.{◌≡◌, ℕ, zero, suc, ◌+◌, ◌<◌, ◌≤◌, Bool, true, false, cond, List, [], ◌∷◌, map, Option, Some, None, refl, sym, ap, ◌∙◌, subst, arith}
use Rattle.std.specs.Prelude.{is_some, option_map, if◌then◌else◌, ◌==◌, nat_le}
use Rattle.std.specs.BTreeMap.{BTreeMap, get, is_at}
use Rattle.std.specs.BTreeMap as tree
use Rattle.std.specs.Option.{IsSome}
use Rattle.std.specs.Ordering.{nat_cmp, is_gt, is_lt}
use Rattle.std.proofs.lemmas.Bool.{leb-true, leb-false, eqb-true}
use Rattle.std.proofs.lemmas.Bool.Decides.{nat_tests}
use denote.Ref.{Bor}
use Rattle.dcc_c.specs.declared.syntax.Global_.{Global_}
use Rattle.dcc_c.specs.Tree.{Global}
use Rattle.dcc_check.specs.Declarations.{first_found}
use Rattle.dcc_check.proofs.MapLaws.{first-none}
use Rattle.dcc_named.specs.Named.{begins_at, begins_before}
use Rattle.dcc_named.specs.Views.{lent, placed, KnowsPlaces}

-- The variable that begins last.

pub before-is : (gs : List Global) (at k : ℕ) (g : Global) → k ≤ at → begins_at gs k ≡ Some g → ((q : ℕ) → k < q → q ≤ at → begins_at gs q ≡ None) → begins_before gs at ≡ Some g
before-is gs zero k g less here later = ap (begins_at gs) (omega (arith, less)) ∙ here
before-is gs (suc at) k g less here later =
    by (nat_le k at) refl (begins_at gs (suc at)) refl (λ within. before-is gs at k g within here (λ q above most. later q above (omega (arith, most))))
  where
    by : (b : Bool) → nat_le k at ≡ b → (o : Option Global) → begins_at gs (suc at) ≡ o → (k ≤ at → begins_before gs at ≡ Some g) → elim o [ Some h ↦ Some h | None ↦ begins_before gs at ] ≡ Some g
    by true is None none more = more (leb-true k at is)
    by true is (Some h) some more =
        let within = leb-true k at is in
        let none = later (suc at) (omega (arith, within)) (omega arith) in absurd cc
    by false is None none more =
        let above = leb-false k at is in
        let last : k ≡ suc at = omega (arith, above, less) in
        let own : begins_at gs (suc at) ≡ Some g = ap (begins_at gs) (sym last) ∙ here in absurd cc
    by false is (Some h) some more =
        let above = leb-false k at is in
        let last : k ≡ suc at = omega (arith, above, less) in sym some ∙ ap (begins_at gs) (sym last) ∙ here

pub before-none : (gs : List Global) (at : ℕ) → ((q : ℕ) → q ≤ at → begins_at gs q ≡ None) → begins_before gs at ≡ None
before-none gs zero none = none zero (omega arith)
before-none gs (suc at) none =
    ap (λ o. elim o [ Some h ↦ Some h | None ↦ begins_before gs at ]) (none (suc at) (omega arith)) ∙ before-none gs at (λ q most. none q (omega (arith, most)))

-- Maps.

not-less : (k q : ℕ) → is_lt (nat_cmp k q) ≡ false → k < q → ⊥
not-less k q is less = grind (arith, nat_tests)

none-by : {X : Type 0} (o : Option X) → (IsSome o → ⊥) → o ≡ None
none-by None never = refl
none-by (Some x) never = absurd (never refl)

upto : (q at : ℕ) → q ≤ at → is_gt (nat_cmp q at) ≡ false
upto q at most = grind (arith, nat_tests)

pub within : (k at : ℕ) → is_gt (nat_cmp k at) ≡ false → k ≤ at
within k at is = grind (arith, nat_tests)

is-at : (k q : ℕ) → is_at (nat_cmp k) q ≡ (k == q)
is-at k q = grind (arith, nat_tests)

-- an offset at which no variable was gets one
pub placed-added : (m n : BTreeMap ℕ (Bor Global_)) (k : ℕ) (v : Bor Global_) → tree.UpdatesBy nat_cmp (nat_cmp k) m n (Some v) → is_some (get nat_cmp m k) ≡ false → (at : ℕ) →
    placed n at ≡ first_found (placed m at) (if k == at then Some (lent v) else None)
placed-added m n k v updates absent at =
    ap (option_map lent) (updates.0 at) ∙ ap (λ b. option_map lent (cond b (Some v) (get nat_cmp m at))) (is-at k at) ∙ by (k == at) refl (get nat_cmp m at) refl
  where
    by : (b : Bool) → (k == at) ≡ b → (o : Option (Bor Global_)) → get nat_cmp m at ≡ o → option_map lent (cond b (Some v) o) ≡ first_found (option_map lent o) (if b then Some (lent v) else None)
    by false is None here = refl
    by false is (Some x) here = refl
    by true is None here = refl
    by true is (Some x) here =
        let no : true ≡ false = ap is_some (sym here) ∙ ap (λ q. is_some (get nat_cmp m q)) (sym (eqb-true k at is)) ∙ absent in absurd cc

-- an offset at which one was gets it back
pub placed-restored : (m n o : BTreeMap ℕ (Bor Global_)) (k : ℕ) (v first : Bor Global_) → tree.UpdatesBy nat_cmp (nat_cmp k) m n (Some v) → tree.UpdatesBy nat_cmp (nat_cmp k) n o (Some first) → get nat_cmp m k ≡ Some first → (at : ℕ) →
    placed o at ≡ first_found (placed m at) (if k == at then Some (lent v) else None)
placed-restored m n o k v first updates restores had at =
    ap (option_map lent) (restores.0 at) ∙ ap (λ b. option_map lent (cond b (Some first) (get nat_cmp n at))) (is-at k at) ∙ by (k == at) refl
  where
    by : (b : Bool) → (k == at) ≡ b → option_map lent (cond b (Some first) (get nat_cmp n at)) ≡ first_found (option_map lent (get nat_cmp m at)) (if b then Some (lent v) else None)
    by true is =
        sym (ap (λ p. first_found (option_map lent p) (Some (lent v))) (ap (get nat_cmp m) (sym (eqb-true k at is)) ∙ had))
    by false is =
        ap (option_map lent) (updates.0 at ∙ ap (λ b. cond b (Some v) (get nat_cmp m at)) (is-at k at ∙ is)) ∙ sym (first-none (option_map lent (get nat_cmp m at)))

-- the last one that begins no later than an offset
pub before-found : (m : BTreeMap ℕ (Bor Global_)) (gs : List Global) (at k : ℕ) (g : Bor Global_) → KnowsPlaces m gs → k ≤ at → get nat_cmp m k ≡ Some g →
    ((q : ℕ) → is_gt (nat_cmp q at) ≡ false → IsSome (get nat_cmp m q) → is_lt (nat_cmp k q) ≡ false) → Some (lent g) ≡ begins_before gs at
before-found m gs at k g knows less here last =
    sym (before-is gs at k (lent g) less (sym (knows k) ∙ ap (option_map lent) here)
    (λ q above most. sym (knows q) ∙ ap (option_map lent) (none-by (get nat_cmp m q) (λ some. not-less k q (last q (upto q at most) some) above))))

pub before-nothing : (m : BTreeMap ℕ (Bor Global_)) (gs : List Global) (at : ℕ) → KnowsPlaces m gs → ((q : ℕ) → is_gt (nat_cmp q at) ≡ false → get nat_cmp m q ≡ None) → None ≡ begins_before gs at
before-nothing m gs at knows none = sym (before-none gs at (λ q most. sym (knows q) ∙ ap (option_map lent) (none q (upto q at most))))
