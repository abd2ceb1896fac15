-- What is available holds after a statement, where it held before it.
use Rattle.std.proofs.Common.{◌≡◌, ℕ, Bool, true, false, ◌||◌, not, List, [], ◌∷◌, ◌++◌, refl, sym, ap, ap₂, ◌∙◌, subst, true≢false, Contains}
use Rattle.std.specs.Prelude.{if◌then◌else◌, ◌==◌, ◌/◌, ◌%◌, ◌+◌, ◌*◌, ◌^◌, All}
use Rattle.std.specs.List.{list_any}
use Rattle.std.proofs.lemmas.List.Elements.{All-head, All-contains}
use Rattle.std.proofs.lemmas.List.Folds.{list_any-append}
use Rattle.dcc_ir.specs.declared.syntax.Loc.{Loc}
use Rattle.dcc_ir.specs.Tree.{Expr, Const, Get, Load, Unary, Binary, Widen, Part, Join, Choose, Address, Stmt, Set}
use Rattle.dcc_ir.specs.Location.{same_location, location_width, Values, with_value}
use Rattle.dcc_ir.specs.Value.{Environment, value_of, unary_value, binary_value, bytes_at, width_of, pattern_at, signed_at}
use Rattle.dcc_ir.specs.Use.{parts_of, reads_of, writes_of}
use Rattle.dcc_ir.specs.Joinable.{is_load}
use Rattle.dcc_ir.proofs.FitLaws.{both}
use Rattle.dcc_ir.proofs.ListLaws.{all_had}
use Rattle.dcc_ir.proofs.LocationLaws.{location_same, location_itself, Contains-none, Contains-cases}
use Rattle.dcc_passes.proofs.RenamingLaws.{in-both}
use Rattle.dcc_substitution.proofs.SubstituteLaws.{value-substitute}
use Rattle.dcc_substitution.specs.Available.{loads, is_address, addresses, is_of_locations, leaves_outside, IsAvailableAfter, made, copied, left, Holds}

-- An expression whose value stays.

or-first : (a b : Bool) → a ≡ true → (a || b) ≡ true
or-first a b e = ap (λ c. c || b) e

or-second : (a b : Bool) → b ≡ true → (a || b) ≡ true
or-second true b e = refl
or-second false b e = e

module _ (f : Expr → Bool) where
  some-first : (xs ys : List Expr) → list_any f xs ≡ true → list_any f (xs ++ ys) ≡ true
  some-first xs ys some = list_any-append f xs ys ∙ or-first (list_any f xs) (list_any f ys) some

  some-second : (xs ys : List Expr) → list_any f ys ≡ true → list_any f (xs ++ ys) ≡ true
  some-second xs ys some = list_any-append f xs ys ∙ or-second (list_any f xs) (list_any f ys) some

module _ (s t : Environment) (bits : t.bits ≡ s.bits) where
  abbrev Reads : Loc → Type 0
  Reads l = t.values l ≡ s.values l

  -- the memory and the base are the same where the parts read them
  record OutsideSameIn (parts : List Expr) : Type 0 where
    memory : list_any is_load parts ≡ true → t.memory ≡ s.memory
    base : list_any is_address parts ≡ true → t.base ≡ s.base

  first-same : (xs ys : List Expr) → OutsideSameIn (xs ++ ys) → OutsideSameIn xs
  first-same xs ys h = record { memory = λ some. h.memory (some-first is_load xs ys some); base = λ some. h.base (some-first is_address xs ys some) }

  second-same : (xs ys : List Expr) → OutsideSameIn (xs ++ ys) → OutsideSameIn ys
  second-same xs ys h = record { memory = λ some. h.memory (some-second is_load xs ys some); base = λ some. h.base (some-second is_address xs ys some) }

  still : (e : Expr) → OutsideSameIn (parts_of e) → All Reads (reads_of e) → value_of t e ≡ value_of s e
  still (Const width n) h all = refl
  still (Get location) h all = All-head Reads location [] all
  still (Load width a) h all =
      ap₂ (λ m n. bytes_at m (width / 8) n) (h.memory refl)
      (still a (record { memory = λ some. h.memory refl; base = λ some. h.base some }) all)
  still (Unary operator width a) h all = ap (unary_value operator width) (still a (record { memory = h.memory; base = h.base }) all)
  still (Binary operator width a b) h all =
      let parts = in-both Reads (parts_of a) (parts_of b) all in
      let inner : OutsideSameIn (parts_of a ++ parts_of b) = record { memory = h.memory; base = h.base } in
      ap₂ (binary_value operator width) (still a (first-same (parts_of a) (parts_of b) inner) parts.0) (still b (second-same (parts_of a) (parts_of b) inner) parts.1)
  still (Widen signed width a) h all =
      ap₂ (λ b n. if signed then pattern_at width (signed_at (width_of b a) n) else n) bits (still a (record { memory = h.memory; base = h.base }) all)
  still (Part width first a) h all = ap (λ n. n / 2 ^ first % 2 ^ width) (still a (record { memory = h.memory; base = h.base }) all)
  still (Join high low) h all =
      let parts = in-both Reads (parts_of high) (parts_of low) all in
      let inner : OutsideSameIn (parts_of high ++ parts_of low) = record { memory = h.memory; base = h.base } in
      ap₂ (λ x n. x * 2 ^ width_of t.bits low + n) (still high (first-same (parts_of high) (parts_of low) inner) parts.0)
      (still low (second-same (parts_of high) (parts_of low) inner) parts.1)
      ∙ ap (λ b. value_of s high * 2 ^ width_of b low + value_of s low) bits
  still (Choose test a b) h all =
      let inner : OutsideSameIn ((parts_of test ++ parts_of a) ++ parts_of b) = record { memory = h.memory; base = h.base } in
      let whole = in-both Reads (parts_of test ++ parts_of a) (parts_of b) all in
      let parts = in-both Reads (parts_of test) (parts_of a) whole.0 in
      let front = first-same (parts_of test ++ parts_of a) (parts_of b) inner in
      ap (λ n. if n == 1 then value_of t a else value_of t b) (still test (first-same (parts_of test) (parts_of a) front) parts.0)
      ∙ ap₂ (λ x y. if value_of s test == 1 then x else y) (still a (second-same (parts_of test) (parts_of a) front) parts.1)
      (still b (second-same (parts_of test ++ parts_of a) (parts_of b) inner) whole.1)
  still (Address distance) h all = ap (λ n. (n + distance) % 65536) (h.base refl)

-- the value stays where what the expression reads does
pub value-still : (s t : Environment) → t.bits ≡ s.bits → (e : Expr) → (loads e ≡ true → t.memory ≡ s.memory) → (addresses e ≡ true → t.base ≡ s.base)
    → All (λ l. t.values l ≡ s.values l) (reads_of e) → value_of t e ≡ value_of s e
value-still s t bits e memory base all = still s t bits e (record { memory = memory; base = base }) all

pub not-so : (b : Bool) → not b ≡ true → b ≡ true → ⊥
not-so true opposite so = true≢false (sym opposite)
not-so false opposite so = true≢false (sym so)

-- an expression made of locations alone has the value wherever they hold the same
pub value-anywhere : (s t : Environment) → t.bits ≡ s.bits → (e : Expr) → is_of_locations e ≡ true → All (λ l. t.values l ≡ s.values l) (reads_of e) → value_of t e ≡ value_of s e
value-anywhere s t bits e alone all =
    let parts = both (not (loads e)) (not (addresses e)) alone in
    value-still s t bits e (λ some. absurd (not-so (loads e) parts.0 some)) (λ some. absurd (not-so (addresses e) parts.1 some)) all

-- Statements.

-- what a statement changes
pub record Changes (stmt : Stmt) (s t : Environment) : Type 0 where
  pub bits : t.bits ≡ s.bits
  pub left : (l : Loc) → (Contains (writes_of stmt) l → ⊥) → t.values l ≡ s.values l
  pub sets : (l : Loc) (e : Expr) → stmt ≡ Set l e → t.values l ≡ value_of s e
  pub memory : (e : Expr) → leaves_outside stmt e ≡ true → loads e ≡ true → t.memory ≡ s.memory
  pub base : (e : Expr) → leaves_outside stmt e ≡ true → addresses e ≡ true → t.base ≡ s.base

pub with-other : (v : Values) (x : Loc) (n : ℕ) (l : Loc) → (l ≡ x → ⊥) → with_value v x n l ≡ v l
with-other v x n l other = go (same_location l x) refl
  where
    go : (b : Bool) → same_location l x ≡ b → (if b then n else v l) ≡ v l
    go true is = absurd (other (location_same l x is))
    go false is = refl

pub with-itself : (v : Values) (x : Loc) (n : ℕ) → with_value v x n x ≡ n
with-itself v x n = ap (λ b. if b then n else v x) (location_itself x)

one-written : (x l : Loc) → (l ≡ x → ⊥) → Contains (x ∷ []) l → ⊥
one-written x l other c = Contains-cases x [] l ⊥ (λ is. other (sym is)) (Contains-none l) c

-- what is available after a statement holds after it
pub holds-after : (stmt : Stmt) (Before After : Loc → Expr → Type 0) → ((l : Loc) (e : Expr) → After l e → IsAvailableAfter stmt Before l e)
    → (s t : Environment) → Changes stmt s t → ((l : Loc) (e : Expr) → Before l e → width_of s.bits e ≡ location_width s.bits l) → Holds Before s → Holds After t
holds-after stmt Before After right s t change widths holds l e has = go (right l e has)
  where
    go : IsAvailableAfter stmt Before l e → t.values l ≡ value_of t e
    go (made {value = value} is sub apart) =
        let leaves : leaves_outside stmt e ≡ true = ap (λ x. leaves_outside x e) is in
        let reads = all_had (λ r. t.values r ≡ s.values r) (reads_of e) (λ r c. change.left r (λ w. one-written l r (λ same. apart (subst (Contains (reads_of e)) same c)) (subst (λ x. Contains (writes_of x) r) is w))) in
        change.sets l value is ∙ sym (value-substitute s Before widths holds value e sub) ∙ sym (value-still s t change.bits e (change.memory e leaves) (change.base e leaves) reads)
    go (copied {to = to} is same apart) =
        let kept = change.left l (λ w. one-written to l (λ eq. apart (sym eq)) (subst (λ x. Contains (writes_of x) l) is w)) in
        kept ∙ sym (change.sets to (Get l) is) ∙ ap (value_of t) (sym same)
    go (left held out reads leaves) =
        let same = all_had (λ r. t.values r ≡ s.values r) (reads_of e) (λ r c. change.left r (All-contains (λ r. Contains (writes_of stmt) r → ⊥) (reads_of e) r reads c)) in
        change.left l out ∙ holds l e held ∙ sym (value-still s t change.bits e (change.memory e leaves) (change.base e leaves) same)
