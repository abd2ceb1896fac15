-- What is known after some locations have become known to be wanted, and that less is left then.
use Rattle.std.proofs.Common.{◌≡◌, ℕ, ◌+◌, ◌≤◌, Bool, true, false, ◌&&◌, ◌||◌, not, inl, inr, List, [], ◌∷◌, ◌++◌, length, refl, sym, ap, ◌∙◌, subst, true≢false, arith, Contains}
use Rattle.std.specs.Prelude.{◌⊎◌, ◌==◌, filter, if◌then◌else◌}
use Rattle.std.proofs.lemmas.Bool.{and_parts, and_from, or_cases, or_left, or_right, eqb-true, eq-eqb}
use Rattle.std.proofs.lemmas.List.Elements.{Contains-append_left, Contains-append_right, Contains-append_cases}
use Rattle.dcc_ir.specs.Location.{same_location}
use Rattle.dcc_ir.proofs.LocationLaws.{location_same, location_itself, Contains-here, Contains-none, Contains-cases}
use Rattle.dcc_summaries.specs.declared.table.Want.{Want}
use Rattle.dcc_summaries.specs.Table.{same_want}
use Rattle.dcc_summaries.specs.Pending.{with_pending}
use Rattle.dcc_summaries.specs.Demands.{Demand, with_want, with_wants}
use Rattle.dcc_summaries.proofs.PendingLaws.{total, more_total, Waits, waits_still, waits_new, waits_known}

-- Two of them are one where the test says so.

pub want_same : (x y : Want) → same_want x y ≡ true → x ≡ y
want_same x y e =
    let one = and_parts (x.at.graph == y.at.graph) ((x.at.block == y.at.block) && ((x.at.done == y.at.done) && same_location x.location y.location)) e in
    let two = and_parts (x.at.block == y.at.block) ((x.at.done == y.at.done) && same_location x.location y.location) one.1 in
    let three = and_parts (x.at.done == y.at.done) (same_location x.location y.location) two.1 in
    let graph = eqb-true x.at.graph y.at.graph one.0 in
    let block = eqb-true x.at.block y.at.block two.0 in
    let done = eqb-true x.at.done y.at.done three.0 in
    let location = location_same x.location y.location three.1 in
    λ i. record { at = record { graph = graph i; block = block i; done = done i }; location = location i }

pub want_itself : (x : Want) → same_want x x ≡ true
want_itself x = and_from (x.at.graph == x.at.graph) ((x.at.block == x.at.block) && ((x.at.done == x.at.done) && same_location x.location x.location)) (eq-eqb x.at.graph x.at.graph refl)
    (and_from (x.at.block == x.at.block) ((x.at.done == x.at.done) && same_location x.location x.location) (eq-eqb x.at.block x.at.block refl)
    (and_from (x.at.done == x.at.done) (same_location x.location x.location) (eq-eqb x.at.done x.at.done refl) (location_itself x.location)))

-- What is left of some that may be wanted.

abbrev pub left : List Want → Demand → ℕ
left all d = length (filter (λ x. not (d.told x)) all)

module _ (f g : Want → Bool) (within : (x : Want) → f x ≡ true → g x ≡ true) where
  fewer : (xs : List Want) → length (filter f xs) ≤ length (filter g xs)
  fewer [] = omega arith
  fewer (x ∷ xs) = by (f x) (g x) refl refl (fewer xs)
    where
      by : (a b : Bool) → f x ≡ a → g x ≡ b → length (filter f xs) ≤ length (filter g xs) → length (if a then x ∷ filter f xs else filter f xs) ≤ length (if b then x ∷ filter g xs else filter g xs)
      by true true e e' h = omega (arith, h)
      by true false e e' h = absurd (true≢false (sym (within x e) ∙ e'))
      by false true e e' h = omega (arith, h)
      by false false e e' h = h

  fewer_one : (xs : List Want) (x : Want) → Contains xs x → f x ≡ false → g x ≡ true → length (filter f xs) + 1 ≤ length (filter g xs)
  fewer_one [] x c out there = absurd (Contains-none x c)
  fewer_one (y ∷ xs) x c out there = Contains-cases y xs x (length (filter f (y ∷ xs)) + 1 ≤ length (filter g (y ∷ xs)))
      (λ e. here (f y) (g y) (ap f e ∙ out) (ap g e ∙ there) refl refl (fewer xs)) (λ d. later (f y) (g y) refl refl (fewer_one xs x d out there)) c
    where
      here : (a b : Bool) → f y ≡ false → g y ≡ true → f y ≡ a → g y ≡ b → length (filter f xs) ≤ length (filter g xs)
          → length (if a then y ∷ filter f xs else filter f xs) + 1 ≤ length (if b then y ∷ filter g xs else filter g xs)
      here true b p q e e' h = absurd (true≢false (sym e ∙ p))
      here false true p q e e' h = omega (arith, h)
      here false false p q e e' h = absurd (true≢false (sym q ∙ e'))

      later : (a b : Bool) → f y ≡ a → g y ≡ b → length (filter f xs) + 1 ≤ length (filter g xs) → length (if a then y ∷ filter f xs else filter f xs) + 1 ≤ length (if b then y ∷ filter g xs else filter g xs)
      later true true e e' h = omega (arith, h)
      later true false e e' h = absurd (true≢false (sym (within y e) ∙ e'))
      later false true e e' h = omega (arith, h)
      later false false e e' h = h

-- The wants of the list have become known, and nothing else; what is new waits. No more is left than before, with what
-- waits.
pub record HasWanted (before after : Demand) (xs : List Want) : Type 0 where
  pub keeps : (y : Want) → before.told y ≡ true → after.told y ≡ true
  pub there : (y : Want) → Contains xs y → after.told y ≡ true
  pub only : (y : Want) → after.told y ≡ true → (before.told y ≡ true) ⊎ Contains xs y
  pub waits : (y : Want) → Waits before.pending y → Waits after.pending y
  pub new : (y : Want) → after.told y ≡ true → (before.told y ≡ true) ⊎ Waits after.pending y
  pub known : (y : Want) → Waits after.pending y → Waits before.pending y ⊎ Contains xs y
  pub less : (all : List Want) → ((y : Want) → Contains xs y → Contains all y) → left all after + total after.pending ≤ left all before + total before.pending

none_wanted : (d : Demand) → HasWanted d d []
none_wanted d = record {
  keeps = λ y t. t;
  there = λ y c. absurd (Contains-none y c);
  only = λ y t. inl t;
  waits = λ y c. c;
  new = λ y t. inl t;
  known = λ y c. inl c;
  less = λ all within. omega arith;
}

told_already : (d : Demand) (x : Want) → d.told x ≡ true → HasWanted d d (x ∷ [])
told_already d x told = record {
  keeps = λ y t. t;
  there = λ y c. Contains-cases x [] y (d.told y ≡ true) (λ e. ap d.told (sym e) ∙ told) (λ c'. absurd (Contains-none y c')) c;
  only = λ y t. inl t;
  waits = λ y c. c;
  new = λ y t. inl t;
  known = λ y c. inl c;
  less = λ all within. omega arith;
}

abbrev more : Demand → Want → Demand
more d x = record { told = λ y. same_want y x || d.told y; pending = with_pending d.pending x.at.block x }

told_anew : (d : Demand) (x : Want) → d.told x ≡ false → HasWanted d (more d x) (x ∷ [])
told_anew d x untold = record {
  keeps = λ y t. or_right (same_want y x) (d.told y) t;
  there = λ y c. Contains-cases x [] y ((more d x).told y ≡ true) (λ e. or_left (same_want y x) (d.told y) (subst (λ z. same_want y z ≡ true) (sym e) (want_itself y))) (λ c'. absurd (Contains-none y c')) c;
  only = λ y t. elim (or_cases (same_want y x) (d.told y) t) [
    | inl s ↦ inr (subst (Contains (x ∷ [])) (sym (want_same y x s)) (Contains-here x []))
    | inr t' ↦ inl t'
  ];
  waits = λ y w. (w.0, waits_still d.pending x.at.block x y w.0 w.1);
  new = λ y t. elim (or_cases (same_want y x) (d.told y) t) [
    | inl s ↦ inr (subst (Waits (with_pending d.pending x.at.block x)) (sym (want_same y x s)) (waits_new d.pending x.at.block x))
    | inr t' ↦ inl t'
  ];
  known = λ y w. elim (waits_known d.pending x.at.block x y w.0 w.1) [
    | inl c' ↦ inl c'
    | inr e ↦ inr (subst (Contains (x ∷ [])) e (Contains-here x []))
  ];
  less = λ all within.
      let one = fewer_one (λ y. not ((more d x).told y)) (λ y. not (d.told y)) (λ y e. unless (same_want y x) (d.told y) e) all x (within x (Contains-here x []))
      (ap (λ b. not (b || d.told x)) (want_itself x)) (ap not untold) in
      let size = more_total d.pending x.at.block x in
      omega (arith, one, size);
}
  where
    unless : (a b : Bool) → not (a || b) ≡ true → not b ≡ true
    unless true b e = absurd (true≢false (sym e))
    unless false b e = e

one_wanted : (d : Demand) (x : Want) → HasWanted d (with_want d x) (x ∷ [])
one_wanted d x = by (d.told x) refl
  where
    by : (b : Bool) → d.told x ≡ b → HasWanted d (if b then d else more d x) (x ∷ [])
    by true e = told_already d x e
    by false e = told_anew d x e

both_wanted : (a b c : Demand) (xs ys : List Want) → HasWanted a b xs → HasWanted b c ys → HasWanted a c (xs ++ ys)
both_wanted a b c xs ys one other = record {
  keeps = λ y t. other.keeps y (one.keeps y t);
  there = λ y m. elim (Contains-append_cases xs ys y m) [
    | inl f ↦ other.keeps y (one.there y f)
    | inr s ↦ other.there y s
  ];
  only = λ y t. elim (other.only y t) [
    | inl f ↦ elim (one.only y f) [
      | inl t' ↦ inl t'
      | inr m ↦ inr (Contains-append_left xs ys y m)
    ]
    | inr m ↦ inr (Contains-append_right xs ys y m)
  ];
  waits = λ y m. other.waits y (one.waits y m);
  new = λ y t. elim (other.new y t) [
    | inl f ↦ elim (one.new y f) [
      | inl t' ↦ inl t'
      | inr m ↦ inr (other.waits y m)
    ]
    | inr m ↦ inr m
  ];
  known = λ y m. elim (other.known y m) [
    | inl f ↦ elim (one.known y f) [
      | inl m' ↦ inl m'
      | inr m' ↦ inr (Contains-append_left xs ys y m')
    ]
    | inr m' ↦ inr (Contains-append_right xs ys y m')
  ];
  less = λ all within.
      let first = one.less all (λ y m. within y (Contains-append_left xs ys y m)) in
      let second = other.less all (λ y m. within y (Contains-append_right xs ys y m)) in
      omega (arith, first, second);
}

pub all_wanted : (d : Demand) (xs : List Want) → HasWanted d (with_wants d xs) xs
all_wanted d [] = none_wanted d
all_wanted d (x ∷ xs) = both_wanted d (with_want d x) (with_wants (with_want d x) xs) (x ∷ []) xs (one_wanted d x) (all_wanted (with_want d x) xs)
