-- Where a location stands once in what lists of lists have, just one of these has it.
use Rattle.std.proofs.Common.{◌≡◌, ◌⊎◌, ℕ, zero, suc, ◌+◌, ◌<◌, ◌≤◌, Bool, true, false, ◌||◌, inl, inr, List, [], ◌∷◌, ◌++◌, flat_map, Some, refl, sym, ap, ap₂, ◌∙◌, subst, arith, true≢false, slice_get, Contains}
use Rattle.std.specs.Prelude.{if◌then◌else◌}
use Rattle.std.proofs.lemmas.List.Concat.{flat_map-append}
use Rattle.std.proofs.lemmas.List.Sums.{sum_by-cons}
use Rattle.dcc_ir.specs.declared.syntax.Loc.{Loc}
use Rattle.dcc_ir.specs.Joinable.{times_in}
use Rattle.dcc_ir.specs.Live.{is_among}
use Rattle.dcc_ir.specs.Location.{same_location}
use Rattle.dcc_ir.proofs.LocationLaws.{Contains-none, Contains-cases}

times-cons-by : (x : Loc) (xs : List Loc) (l : Loc) → times_in (x ∷ xs) l ≡ (if same_location l x then 1 else 0) + times_in xs l
times-cons-by x xs l = sum_by-cons (λ y. if same_location l y then 1 else 0) x xs

pub times-by : (b : Bool) (x : Loc) (xs : List Loc) (l : Loc) → same_location l x ≡ b → times_in (x ∷ xs) l ≡ (if b then suc (times_in xs l) else times_in xs l)
times-by true x xs l is = omega (arith, times-cons-by x xs l, ap {B = ℕ} (λ c. if c then 1 else 0) is)
times-by false x xs l is = omega (arith, times-cons-by x xs l, ap {B = ℕ} (λ c. if c then 1 else 0) is)

pub some-times : (xs : List Loc) (l : Loc) → is_among xs l ≡ true → 1 ≤ times_in xs l
some-times [] l is = absurd (true≢false (sym is))
some-times (x ∷ xs) l is = by (same_location l x) refl is (some-times xs l)
  where
    by : (b : Bool) → same_location l x ≡ b → (b || is_among xs l) ≡ true → (is_among xs l ≡ true → 1 ≤ times_in xs l) → 1 ≤ times_in (x ∷ xs) l
    by true same there more = omega (arith, times-by true x xs l same)
    by false same there more = omega (arith, more there, times-by false x xs l same)

pub no-times : (xs : List Loc) (l : Loc) → is_among xs l ≡ false → times_in xs l ≡ 0
no-times [] l is = refl
no-times (x ∷ xs) l is = by (same_location l x) refl is (no-times xs l)
  where
    by : (b : Bool) → same_location l x ≡ b → (b || is_among xs l) ≡ false → (is_among xs l ≡ false → times_in xs l ≡ 0) → times_in (x ∷ xs) l ≡ 0
    by true same there more = absurd (true≢false there)
    by false same there more = times-by false x xs l same ∙ more there

pub times-joined : (xs ys : List Loc) (l : Loc) → times_in (xs ++ ys) l ≡ times_in xs l + times_in ys l
times-joined [] ys l = let none : times_in [] l ≡ 0 = refl in omega (arith, none)
times-joined (x ∷ xs) ys l = by (same_location l x) refl (times-joined xs ys l)
  where
    by : (b : Bool) → same_location l x ≡ b → times_in (xs ++ ys) l ≡ times_in xs l + times_in ys l → times_in (x ∷ (xs ++ ys)) l ≡ times_in (x ∷ xs) l + times_in ys l
    by true same more = omega (arith, more, times-by true x (xs ++ ys) l same, times-by true x xs l same)
    by false same more = omega (arith, more, times-by false x (xs ++ ys) l same, times-by false x xs l same)

pub flat-flat : {X Y Z : Type 0} (f : X → List Y) (g : Y → List Z) (xs : List X) → flat_map g (flat_map f xs) ≡ flat_map (λ x. flat_map g (f x)) xs
flat-flat f g [] = refl
flat-flat f g (x ∷ xs) = flat_map-append g (f x) (flat_map f xs) ∙ ap (λ ys. flat_map g (f x) ++ ys) (flat-flat f g xs)

module _ {X : Type 0} (f : X → List Loc) (l : Loc) where
  abbrev pub Has : X → Type 0
  Has x = is_among (f x) l ≡ true

  pub times-cons : (x : X) (xs : List X) → times_in (flat_map f (x ∷ xs)) l ≡ times_in (f x) l + times_in (flat_map f xs) l
  times-cons x xs = times-joined (f x) (flat_map f xs) l

  pub some-in : (xs : List X) (x : X) → Contains xs x → Has x → 1 ≤ times_in (flat_map f xs) l
  some-in [] x there has = absurd (Contains-none x there)
  some-in (y ∷ xs) x there has =
      Contains-cases y xs x (1 ≤ times_in (flat_map f (y ∷ xs)) l)
      (λ same. let some = some-times (f y) l (subst Has (sym same) has) in omega (arith, times-cons y xs, some))
      (λ later. let some = some-in xs x later has in omega (arith, times-cons y xs, some))
      there

  -- the one that has it
  pub one-of : (xs : List X) (x y : X) → times_in (flat_map f xs) l ≤ 1 → Contains xs x → Contains xs y → Has x → Has y → x ≡ y
  one-of [] x y few there here has also = absurd (Contains-none x there)
  one-of (z ∷ xs) x y few there here has also =
      Contains-cases z xs x (x ≡ y)
      (λ is. Contains-cases z xs y (x ≡ y) (λ same. sym is ∙ same)
      (λ later.
      let one = some-times (f z) l (subst Has (sym is) has) in
      let more = some-in xs y later also in
      absurd (omega (arith, times-cons z xs, one, more, few)))
      here)
      (λ after. Contains-cases z xs y (x ≡ y)
      (λ same.
      let one = some-times (f z) l (subst Has (sym same) also) in
      let more = some-in xs x after has in
      absurd (omega (arith, times-cons z xs, one, more, few)))
      (λ later. one-of xs x y (omega (arith, times-cons z xs, few)) after later has also)
      here)
      there

  -- by its place in the list
  got-some : (xs : List X) (k : ℕ) (x : X) → slice_get xs k ≡ Some x → Has x → 1 ≤ times_in (flat_map f xs) l
  got-some [] k x is has = absurd (cc)
  got-some (y ∷ xs) zero x is has =
      let same : y ≡ x = cc in
      let some = some-times (f y) l (subst Has (sym same) has) in
      omega (arith, times-cons y xs, some)
  got-some (y ∷ xs) (suc k) x is has = let some = got-some xs k x is has in omega (arith, times-cons y xs, some)

  pub one-index : (xs : List X) (j k : ℕ) (x y : X) → times_in (flat_map f xs) l ≤ 1 → slice_get xs j ≡ Some x → slice_get xs k ≡ Some y → Has x → Has y → j ≡ k
  one-index [] j k x y few is also has too = absurd (cc)
  one-index (z ∷ xs) zero zero x y few is also has too = refl
  one-index (z ∷ xs) zero (suc k) x y few is also has too =
      let same : z ≡ x = cc in
      let one = some-times (f z) l (subst Has (sym same) has) in
      let more = got-some xs k y also too in
      absurd (omega (arith, times-cons z xs, one, more, few))
  one-index (z ∷ xs) (suc j) zero x y few is also has too =
      let same : z ≡ y = cc in
      let one = some-times (f z) l (subst Has (sym same) too) in
      let more = got-some xs j x is has in
      absurd (omega (arith, times-cons z xs, one, more, few))
  one-index (z ∷ xs) (suc j) (suc k) x y few is also has too = ap suc (one-index xs j k x y (omega (arith, times-cons z xs, few)) is also has too)

  -- by what stands before and behind it
  split-some : (xs ys : List X) (x : X) → Has x → 1 ≤ times_in (flat_map f (xs ++ x ∷ ys)) l
  split-some [] ys x has = let some = some-times (f x) l has in omega (arith, times-cons x ys, some)
  split-some (z ∷ xs) ys x has = let some = split-some xs ys x has in omega (arith, times-cons z (xs ++ x ∷ ys), some)

  pub one-split : (ws bs cs ds : List X) (x y : X) → times_in (flat_map f (ws ++ x ∷ bs)) l ≤ 1 → ws ++ x ∷ bs ≡ cs ++ y ∷ ds → Has x → Has y → (ws ≡ cs) × (bs ≡ ds)
  one-split [] bs [] ds x y few is has also = (refl, cc)
  one-split [] bs (c ∷ cs) ds x y few is has also =
      let tail : bs ≡ cs ++ y ∷ ds = cc in
      let one = some-times (f x) l has in
      let more = subst (λ xs. 1 ≤ times_in (flat_map f xs) l) (sym tail) (split-some cs ds y also) in
      absurd (omega (arith, times-cons x bs, one, more, few))
  one-split (a ∷ ws) bs [] ds x y few is has also =
      let head : a ≡ y = cc in
      let one = some-times (f a) l (subst Has (sym head) also) in
      let more = split-some ws bs x has in
      absurd (omega (arith, times-cons a (ws ++ x ∷ bs), one, more, few))
  one-split (a ∷ ws) bs (c ∷ cs) ds x y few is has also =
      let head : a ≡ c = cc in
      let tail : ws ++ x ∷ bs ≡ cs ++ y ∷ ds = cc in
      let rest = one-split ws bs cs ds x y (omega (arith, times-cons a (ws ++ x ∷ bs), few)) tail has also in
      (ap₂ (λ z zs. z ∷ zs) head rest.0, rest.1)

  -- one of the first list has it, so none of the second one
  pub none-behind : (xs ys : List X) (x : X) → times_in (flat_map f (xs ++ ys)) l ≤ 1 → Contains xs x → Has x → times_in (flat_map f ys) l ≡ 0
  none-behind xs ys x few there has =
      let some = some-in xs x there has in
      omega (arith, ap (λ zs. times_in zs l) (flat_map-append f xs ys) ∙ times-joined (flat_map f xs) (flat_map f ys) l, some, few)

  pub got-times : (xs : List X) (k : ℕ) (x : X) → slice_get xs k ≡ Some x → times_in (f x) l ≤ times_in (flat_map f xs) l
  got-times [] k x is = absurd (cc)
  got-times (y ∷ xs) zero x is =
      let same : y ≡ x = cc in
      omega (arith, times-cons y xs, ap (λ z. times_in (f z) l) same)
  got-times (y ∷ xs) (suc k) x is = let some = got-times xs k x is in omega (arith, times-cons y xs, some)
