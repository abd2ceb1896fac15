-- What is given back as one value is what was given back apart.
use Rattle.std.proofs.Common.{arith, ◌≡◌, ℕ, ◌+◌, ◌*◌, ◌/◌, ◌%◌, ◌^◌, ◌<◌, ◌≤◌, Bool, true, false, ◌⊎◌, inl, inr, List, [], ◌∷◌, length, refl, sym, ap, ap₂, ◌∙◌, subst, map, ltb-true, eqb-true}
use Rattle.std.specs.Prelude.{if◌then◌else◌, ◌==◌, All, Contains}
use Rattle.std.proofs.lemmas.List.Elements.{All-contains}
use Rattle.dcc_num.specs.declared.Reg.{Reg}
use Rattle.dcc_num.specs.declared.Reg.TheVariants.{Ax, Dx}
use Rattle.dcc_num.specs.declared.Half.{Half as HalfName}
use Rattle.dcc_num.specs.declared.Half.TheVariants.{Low, High}
use Rattle.dcc_ir.specs.declared.syntax.Loc.{Loc}
use Rattle.dcc_ir.specs.declared.syntax.Loc.TheVariants.{Half, Flag, Cell, Temp}
use Rattle.dcc_ir.specs.Tree.{Expr, Const, Get, Stmt}
use Rattle.dcc_ir.specs.Location.{same_location, location_width, Values, with_value}
use Rattle.dcc_ir.specs.Value.{width_of}
use Rattle.dcc_ir.specs.Live.{is_among}
use Rattle.dcc_ir.specs.WellFormed.{is_location}
use Rattle.dcc_ir.specs.Passes.{with_values}
use Rattle.dcc_ir.specs.Run.{State, value_in}
use Rattle.dcc_ir.proofs.LocationLaws.{location_itself, Contains-here, Contains-later, Contains-none, Contains-cases, among_contains, contains_among}
use Rattle.dcc_sums.specs.Summaries.{IsHalfOf}
use Rattle.dcc_signatures.specs.declared.packing.Fresh.{Fresh}
use Rattle.dcc_signatures.specs.declared.packing.Packing.{Packing}
use Rattle.dcc_signatures.specs.declared.packing.Packing.TheVariants.{Apart, Word, Double}
use Rattle.dcc_signatures.specs.Packed.{packing_of, bit_of, word_of, given_or_zero, given_word, double_of, one_value}
use Rattle.dcc_signatures.specs.Packed.{taking_part, fresh_after}

-- Forms of what is given back.

abbrev pub IsInDouble : Loc → Type 0
IsInDouble l = IsHalfOf Ax l ⊎ IsHalfOf Dx l

pub data Form (locations : List Loc) : Type 0 where
  apart : packing_of locations ≡ Apart → Form locations
  word : (r : Reg) → locations ≡ Half r Low ∷ Half r High ∷ [] → Form locations
  double : packing_of locations ≡ Double → All IsInDouble locations → Form locations

pub packing-word : (r : Reg) → packing_of (Half r Low ∷ Half r High ∷ []) ≡ Word (Half r Low) (Half r High)
packing-word r = ap (λ b. if b then Word (Half r Low) (Half r High) else Double) (location_itself (Half r Low))

-- Numbers.

-- what a location gives back, or 0
abbrev pub or_zero : Values → List Loc → Loc → ℕ
or_zero v ls l = if is_among ls l then v l else 0

abbrev pub word_number : Values → List Loc → Reg → ℕ
word_number v ls r = or_zero v ls (Half r High) * 256 + or_zero v ls (Half r Low)

abbrev pub numbers_by : Packing → Values → List Loc → List ℕ
numbers_by Apart v ls = map v ls
numbers_by (Word low high) v ls = (v high * 256 + v low) ∷ []
numbers_by Double v ls = (word_number v ls Dx * 65536 + word_number v ls Ax) ∷ []

-- what is given back as one value, where the locations hold these
abbrev pub given_numbers : Values → List Loc → List ℕ
given_numbers v ls = numbers_by (packing_of ls) v ls

-- The return.

abbrev pub one_by : Packing → List Loc → List Expr → List Expr
one_by packing given values = elim packing [ Apart ↦ values | Word low high ↦ word_of low high ∷ [] | Double ↦ double_of given ∷ [] ]

pub given-width : (bits : List ℕ) (ls : List Loc) (r : Reg) (h : HalfName) → width_of bits (given_or_zero ls (Half r h)) ≡ 8
given-width bits ls r h = elim (is_among ls (Half r h)) as (λ b. width_of bits (if b then Get (Half r h) else Const 8 0) ≡ 8) [ true ↦ refl | false ↦ refl ]

pub word-width : (bits : List ℕ) (ls : List Loc) (r : Reg) → width_of bits (given_word ls r) ≡ 16
word-width bits ls r = ap₂ (λ m n. m + n) (given-width bits ls r High) (given-width bits ls r Low)

module _ (t : State) (v : Values) (ls : List Loc) (same : (l : Loc) → Contains ls l → t.running.values l ≡ v l) where
  zero-value : (r : Reg) (h : HalfName) → value_in t (given_or_zero ls (Half r h)) ≡ or_zero v ls (Half r h)
  zero-value r h = go (is_among ls (Half r h)) refl
    where
      go : (b : Bool) → is_among ls (Half r h) ≡ b → value_in t (if b then Get (Half r h) else Const 8 0) ≡ (if b then v (Half r h) else 0)
      go true e = same (Half r h) (among_contains ls (Half r h) e)
      go false e = refl

  word-value : (r : Reg) → value_in t (given_word ls r) ≡ word_number v ls r
  word-value r =
      ap₂ (λ n w. n * 2 ^ w + value_in t (given_or_zero ls (Half r Low))) (zero-value r High) (given-width t.running.graph.bits ls r Low)
      ∙ ap (λ n. or_zero v ls (Half r High) * 256 + n) (zero-value r Low)

  double-value : value_in t (double_of ls) ≡ word_number v ls Dx * 65536 + word_number v ls Ax
  double-value =
      ap₂ (λ n w. n * 2 ^ w + value_in t (given_word ls Ax)) (word-value Dx) (word-width t.running.graph.bits ls Ax)
      ∙ ap (λ n. word_number v ls Dx * 65536 + n) (word-value Ax)

  same_gets : (xs : List Loc) → ((l : Loc) → Contains xs l → Contains ls l) → map (value_in t) (map Get xs) ≡ map v xs
  same_gets [] among = refl
  same_gets (x ∷ xs) among = ap₂ (λ n ns. n ∷ ns) (same x (among x (Contains-here x xs))) (same_gets xs (λ l c. among l (Contains-later x xs l c)))

  -- a return gives these numbers
  pub one-given : Form ls → map (value_in t) (one_value ls (map Get ls)) ≡ given_numbers v ls
  one-given (apart e) =
      subst (λ packing. map (value_in t) (one_by packing ls (map Get ls)) ≡ numbers_by packing v ls) (sym e) (same_gets ls (λ l c. c))
  one-given (word r e) =
      let packing = ap packing_of e ∙ packing-word r in
      let low = same (Half r Low) (subst (λ l. Contains l (Half r Low)) (sym e) (Contains-here (Half r Low) (Half r High ∷ []))) in
      let high = same (Half r High) (subst (λ l. Contains l (Half r High)) (sym e) (Contains-later (Half r Low) (Half r High ∷ []) (Half r High) (Contains-here (Half r High) []))) in
      subst (λ packing. map (value_in t) (one_by packing ls (map Get ls)) ≡ numbers_by packing v ls) (sym packing)
      (ap₂ (λ h l. (h * 256 + l) ∷ []) high low)
  one-given (double e all) =
      subst (λ packing. map (value_in t) (one_by packing ls (map Get ls)) ≡ numbers_by packing v ls) (sym e) (ap (λ n. n ∷ []) double-value)

-- After the call.

-- the values after locations have taken their parts of a temporary
abbrev pub taken : ℕ → Bool → Values → List Loc → Values
taken temporary two u [] = u
taken temporary two u (x ∷ xs) = taken temporary two (with_value u x (u (Temp temporary) / 2 ^ bit_of two x % 2 ^ 8)) xs

-- a location takes its part of a number
abbrev IsPart : ℕ → Bool → Values → List Loc → Type 0
IsPart n two w xs = (x : Loc) → Contains xs x → n / 2 ^ bit_of two x % 256 ≡ w x

taken-is : (l : Loc) (temporary : ℕ) (two : Bool) (n : ℕ) (w : Values) (xs : List Loc) (u v : Values) → u (Temp temporary) ≡ n → u l ≡ v l → IsPart n two w xs →
    ((x : Loc) → Contains xs x → same_location (Temp temporary) x ≡ false) → taken temporary two u xs l ≡ with_values v xs (map w xs) l
taken-is l temporary two n w [] u v there same part other = same
taken-is l temporary two n w (x ∷ xs) u v there same part other =
    let m = u (Temp temporary) / 2 ^ bit_of two x % 2 ^ 8 in
    let is : m ≡ w x = ap (λ k. k / 2 ^ bit_of two x % 256) there ∙ part x (Contains-here x xs) in
    taken-is l temporary two n w xs (with_value u x m) (with_value v x (w x))
    (ap (λ b. if b then m else u (Temp temporary)) (other x (Contains-here x xs)) ∙ there)
    (ap₂ (λ a b. if same_location l x then a else b) is same)
    (λ y c. part y (Contains-later x xs y c)) (λ y c. other y (Contains-later x xs y c))

-- the halves of a word
word_parts : (w : Values) (r : Reg) → w (Half r Low) < 256 → w (Half r High) < 256 → IsPart (w (Half r High) * 256 + w (Half r Low)) false w (Half r Low ∷ Half r High ∷ [])
word_parts w r low high x c =
    Contains-cases (Half r Low) (Half r High ∷ []) x (n / 2 ^ bit_of false x % 256 ≡ w x)
    (λ e. subst (λ y. n / 2 ^ bit_of false y % 256 ≡ w y) e (lower (w (Half r High)) (w (Half r Low)) low))
    (λ d. Contains-cases (Half r High) [] x (n / 2 ^ bit_of false x % 256 ≡ w x)
    (λ e. subst (λ y. n / 2 ^ bit_of false y % 256 ≡ w y) e (upper (w (Half r High)) (w (Half r Low)) low high)) (λ f. absurd (Contains-none x f)) d) c
  where
    n : ℕ
    n = w (Half r High) * 256 + w (Half r Low)

    lower : (h l : ℕ) → l < 256 → (h * 256 + l) / 1 % 256 ≡ l
    lower h l less = omega (arith, less)

    upper : (h l : ℕ) → l < 256 → h < 256 → (h * 256 + l) / 256 % 256 ≡ h
    upper h l less more = omega (arith, less, more)

-- the halves of two words
module _ (a b c d : ℕ) (a_small : a < 256) (b_small : b < 256) (c_small : c < 256) (d_small : d < 256) where
  first_part : ((d * 256 + c) * 65536 + (b * 256 + a)) / 1 % 256 ≡ a
  first_part = omega (arith, a_small, b_small, c_small, d_small)

  second_part : ((d * 256 + c) * 65536 + (b * 256 + a)) / 256 % 256 ≡ b
  second_part = omega (arith, a_small, b_small, c_small, d_small)

  third_part : ((d * 256 + c) * 65536 + (b * 256 + a)) / 65536 % 256 ≡ c
  third_part = omega (arith, a_small, b_small, c_small, d_small)

  fourth_part : ((d * 256 + c) * 65536 + (b * 256 + a)) / 16777216 % 256 ≡ d
  fourth_part = omega (arith, a_small, b_small, c_small, d_small)

module _ (w : Values) (ls : List Loc) (small : (x : Loc) → Contains ls x → w x < 256) where
  zero_small : (l : Loc) → or_zero w ls l < 256
  zero_small l = go (is_among ls l) refl
    where
      go : (b : Bool) → is_among ls l ≡ b → (if b then w l else 0) < 256
      go true e = small l (among_contains ls l e)
      go false e = omega arith

  zero_there : (l : Loc) → Contains ls l → or_zero w ls l ≡ w l
  zero_there l c = ap (λ b. if b then w l else 0) (contains_among ls l c)

  abbrev z : Reg → HalfName → ℕ
  z r h = or_zero w ls (Half r h)

  double_parts : All IsInDouble ls → IsPart (word_number w ls Dx * 65536 + word_number w ls Ax) true w ls
  double_parts all x c = go (All-contains IsInDouble ls x all c)
    where
      n : ℕ
      n = word_number w ls Dx * 65536 + word_number w ls Ax

      each : (r : Reg) (h : HalfName) → x ≡ Half r h → n / 2 ^ bit_of true (Half r h) % 256 ≡ z r h → n / 2 ^ bit_of true x % 256 ≡ w x
      each r h e is = subst (λ y. Contains ls y → n / 2 ^ bit_of true y % 256 ≡ w y) (sym e) (λ there. is ∙ zero_there (Half r h) there) c

      ax : (h : HalfName) → n / 2 ^ bit_of true (Half Ax h) % 256 ≡ z Ax h
      ax Low = first_part (z Ax Low) (z Ax High) (z Dx Low) (z Dx High) (zero_small (Half Ax Low)) (zero_small (Half Ax High)) (zero_small (Half Dx Low)) (zero_small (Half Dx High))
      ax High = second_part (z Ax Low) (z Ax High) (z Dx Low) (z Dx High) (zero_small (Half Ax Low)) (zero_small (Half Ax High)) (zero_small (Half Dx Low)) (zero_small (Half Dx High))

      dx : (h : HalfName) → n / 2 ^ bit_of true (Half Dx h) % 256 ≡ z Dx h
      dx Low = third_part (z Ax Low) (z Ax High) (z Dx Low) (z Dx High) (zero_small (Half Ax Low)) (zero_small (Half Ax High)) (zero_small (Half Dx Low)) (zero_small (Half Dx High))
      dx High = fourth_part (z Ax Low) (z Ax High) (z Dx Low) (z Dx High) (zero_small (Half Ax Low)) (zero_small (Half Ax High)) (zero_small (Half Dx Low)) (zero_small (Half Dx High))

      go : IsInDouble x → n / 2 ^ bit_of true x % 256 ≡ w x
      go (inl half) = each Ax half.0 half.1 (ax half.0)
      go (inr half) = each Dx half.0 half.1 (dx half.0)

-- a location of the graph is no fresh temporary
apart_right : (bits : List ℕ) (n : ℕ) → length bits ≤ n → (l : Loc) → is_location bits l ≡ true → same_location l (Temp n) ≡ false
apart_right bits n less (Half r h) e = refl
apart_right bits n less (Flag f) e = refl
apart_right bits n less (Cell m h) e = refl
apart_right bits n less (Temp m) e = go (m == n) refl
  where
    go : (b : Bool) → (m == n) ≡ b → b ≡ false
    go true is = let same = eqb-true m n is in let below = ltb-true m (length bits) e in absurd (omega (arith, same, below, less))
    go false is = refl

apart_left : (bits : List ℕ) (n : ℕ) → length bits ≤ n → (l : Loc) → is_location bits l ≡ true → same_location (Temp n) l ≡ false
apart_left bits n less (Half r h) e = refl
apart_left bits n less (Flag f) e = refl
apart_left bits n less (Cell m h) e = refl
apart_left bits n less (Temp m) e = go (n == m) refl
  where
    go : (b : Bool) → (n == m) ≡ b → b ≡ false
    go true is = let same = eqb-true n m is in let below = ltb-true m (length bits) e in absurd (omega (arith, same, below, less))
    go false is = refl

module _ (bits : List ℕ) (w : Values) (ls : List Loc) (placed : (x : Loc) → Contains ls x → is_location bits x ≡ true) (v u : Values) (same : (l : Loc) → is_location bits l ≡ true → u l ≡ v l) where
  abbrev fresh : Fresh
  fresh = fresh_after bits

  abbrev places_by : Packing → List Loc
  places_by packing = elim packing [ Apart ↦ ls | Word low high ↦ Temp fresh.word ∷ [] | Double ↦ Temp fresh.double ∷ [] ]

  abbrev parts_by : Packing → List Stmt
  parts_by packing = elim packing [ Apart ↦ [] | Word low high ↦ map (taking_part fresh.word false) ls | Double ↦ map (taking_part fresh.double true) ls ]

  -- What the locations take after the call makes them hold what they were given.
  pub record TakesBy (packing : Packing) : Type 0 where
    pub temporary : ℕ
    pub two : Bool
    pub pending : List Loc
    pub parts : parts_by packing ≡ map (taking_part temporary two) pending
    pub values : (l : Loc) → is_location bits l ≡ true → taken temporary two (with_values u (places_by packing) (numbers_by packing w ls)) pending l ≡ with_values v ls (map w ls) l

  given_same : (l : Loc) (xs : List Loc) (ns : List ℕ) (v u : Values) → u l ≡ v l → with_values u xs ns l ≡ with_values v xs ns l
  given_same l [] ns v u e = e
  given_same l (x ∷ xs) [] v u e = e
  given_same l (x ∷ xs) (n ∷ ns) v u e = given_same l xs ns (with_value v x n) (with_value u x n) (ap (λ m. if same_location l x then n else m) e)

  -- all are parts of one number
  by_parts : (temporary : ℕ) (two : Bool) (n : ℕ) → length bits ≤ temporary → IsPart n two w ls → (l : Loc) → is_location bits l ≡ true →
      taken temporary two (with_value u (Temp temporary) n) ls l ≡ with_values v ls (map w ls) l
  by_parts temporary two n less part l is =
      taken-is l temporary two n w ls (with_value u (Temp temporary) n) v
      (ap (λ b. if b then n else u (Temp temporary)) (location_itself (Temp temporary)))
      (ap (λ b. if b then n else u l) (apart_right bits temporary less l is) ∙ same l is) part
      (λ x c. apart_left bits temporary less x (placed x c))

  pub takes_by : Form ls → ((x : Loc) → Contains ls x → w x < 2 ^ location_width bits x) → TakesBy (packing_of ls)
  takes_by (apart e) small = subst TakesBy (sym e) (record { temporary = 0; two = false; pending = []; parts = refl; values = λ l is. given_same l ls (map w ls) v u (same l is) })
  takes_by (word r e) small =
      let low = small (Half r Low) (subst (λ l. Contains l (Half r Low)) (sym e) (Contains-here (Half r Low) (Half r High ∷ []))) in
      let high = small (Half r High) (subst (λ l. Contains l (Half r High)) (sym e) (Contains-later (Half r Low) (Half r High ∷ []) (Half r High) (Contains-here (Half r High) []))) in
      subst TakesBy (sym (ap packing_of e ∙ packing-word r)) (record {
        temporary = fresh.word;
        two = false;
        pending = ls;
        parts = refl;
        values = λ l is. by_parts fresh.word false (w (Half r High) * 256 + w (Half r Low)) (omega arith)
            (subst (IsPart (w (Half r High) * 256 + w (Half r Low)) false w) (sym e) (word_parts w r low high)) l is;
      })
  takes_by (double e all) small =
      subst TakesBy (sym e) (record {
        temporary = fresh.double;
        two = true;
        pending = ls;
        parts = refl;
        values = λ l is. by_parts fresh.double true (word_number w ls Dx * 65536 + word_number w ls Ax) (omega arith) (double_parts w ls less all) l is;
      })
    where
      less : (x : Loc) → Contains ls x → w x < 256
      less x c = go (All-contains IsInDouble ls x all c)
        where
          go : IsInDouble x → w x < 256
          go (inl half) = subst (λ y. w y < 2 ^ location_width bits y → w y < 256) (sym half.1) (λ h. h) (small x c)
          go (inr half) = subst (λ y. w y < 2 ^ location_width bits y → w y < 256) (sym half.1) (λ h. h) (small x c)
