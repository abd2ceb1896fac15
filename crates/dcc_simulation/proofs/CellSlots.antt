-- A location holds one byte of a frame, so what it takes is put at that byte alone.
use Rattle.std.proofs.Common.{◌≡◌, ◌≤◌, ℕ, ◌+◌, Bool, true, false, List, [], ◌∷◌, Option, Some, None, refl, sym, ap, ◌∙◌, arith}
use Rattle.std.specs.Prelude.{ℤ, ◌&&◌, if◌then◌else◌, All}
use Rattle.std.specs.Ordering.{int_eq}
use Rattle.std.proofs.lemmas.Bool.Decides.{Decides-int_eq}
use Rattle.std.proofs.lemmas.Bool.{eq-eqb}
use Rattle.std.proofs.lemmas.Int.{ints}
use Rattle.std.proofs.lemmas.List.Elements.{All-head, All-tail}
use Rattle.dcc_num.specs.declared.Half.{Half as HalfName}
use Rattle.dcc_num.specs.declared.Half.TheVariants.{Low, High}
use Rattle.dcc_prog.specs.declared.frame.Cell.{Cell}
use Rattle.dcc_prog.specs.Analysed.{bytes_of}
use Rattle.dcc_stack.specs.Slots.{is_within}
use Rattle.dcc_stack.proofs.SlotPlaces.{within-tells}
use Rattle.dcc_ir.specs.declared.syntax.Loc.{Loc}
use Rattle.dcc_ir.specs.declared.syntax.Loc.TheVariants.{Cell as CellHalf}
use Rattle.dcc_ir.specs.Location.{same_location, Values, with_value}
use Rattle.dcc_ir.proofs.LocationLaws.{location_same}
use Rattle.dcc_simulation.specs.Coupled.{half_in, held_at, slots_in}

-- a byte within a cell of at most two is its first or the one after it
abbrev pub IsSmall : Cell → Type 0
IsSmall cell = cell.size ≤ 2

-- the half tells which
one-half : (k : ℤ) (j : ℤ) (cell : Cell) → IsSmall cell → is_within k (bytes_of cell) ≡ true
    → is_within j (bytes_of cell) ≡ true
    → (if int_eq k cell.first then Low else High) ≡ (if int_eq j cell.first then Low else High)
    → k ≡ j
one-half k j cell small p q same = by (int_eq k cell.first) (int_eq j cell.first) refl refl same
  where
    by : (b d : Bool) → int_eq k cell.first ≡ b → int_eq j cell.first ≡ d
        → (if b then Low else High) ≡ (if d then Low else High)
        → k ≡ j
    by true true x y e = (Decides-int_eq k cell.first).0 x ∙ sym ((Decides-int_eq j cell.first).0 y)
    by true false x y e = cc
    by false true x y e = cc
    by false false x y e =
        let one = within-tells k (bytes_of cell) p in
        let other = within-tells j (bytes_of cell) q in
        let low = one.0 in
        let high = one.1 in
        let low' = other.0 in
        let high' = other.1 in
        let apart : ¬ (k ≡ cell.first) = λ is. let yes = (Decides-int_eq k cell.first).1 is in cc in
        let apart' : ¬ (j ≡ cell.first) = λ is. let yes = (Decides-int_eq j cell.first).1 is in cc in
        omega (arith, ints, low, high, low', high', apart, apart', small)

-- later cells have greater numbers
number-above : (n : ℕ) (cells : List Cell) (k : ℤ) (number : ℕ) (half : HalfName)
    → half_in n cells k ≡ Some (CellHalf number half)
    → n ≤ number
number-above n [] k number half e = cc
number-above n (cell ∷ cells) k number half e =
    by (is_within k (bytes_of cell)) (if int_eq k cell.first then Low else High)
    (λ later. number-above (n + 1) cells k number half later) e
  where
    by : (b : Bool) (h : HalfName)
        → (half_in (n + 1) cells k ≡ Some (CellHalf number half) → n + 1 ≤ number)
        → (if b then Some (CellHalf n h) else half_in (n + 1) cells k) ≡ Some (CellHalf number half)
        → n ≤ number
    by true h rest is = let same : n ≡ number = cc in omega (arith, same)
    by false h rest is = let le = rest is in omega (arith, le)

-- two bytes of one half are one
bytes-same : (n : ℕ) (cells : List Cell) (k j : ℤ) (number : ℕ) (half : HalfName) → All IsSmall cells
    → half_in n cells k ≡ Some (CellHalf number half) → half_in n cells j ≡ Some (CellHalf number half)
    → k ≡ j
bytes-same n [] k j number half small p q = cc
bytes-same n (cell ∷ cells) k j number half small p q =
    by (is_within k (bytes_of cell)) (is_within j (bytes_of cell)) refl refl
    (λ x y. bytes-same (n + 1) cells k j number half (All-tail IsSmall cell cells small) x y) p q
  where
    abbrev-none : (number ≡ n) → (m : ℤ) → half_in (n + 1) cells m ≡ Some (CellHalf number half) → ⊥
    abbrev-none same m e = let above = number-above (n + 1) cells m number half e in omega (arith, above, same)

    by : (b d : Bool) → is_within k (bytes_of cell) ≡ b → is_within j (bytes_of cell) ≡ d
        → (half_in (n + 1) cells k ≡ Some (CellHalf number half)
        → half_in (n + 1) cells j ≡ Some (CellHalf number half) → k ≡ j)
        → (if b then Some (CellHalf n (if int_eq k cell.first then Low else High)) else half_in (n + 1) cells k)
        ≡ Some (CellHalf number half)
        → (if d then Some (CellHalf n (if int_eq j cell.first then Low else High)) else half_in (n + 1) cells j)
        ≡ Some (CellHalf number half)
        → k ≡ j
    by true true x y rest e f =
        let one : (if int_eq k cell.first then Low else High) ≡ half = cc in
        let other : (if int_eq j cell.first then Low else High) ≡ half = cc in
        one-half k j cell (All-head IsSmall cell cells small) x y (one ∙ sym other)
    by true false x y rest e f = let same : number ≡ n = cc in absurd (abbrev-none same j f)
    by false true x y rest e f = let same : number ≡ n = cc in absurd (abbrev-none same k e)
    by false false x y rest e f = rest e f

-- a location takes a value: it is put at its byte
location-self : (number : ℕ) (half : HalfName) → same_location (CellHalf number half) (CellHalf number half) ≡ true
location-self number Low = ap (λ b. b && true) (eq-eqb number number refl)
location-self number High = ap (λ b. b && true) (eq-eqb number number refl)

pub slot-set : (cells : List Cell) (values : Values) (k : ℤ) (number : ℕ) (half : HalfName) (value : ℕ) (j : ℤ)
    → All IsSmall cells → half_in 0 cells k ≡ Some (CellHalf number half)
    → slots_in cells (with_value values (CellHalf number half) value) j
    ≡ (if int_eq j k then value else slots_in cells values j)
slot-set cells values k number half value j small is = by (int_eq j k) refl
  where
    other : (found : Option Loc) → half_in 0 cells j ≡ found → ¬ (j ≡ k)
        → held_at (with_value values (CellHalf number half) value) found ≡ held_at values found
    other None e apart = refl
    other (Some location) e apart = same (same_location location (CellHalf number half)) refl
      where
        same : (b : Bool) → same_location location (CellHalf number half) ≡ b
            → (if b then value else values location) ≡ values location
        same false x = refl
        same true x =
            let one = location_same location (CellHalf number half) x in
            absurd (apart (bytes-same 0 cells j k number half small (e ∙ ap Some one) is))

    by : (b : Bool) → int_eq j k ≡ b
        → slots_in cells (with_value values (CellHalf number half) value) j
        ≡ (if b then value else slots_in cells values j)
    by true x =
        ap (λ i. slots_in cells (with_value values (CellHalf number half) value) i) ((Decides-int_eq j k).0 x)
        ∙ ap (held_at (with_value values (CellHalf number half) value)) is
        ∙ ap (λ b. if b then value else values (CellHalf number half)) (location-self number half)
    by false x = other (half_in 0 cells j) refl (λ e. let yes = (Decides-int_eq j k).1 e in cc)
