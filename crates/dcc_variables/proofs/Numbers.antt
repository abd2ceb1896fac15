-- The numbers of variables ascend along their list, so different locations have different ones.
use Rattle.std.proofs.Common.{◌≡◌, ◌≢◌, ℕ, zero, suc, ◌+◌, ◌*◌, ◌<◌, ◌≤◌, Bool, true, false, ◌==◌, inl, inr, List, [], ◌∷◌, ◌++◌, length, map, refl, sym, ap, ◌∙◌, subst, true≢false, arith, eq-eqb, eqb-true}
use Rattle.std.specs.Prelude.{◌||◌, filter, flat_map, if◌then◌else◌}
use Rattle.std.specs.List.{range_with_len}
use Rattle.std.proofs.lemmas.Bool.{or_left, or_right, ltb-true, lt-ltb}
use Rattle.std.proofs.lemmas.List.Folds.{list_any-append}
use Rattle.dcc_num.specs.declared.Reg.{Reg}
use Rattle.dcc_num.specs.declared.Reg.TheVariants.{Ax, Cx, Dx, Bx, Sp, Bp, Si, Di}
use Rattle.dcc_num.specs.declared.Half.{Half as HalfName}
use Rattle.dcc_num.specs.declared.Half.TheVariants.{Low, High}
use Rattle.dcc_num.specs.declared.FlagName.{FlagName}
use Rattle.dcc_num.specs.declared.FlagName.TheVariants.{Cf, Zf, Sf, Of}
use Rattle.dcc_ir.specs.declared.syntax.Loc.{Loc}
use Rattle.dcc_ir.specs.declared.syntax.Loc.TheVariants.{Half, Flag, Cell, Temp}
use Rattle.dcc_ir.specs.Location.{same_location}
use Rattle.dcc_ir.specs.Live.{is_among}
use Rattle.dcc_ir.specs.Tree.{Graph}
use Rattle.dcc_ir.specs.WellFormed.{is_location}
use Rattle.dcc_ir.proofs.PathLaws.{decided, or_false}
use Rattle.dcc_ir.proofs.LocationLaws.{location_same}
use Rattle.dcc_flow.specs.Mentions.{graph_mentions}
use Rattle.dcc_variables.specs.Variables.{cells_among, named_locations, stack_locations, cell_halves, all_locations, locations, Shape, shape_of, first_cell, first_stack, variable_number}
use Rattle.dcc_variables.proofs.Lists.{filter-among, among-filter, among-left, among-right, cell-within}

module _ (shape : Shape) where
  abbrev number : Loc → ℕ
  number location = variable_number shape location

  -- the numbers of these locations ascend, from the first number on and below the second
  abbrev pub Ascend : ℕ → ℕ → List Loc → Type 0
  Ascend low high [] = low ≤ high
  Ascend low high (l ∷ ls) = (low ≤ variable_number shape l) × Ascend (suc (variable_number shape l)) high ls

  ascend-ordered : (low high : ℕ) (ls : List Loc) → Ascend low high ls → low ≤ high
  ascend-ordered low high [] is = is
  ascend-ordered low high (l ∷ ls) is = omega (arith, is.0, ascend-ordered (suc (number l)) high ls is.1)

  ascend-lower : (lower low high : ℕ) (ls : List Loc) → lower ≤ low → Ascend low high ls → Ascend lower high ls
  ascend-lower lower low high [] less is = omega (arith, less, is)
  ascend-lower lower low high (l ∷ ls) less is = (omega (arith, less, is.0), is.1)

  ascend-append : (low middle high : ℕ) (xs ys : List Loc) → Ascend low middle xs → Ascend middle high ys → Ascend low high (xs ++ ys)
  ascend-append low middle high [] ys first second = ascend-lower low middle high ys first second
  ascend-append low middle high (x ∷ xs) ys first second = (first.0, ascend-append (suc (number x)) middle high xs ys first.1 second)

  ascend-filter : (P : Loc → Bool) (low high : ℕ) (ls : List Loc) → Ascend low high ls → Ascend low high (filter P ls)
  ascend-filter P low high [] is = is
  ascend-filter P low high (l ∷ ls) is = by (P l) (ascend-filter P (suc (number l)) high ls is.1)
    where
      by : (b : Bool) → Ascend (suc (number l)) high (filter P ls) → Ascend low high (if b then l ∷ filter P ls else filter P ls)
      by true rest = (is.0, rest)
      by false rest = ascend-lower low (suc (number l)) high (filter P ls) (omega (arith, is.0)) rest

  -- Locations of such a list.

  pub number-from : (low high : ℕ) (ls : List Loc) (l : Loc) → Ascend low high ls → is_among ls l ≡ true → low ≤ variable_number shape l
  number-from low high [] l is among = absurd (true≢false (sym among))
  number-from low high (x ∷ ls) l is among = elim (decided (same_location l x)) [
    | inl same ↦ subst (λ y. low ≤ number y) (sym (location_same l x same)) is.0
    | inr other ↦
        let later = number-from (suc (number x)) high ls l is.1 (or_false (same_location l x) (is_among ls l) other among) in
        omega (arith, is.0, later)
  ]

  pub number-below : (low high : ℕ) (ls : List Loc) (l : Loc) → Ascend low high ls → is_among ls l ≡ true → variable_number shape l < high
  number-below low high [] l is among = absurd (true≢false (sym among))
  number-below low high (x ∷ ls) l is among = elim (decided (same_location l x)) [
    | inl same ↦ subst (λ y. number y < high) (sym (location_same l x same)) (omega (arith, ascend-ordered (suc (number x)) high ls is.1))
    | inr other ↦ number-below (suc (number x)) high ls l is.1 (or_false (same_location l x) (is_among ls l) other among)
  ]

  pub number-same : (low high : ℕ) (ls : List Loc) (a b : Loc) → Ascend low high ls → is_among ls a ≡ true → is_among ls b ≡ true
      → variable_number shape a ≡ variable_number shape b → a ≡ b
  number-same low high [] a b is one two e = absurd (true≢false (sym one))
  number-same low high (x ∷ ls) a b is one two e = elim (decided (same_location a x)) [
    | inl same ↦ elim (decided (same_location b x)) [
      | inl also ↦ location_same a x same ∙ sym (location_same b x also)
      | inr other ↦
          let later = number-from (suc (number x)) high ls b is.1 (or_false (same_location b x) (is_among ls b) other two) in
          let here : number a ≡ number x = ap number (location_same a x same) in
          absurd (omega (arith, later, here, e))
    ]
    | inr other ↦
        let rest = or_false (same_location a x) (is_among ls a) other one in
        elim (decided (same_location b x)) [
          | inl also ↦
              let later = number-from (suc (number x)) high ls a is.1 rest in
              let here : number b ≡ number x = ap number (location_same b x also) in
              absurd (omega (arith, later, here, e))
          | inr another ↦ number-same (suc (number x)) high ls a b is.1 rest (or_false (same_location b x) (is_among ls b) another two) e
        ]
  ]

  -- All locations.

  named-ascend : Ascend 1 17 named_locations
  unfolding named_locations
  named-ascend = omega arith

  stack-ascend : Ascend (first_stack shape) (first_stack shape + 4) stack_locations
  unfolding stack_locations
  stack-ascend = omega arith

  temporaries-ascend : (first count low high : ℕ) → low ≤ 18 + first → 18 + (first + count) ≤ high → Ascend low high (map Temp (range_with_len first count))
  temporaries-ascend first zero low high from to = omega (arith, from, to)
  temporaries-ascend first (suc count) low high from to = (from, temporaries-ascend (first + 1) count (suc (18 + first)) high (omega arith) (omega (arith, to)))

  cells-ascend : (first count low high : ℕ) → low ≤ first_cell shape + 2 * first → first_cell shape + 2 * (first + count) ≤ high
      → Ascend low high (flat_map cell_halves (range_with_len first count))
  cells-ascend first zero low high from to = omega (arith, from, to)
  cells-ascend first (suc count) low high from to =
      (omega (arith, from), (omega arith, cells-ascend (first + 1) count _ high (omega arith) (omega (arith, to))))

  pub all-ascend : Ascend 1 (first_stack shape + 4) (all_locations (length shape.bits) shape.cells)
  all-ascend =
      ascend-append 1 17 (first_stack shape + 4) named_locations _ named-ascend
      (ascend-append 17 (first_cell shape) (first_stack shape + 4) (map Temp (range_with_len 0 (length shape.bits))) _
      (temporaries-ascend 0 (length shape.bits) 17 (first_cell shape) (omega arith) (omega arith))
      (ascend-append (first_cell shape) (first_stack shape) (first_stack shape + 4) (flat_map cell_halves (range_with_len 0 shape.cells)) stack_locations
      (cells-ascend 0 shape.cells (first_cell shape) (first_stack shape) (omega arith) (omega arith))
      stack-ascend))

  -- 17 is the number of none
  pub not-frame : (l : Loc) → variable_number shape l ≢ 17
  not-frame (Half Ax Low) e = omega (arith, e)
  not-frame (Half Ax High) e = omega (arith, e)
  not-frame (Half Cx Low) e = omega (arith, e)
  not-frame (Half Cx High) e = omega (arith, e)
  not-frame (Half Dx Low) e = omega (arith, e)
  not-frame (Half Dx High) e = omega (arith, e)
  not-frame (Half Bx Low) e = omega (arith, e)
  not-frame (Half Bx High) e = omega (arith, e)
  not-frame (Half Si Low) e = omega (arith, e)
  not-frame (Half Si High) e = omega (arith, e)
  not-frame (Half Di Low) e = omega (arith, e)
  not-frame (Half Di High) e = omega (arith, e)
  not-frame (Half Sp half) e = omega (arith, e)
  not-frame (Half Bp half) e = omega (arith, e)
  not-frame (Flag Cf) e = omega (arith, e)
  not-frame (Flag Zf) e = omega (arith, e)
  not-frame (Flag Sf) e = omega (arith, e)
  not-frame (Flag Of) e = omega (arith, e)
  not-frame (Cell n half) e = omega (arith, e)
  not-frame (Temp n) e = omega (arith, e)

-- The locations of a graph.

module _ (g : Graph) where
  pub locations-ascend : Ascend (shape_of g) 1 (first_stack (shape_of g) + 4) (locations g)
  locations-ascend = ascend-filter (shape_of g) (is_among (graph_mentions g)) 1 (first_stack (shape_of g) + 4) _ (all-ascend (shape_of g))

  -- each location that the graph mentions has a variable

  half-among : (r : Reg) (half : HalfName) → (is_among named_locations (Half r half) || is_among stack_locations (Half r half)) ≡ true
  unfolding named_locations stack_locations
  half-among Ax Low = refl
  half-among Ax High = refl
  half-among Cx Low = refl
  half-among Cx High = refl
  half-among Dx Low = refl
  half-among Dx High = refl
  half-among Bx Low = refl
  half-among Bx High = refl
  half-among Si Low = refl
  half-among Si High = refl
  half-among Di Low = refl
  half-among Di High = refl
  half-among Sp Low = refl
  half-among Sp High = refl
  half-among Bp Low = refl
  half-among Bp High = refl

  flag-among : (f : FlagName) → is_among named_locations (Flag f) ≡ true
  unfolding named_locations
  flag-among Cf = refl
  flag-among Zf = refl
  flag-among Sf = refl
  flag-among Of = refl

  temporary-among : (n first count : ℕ) → first ≤ n → n < first + count → is_among (map Temp (range_with_len first count)) (Temp n) ≡ true
  temporary-among n first zero low high = absurd (omega (arith, low, high))
  temporary-among n first (suc count) low high = elim (decided (n == first)) [
    | inl same ↦ or_left (n == first) (is_among (map Temp (range_with_len (first + 1) count)) (Temp n)) same
    | inr other ↦
        let apart : n ≡ first → ⊥ = λ e. true≢false (sym (eq-eqb n first e) ∙ other) in
        or_right (n == first) (is_among (map Temp (range_with_len (first + 1) count)) (Temp n))
        (temporary-among n (first + 1) count (omega (arith, low, apart)) (omega (arith, high)))
  ]

  cell-among : (n first count : ℕ) (half : HalfName) → first ≤ n → n < first + count
      → is_among (flat_map cell_halves (range_with_len first count)) (Cell n half) ≡ true
  cell-among n first zero half low high = absurd (omega (arith, low, high))
  cell-among n first (suc count) half low high = elim (decided (n == first)) [
    | inl same ↦ among-left (cell_halves first) (flat_map cell_halves (range_with_len (first + 1) count)) (Cell n half) (here half same)
    | inr other ↦
        let apart : n ≡ first → ⊥ = λ e. true≢false (sym (eq-eqb n first e) ∙ other) in
        among-right (cell_halves first) (flat_map cell_halves (range_with_len (first + 1) count)) (Cell n half)
        (cell-among n (first + 1) count half (omega (arith, low, apart)) (omega (arith, high)))
  ]
    where
      here : (half : HalfName) → (n == first) ≡ true → is_among (cell_halves first) (Cell n half) ≡ true
      here Low same = rw same refl
      here High same = rw same refl

  all-among : (temporaries cells : ℕ) (l : Loc) → ((n : ℕ) → l ≡ Temp n → n < temporaries) → ((n : ℕ) (half : HalfName) → l ≡ Cell n half → n < cells)
      → is_among (all_locations temporaries cells) l ≡ true
  all-among temporaries cells (Half r half) temporary cell = elim (decided (is_among named_locations (Half r half))) [
    | inl named ↦ among-left named_locations _ (Half r half) named
    | inr none ↦
        among-right named_locations _ (Half r half)
        (among-right (map Temp (range_with_len 0 temporaries)) _ (Half r half)
        (among-right (flat_map cell_halves (range_with_len 0 cells)) stack_locations (Half r half)
        (or_false (is_among named_locations (Half r half)) (is_among stack_locations (Half r half)) none (half-among r half))))
  ]
  all-among temporaries cells (Flag f) temporary cell = among-left named_locations _ (Flag f) (flag-among f)
  all-among temporaries cells (Cell n half) temporary cell =
      among-right named_locations _ (Cell n half)
      (among-right (map Temp (range_with_len 0 temporaries)) _ (Cell n half)
      (among-left (flat_map cell_halves (range_with_len 0 cells)) stack_locations (Cell n half)
      (cell-among n 0 cells half (omega arith) (omega (arith, cell n half refl)))))
  all-among temporaries cells (Temp n) temporary cell =
      among-right named_locations _ (Temp n)
      (among-left (map Temp (range_with_len 0 temporaries)) _ (Temp n)
      (temporary-among n 0 temporaries (omega arith) (omega (arith, temporary n refl))))

  pub mentioned-among : (l : Loc) → is_location g.bits l ≡ true → is_among (graph_mentions g) l ≡ true → is_among (locations g) l ≡ true
  mentioned-among l there mentioned =
      among-filter (is_among (graph_mentions g)) _ l mentioned
      (all-among (length g.bits) (cells_among (graph_mentions g)) l
      (λ n e. ltb-true n (length g.bits) (subst (λ x. is_location g.bits x ≡ true) e there))
      (λ n half e. cell-within (graph_mentions g) n half (subst (λ x. is_among (graph_mentions g) x ≡ true) e mentioned)))

  -- what has a variable is a location of the graph

  temporary-below : (n first count : ℕ) → is_among (map Temp (range_with_len first count)) (Temp n) ≡ true → n < first + count
  temporary-below n first zero is = absurd (true≢false (sym is))
  temporary-below n first (suc count) is = elim (decided (n == first)) [
    | inl same ↦ omega (arith, eqb-true n first same)
    | inr other ↦
        let rest = temporary-below n (first + 1) count (or_false (n == first) (is_among (map Temp (range_with_len (first + 1) count)) (Temp n)) other is) in
        omega (arith, rest)
  ]

  no-temporary : (n first count : ℕ) → is_among (flat_map cell_halves (range_with_len first count)) (Temp n) ≡ false
  no-temporary n first zero = refl
  no-temporary n first (suc count) = no-temporary n (first + 1) count

  none-named : (n : ℕ) → is_among named_locations (Temp n) ≡ false
  unfolding named_locations
  none-named n = refl

  none-last : (n : ℕ) → is_among stack_locations (Temp n) ≡ false
  unfolding stack_locations
  none-last n = refl

  temporary-there : (temporaries cells n : ℕ) → is_among (all_locations temporaries cells) (Temp n) ≡ true → n < temporaries
  temporary-there temporaries cells n is =
      let later : is_among (map Temp (range_with_len 0 temporaries) ++ (flat_map cell_halves (range_with_len 0 cells) ++ stack_locations)) (Temp n) ≡ true =
      or_false _ _ (none-named n) (sym (list_any-append (same_location (Temp n)) named_locations _) ∙ is) in
      elim (decided (is_among (map Temp (range_with_len 0 temporaries)) (Temp n))) [
        | inl there ↦ omega (arith, temporary-below n 0 temporaries there)
        | inr away ↦
            let last : is_among (flat_map cell_halves (range_with_len 0 cells) ++ stack_locations) (Temp n) ≡ true =
            or_false _ _ away (sym (list_any-append (same_location (Temp n)) (map Temp (range_with_len 0 temporaries)) _) ∙ later) in
            let end : is_among stack_locations (Temp n) ≡ true =
            or_false _ _ (no-temporary n 0 cells) (sym (list_any-append (same_location (Temp n)) (flat_map cell_halves (range_with_len 0 cells)) stack_locations) ∙ last) in
            absurd (true≢false (sym end ∙ none-last n))
      ]

  pub locations-there : (l : Loc) → is_among (locations g) l ≡ true → is_location g.bits l ≡ true
  locations-there (Half r half) is = refl
  locations-there (Flag f) is = refl
  locations-there (Cell n half) is = refl
  locations-there (Temp n) is =
      lt-ltb n (length g.bits)
      (temporary-there (length g.bits) (cells_among (graph_mentions g)) n (filter-among (is_among (graph_mentions g)) _ (Temp n) is))
