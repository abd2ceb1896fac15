-- A byte or a word of a piece has a place: in memory, in a half of a cell, or in a cell.
use Rattle.std.proofs.Common.{◌≡◌, inl, inr, ℕ, zero, suc, ◌+◌, Bool, true, false, true≢false, ◌⊎◌, List, [], ◌∷◌, map, Contains, Some, refl, sym, ap, ◌∙◌, subst, arith}
use Rattle.std.specs.Prelude.{ℤ, pos, ◌+ℤ◌, ◌≤ℤ◌, ◌<ℤ◌, int_le, int_lt, ◌&&◌, if◌then◌else◌, All}
use Rattle.std.specs.List.{list_any}
use Rattle.std.specs.Ordering.{int_eq}
use Rattle.std.proofs.lemmas.Bool.{and_parts, and_from, true_from_ne_false}
use Rattle.std.proofs.lemmas.Bool.Decides.{Decides-int_eq}
use Rattle.std.proofs.lemmas.Int.{ints}
use Rattle.std.proofs.lemmas.List.Elements.{All-head, All-tail, All-contains, All-map}
use Rattle.dcc_num.specs.declared.Width.{Width}
use Rattle.dcc_num.specs.declared.Width.TheVariants.{Byte as byte_width, Word as word_width}
use Rattle.dcc_num.specs.declared.Half.{Half as HalfName}
use Rattle.dcc_num.specs.declared.Half.TheVariants.{Low, High}
use Rattle.dcc_machine.specs.declared.image.Image.{Image}
use Rattle.dcc_prog.specs.declared.procedure.Layout.{Layout}
use Rattle.dcc_prog.specs.declared.frame.Cell.{Cell}
use Rattle.dcc_prog.specs.declared.frame.Frame.{Frame}
use Rattle.dcc_machine.specs.Access.{bytes_in}
use Rattle.dcc_prog.specs.Trail.{IsEntry}
use Rattle.dcc_prog.specs.Frame.{Span, IsPiece, IsCell, IsPlaced, by_slot}
use Rattle.dcc_prog.specs.Analysed.{bytes_of}
use Rattle.dcc_stack.specs.Accepted.{IsProgramOfFile, IsFrameFor}
use Rattle.dcc_stack.specs.Slots.{is_within}
use Rattle.dcc_stack.proofs.FormLaws.{in-form}
use Rattle.dcc_stack.proofs.SlotPlaces.{Has, any-tells, any-told, lt-told, within-tells, placed-decided}
use Rattle.dcc_ir.specs.declared.syntax.Loc.TheVariants.{Cell as CellHalf}
use Rattle.dcc_ops.specs.OperandPlace.{OperandPlace}
use Rattle.dcc_simulation.specs.Coupled.{Setting, AreNumbered, half_in}
use Rattle.dcc_simulation.specs.Places.{IsFramePlace, in_half, in_cell, in_memory}
use Rattle.dcc_simulation.specs.Laws.{PiecesHavePlaces}
use Rattle.dcc_simulation.proofs.PieceExtents.{extents-same}
use Rattle.dcc_simulation.proofs.PieceCells.{piece-covered, placed-both}

-- Lists.

within-told : (k : ℤ) (span : Span) → Has span k → is_within k span ≡ true
within-told k span has =
    and_from (int_le span.first k) (int_lt k span.end) (let low = has.0 in grind (arith, ints, low))
    (lt-told k span.end has.1)

first-or-later : {X : Type 0} (x y : X) (xs : List X) → Contains (x ∷ xs) y → (x ≡ y) ⊎ Contains xs y
first-or-later x y xs (zero, inside, is) = inl is
first-or-later x y xs (suc k, inside, is) = inr (k, omega (arith, inside), is)

none-in : {X : Type 0} (y : X) → ¬ Contains [] y
none-in y (k, inside, is) = omega (arith, inside)

-- the half of a cell that has a byte of it
abbrev half_at : Cell → ℤ → HalfName
half_at cell k = if int_eq k cell.first then Low else High

-- the first cell has the byte, or later ones may
first-cell : (n : ℕ) (cell : Cell) (cells : List Cell) (k : ℤ) (b : Bool) → is_within k (bytes_of cell) ≡ b
    → half_in n (cell ∷ cells) k
    ≡ (if b then Some (CellHalf n (half_at cell k)) else half_in (n + 1) cells k)
first-cell n cell cells k b e = ap (λ c. if c then Some (CellHalf n (half_at cell k)) else half_in (n + 1) cells k) e

-- a byte of one of the cells is in a half of one
half-there : (n : ℕ) (cells : List Cell) (span : Span) (k : ℤ) → Contains (map bytes_of cells) span → Has span k
    → (number : ℕ) × (half : HalfName) × (half_in n cells k ≡ Some (CellHalf number half))
half-there n [] span k among has = absurd (none-in span among)
half-there n (cell ∷ cells) span k among has =
    by (is_within k (bytes_of cell)) refl (λ later. half-there (n + 1) cells span k later has)
  where
    by : (b : Bool) → is_within k (bytes_of cell) ≡ b
        → (Contains (map bytes_of cells) span
        → (number : ℕ) × (half : HalfName) × (half_in (n + 1) cells k ≡ Some (CellHalf number half)))
        → (number : ℕ) × (half : HalfName) × (half_in n (cell ∷ cells) k ≡ Some (CellHalf number half))
    by true e rest = (n, half_at cell k, first-cell n cell cells k true e)
    by false e rest = elim (first-or-later (bytes_of cell) span (map bytes_of cells) among) [
      | inl same ↦
          absurd (true≢false (sym (within-told k (bytes_of cell) (subst (λ s. Has s k) (sym same) has)) ∙ e))
      | inr later ↦
          let there = rest later in (there.0, there.1, first-cell n cell cells k false e ∙ there.2)
    ]

module _ (image : Image) (layout : Layout) (entry : ℕ) where
  abbrev IsCellHere : Cell → Type 0
  IsCellHere cell = IsCell image layout entry (bytes_of cell)

  -- the two halves of one of these cells
  abbrev AreHalves : ℕ → List Cell → ℤ → Type 0
  AreHalves n cells k =
      (number : ℕ) × (half_in n cells k ≡ Some (CellHalf number Low))
      × (half_in n cells (k +ℤ pos 1) ≡ Some (CellHalf number High))

  halves-there : (n : ℕ) (cells : List Cell) (span : Span) (k : ℤ) → All IsCellHere cells
      → Contains (map bytes_of cells) span → IsCell image layout entry span → Has span k → Has span (k +ℤ pos 1)
      → AreHalves n cells k
  halves-there n [] span k all among is has has' = absurd (none-in span among)
  halves-there n (cell ∷ cells) span k all among is has has' =
      by (is_within k (bytes_of cell)) (is_within (k +ℤ pos 1) (bytes_of cell)) refl refl
      (λ later. halves-there (n + 1) cells span k (All-tail IsCellHere cell cells all) later is has has')
    where
      here : IsCellHere cell
      here = All-head IsCellHere cell cells all

      -- the first cell has both bytes, or neither
      same-by : (j : ℤ) → Has span j → is_within j (bytes_of cell) ≡ true → bytes_of cell ≡ span
      same-by j has_j e =
          extents-same image layout entry (bytes_of cell) span j here.extent is.extent (within-tells j (bytes_of cell)
          e) has_j

      within : bytes_of cell ≡ span → (j : ℤ) → Has span j → is_within j (bytes_of cell) ≡ true
      within same j has_j = within-told j (bytes_of cell) (subst (λ s. Has s j) (sym same) has_j)

      low-half : is_within k (bytes_of cell) ≡ true → is_within (k +ℤ pos 1) (bytes_of cell) ≡ true
          → k ≡ cell.first
      low-half e d =
          let low = within-tells k (bytes_of cell) e in
          let high = within-tells (k +ℤ pos 1) (bytes_of cell) d in
          let small = here.small in
          omega (arith, ints, low.0, high.1, small)

      at-first : k ≡ cell.first → half_at cell k ≡ Low
      at-first same = ap (λ b. if b then Low else High) ((Decides-int_eq k cell.first).1 same)

      after-first : k ≡ cell.first → half_at cell (k +ℤ pos 1) ≡ High
      after-first same = by_test (int_eq (k +ℤ pos 1) cell.first) refl
        where
          by_test : (b : Bool) → int_eq (k +ℤ pos 1) cell.first ≡ b → (if b then Low else High) ≡ High
          by_test false e = refl
          by_test true e =
              let clash = (Decides-int_eq (k +ℤ pos 1) cell.first).0 e in absurd (omega (arith, ints, clash, same))

      by : (b d : Bool) → is_within k (bytes_of cell) ≡ b → is_within (k +ℤ pos 1) (bytes_of cell) ≡ d
          → (Contains (map bytes_of cells) span → AreHalves (n + 1) cells k)
          → AreHalves n (cell ∷ cells) k
      by true true e d rest =
          let first = low-half e d in (
            n,
            first-cell n cell cells k true e ∙ ap (λ h. Some (CellHalf n h)) (at-first first),
            first-cell n cell cells (k +ℤ pos 1) true d ∙ ap (λ h. Some (CellHalf n h)) (after-first first),
          )
      by true false e d rest = absurd (true≢false (sym (within (same-by k has e) (k +ℤ pos 1) has') ∙ d))
      by false true e d rest = absurd (true≢false (sym (within (same-by (k +ℤ pos 1) has' d) k has) ∙ e))
      by false false e d rest = elim (first-or-later (bytes_of cell) span (map bytes_of cells) among) [
        | inl same ↦ absurd (true≢false (sym (within same k has) ∙ e))
        | inr later ↦
            let there = rest later in (
              there.0,
              first-cell n cell cells k false e ∙ there.1,
              first-cell n cell cells (k +ℤ pos 1) false d ∙ there.2,
            )
      ]

-- The places.

module _ (e : Setting) (entry : ℕ) (piece : Span) (k : ℤ) (p : IsProgramOfFile e.cpu e.image e.program)
    (numbered : AreNumbered e) (is_entry : IsEntry e.image e.program.layout entry)
    (is : IsPiece e.image e.program.layout entry piece) (at : Has piece k) where
  abbrev Placed : ℤ → Type 0
  Placed = IsPlaced e.image e.program.layout entry

  abbrev cells : List Cell
  cells = e.cells entry

  found : (frame : Frame) × IsFrameFor e.image e.program entry frame
  found = in-form.frames e.cpu e.image e.program entry p is_entry

  both : (j i : ℤ) → Has piece j → Has piece i → Placed j → Placed i
  both = placed-both e.cpu e.image e.program p entry is_entry found.0 found.1 piece is

  -- Where a byte of it stands in no memory, it lies in a cell with a number.

  abbrev has_both : ℤ → Span → Bool
  has_both j span = is_within k span && is_within j span

  in-cells : (j : ℤ) → Has piece j → ¬ Placed k → list_any (has_both j) (map bytes_of cells) ≡ true
  in-cells j other unplaced =
      true_from_ne_false (list_any (has_both j) (map bytes_of cells)) (λ none.
      piece-covered e.cpu e.image e.program p entry is_entry found.0 found.1 piece is
      (λ cell c inside.
      let low : Has cell k = ((omega (arith, ints, at.0, inside.0)), (omega (arith, ints, at.1, inside.1))) in
      let high : Has cell j = ((omega (arith, ints, other.0, inside.0)), (omega (arith, ints, other.1, inside.1))) in
      let among = numbered.every entry cell is_entry c (λ shown. unplaced (by_slot shown low.0 low.1)) in
      true≢false
      (sym (any-told (has_both j) (map bytes_of cells) cell among
      (and_from (is_within k cell) (is_within j cell) (within-told k cell low) (within-told j cell high))) ∙ none))
      (λ all. unplaced (all k at)))

  cell-with : (j : ℤ) → Has piece j → ¬ Placed k
      → (cell : Span) × Contains (map bytes_of cells) cell × Has cell k × Has cell j
  cell-with j other unplaced =
      let one = any-tells (has_both j) (map bytes_of cells) (in-cells j other unplaced) in
      let parts = and_parts (is_within k one.one) (is_within j one.one) one.passes in
      (one.one, one.among, within-tells k one.one parts.0, within-tells j one.one parts.1)

  -- The place.

  abbrev HasPlace : Width → Type 0
  HasPlace w = (place : OperandPlace) × IsFramePlace e entry k w place

  placed-place : (w : Width) → (k +ℤ pos (bytes_in w)) ≤ℤ piece.end → Placed k → HasPlace w
  placed-place w high placed = (
    _,
    in_memory (λ index less. both k (k +ℤ pos index) at
        ((omega (arith, ints, at.0)), (omega (arith, ints, high, less))) placed),
  )

  pair-place : (number : ℕ) → ¬ Placed k → ¬ Placed (k +ℤ pos 1)
      → half_in 0 cells k ≡ Some (CellHalf number Low) → half_in 0 cells (k +ℤ pos 1) ≡ Some (CellHalf number High)
      → HasPlace word_width
  pair-place number low_apart high_apart low high =
      (_, in_cell (record { apart = low_apart; is = low }) (record { apart = high_apart; is = high }))

  cell-place : (w : Width) → (k +ℤ pos (bytes_in w)) ≤ℤ piece.end → ¬ Placed k → HasPlace w
  cell-place byte_width high unplaced =
      let c = cell-with k at unplaced in
      let half = half-there 0 cells c.0 k c.1 c.2 in
      (_, in_half (record { apart = unplaced; is = half.2 }))
  cell-place word_width high unplaced =
      let next : Has piece (k +ℤ pos 1) = ((omega (arith, ints, at.0)), (omega (arith, ints, high))) in
      let c = cell-with (k +ℤ pos 1) next unplaced in
      let all = numbered.cells entry is_entry in
      let is_cell =
      All-contains (IsCell e.image e.program.layout entry) (map bytes_of cells) c.0
      (All-map (IsCell e.image e.program.layout entry) bytes_of cells all) c.1 in
      let halves = halves-there e.image e.program.layout entry 0 cells c.0 k all c.1 is_cell c.2 c.3 in
      pair-place halves.0 unplaced (λ placed. unplaced (both (k +ℤ pos 1) k next at placed)) halves.1 halves.2

  has-place : (w : Width) → (k +ℤ pos (bytes_in w)) ≤ℤ piece.end → HasPlace w
  has-place w high = elim (placed-decided e.image e.program entry found.0 found.1 k) [
    | inl placed ↦ placed-place w high placed
    | inr unplaced ↦ cell-place w high unplaced
  ]

some-end : (w : Width) (k end : ℤ) → (k +ℤ pos (bytes_in w)) ≤ℤ end → k <ℤ end
some-end byte_width k end high = omega (arith, ints, high)
some-end word_width k end high = omega (arith, ints, high)

pub pieces-have-places : PiecesHavePlaces
pieces-have-places e entry piece w k p numbered is_entry is low high =
    has-place e entry piece k p numbered is_entry is (low, some-end w k piece.end high) w high
