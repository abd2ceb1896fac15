-- The places that are named for a procedure that is found.
use Rattle.std.proofs.Common.{◌≡◌, ◌<◌, ℕ, suc, ◌+◌, Bool, true, false, true≢false, List, [], ◌∷◌, Some, sym, ap, ◌∙◌, subst, arith}
use Rattle.std.specs.Prelude.{ℤ, pos, ◌+ℤ◌, ◌-ℤ◌, ◌≤ℤ◌, neg_ℤ, if◌then◌else◌}
use Rattle.std.specs.Ordering.{int_eq}
use Rattle.std.proofs.lemmas.Bool.{false_from_ne_true}
use Rattle.std.proofs.lemmas.Int.{ints}
use Rattle.dcc_num.specs.declared.Width.{Width}
use Rattle.dcc_num.specs.declared.Width.TheVariants.{Byte as byte_width, Word as word_width}
use Rattle.dcc_num.specs.declared.Half.{Half as HalfName}
use Rattle.dcc_num.specs.declared.Half.TheVariants.{Low, High}
use Rattle.dcc_prog.specs.declared.frame.Cell.{Cell}
use Rattle.dcc_machine.specs.declared.instr.Operand.{Operand}
use Rattle.dcc_machine.specs.declared.instr.Op.TheVariants.{Push, Pop}
use Rattle.dcc_prog.specs.Trail.{StandsAt, IsNode}
use Rattle.dcc_machine.specs.SpAndBp.{is_sp_or_bp}
use Rattle.dcc_machine.specs.Access.{bytes_in}
use Rattle.dcc_prog.specs.Height.{HasHeight}
use Rattle.dcc_prog.specs.Frame.{Span, IsPiece, used, IsUsed, pushed, popped, top_of, below_top, IsPlaced, is_saved_bp}
use Rattle.dcc_prog.specs.Analysed.{bytes_of}
use Rattle.dcc_stack.specs.Accepted.{IsAt, IsFrameFor}
use Rattle.dcc_stack.specs.Slots.{is_within, is_placed}
use Rattle.dcc_stack.proofs.FormHeights.{node-of, has-height}
use Rattle.dcc_stack.proofs.SlotPlaces.{placed-tells, placed-told}
use Rattle.dcc_ir.specs.declared.syntax.Loc.TheVariants.{Cell as CellHalf}
use Rattle.dcc_ir.specs.Tree.{Address}
use Rattle.dcc_ops.specs.OperandPlace.{OperandPlace, byte, word, memory}
use Rattle.dcc_simulation.specs.Coupled.{Setting, half_in}
use Rattle.dcc_simulation.specs.Places.{IsFramePlace, in_half, in_cell, in_memory, IsInLocation}
use Rattle.dcc_simulation.specs.Procedures.{Procedure, cells_of, distance_of, cell_place, frame_place}
use Rattle.dcc_simulation.specs.Statements.{top_place, place_below_top}
use Rattle.dcc_simulation.specs.FoundPlaces.{IsFoundAt, FoundPlacesStand}
use Rattle.dcc_simulation.proofs.FoundProcedures.{cells-are, frame-for, numbered}
use Rattle.dcc_simulation.proofs.PiecePlaces.{pieces-have-places}

-- Cells.

-- a byte's half and the place of a word are those of one cell
abbrev half_at : Cell → ℤ → HalfName
half_at cell k = if int_eq k cell.first then Low else High

one-more : (n : ℕ) → n + 1 ≡ suc n
one-more n = omega arith

byte-there : (n : ℕ) (cells : List Cell) (k : ℤ) (number : ℕ) (half : HalfName)
    → half_in n cells k ≡ Some (CellHalf number half)
    → cell_place n cells byte_width k ≡ byte (CellHalf number half)
byte-there n [] k number half e = cc
byte-there n (cell ∷ cells) k number half e =
    by (is_within k (bytes_of cell)) (half_at cell k) e
    (λ later.
    subst (λ m. cell_place m cells byte_width k ≡ byte (CellHalf number half)) (one-more n)
    (byte-there (n + 1) cells k number half later))
  where
    by : (b : Bool) (h : HalfName)
        → (if b then Some (CellHalf n h) else half_in (n + 1) cells k) ≡ Some (CellHalf number half)
        → (half_in (n + 1) cells k ≡ Some (CellHalf number half)
        → cell_place (suc n) cells byte_width k ≡ byte (CellHalf number half))
        → (if b then byte (CellHalf n h) else cell_place (suc n) cells byte_width k) ≡ byte (CellHalf number half)
    by true h is rest = let same : CellHalf n h ≡ CellHalf number half = cc in ap byte same
    by false h is rest = rest is

word-there : (n : ℕ) (cells : List Cell) (k : ℤ) (number : ℕ) (half : HalfName)
    → half_in n cells k ≡ Some (CellHalf number half)
    → cell_place n cells word_width k ≡ word (CellHalf number Low) (CellHalf number High)
word-there n [] k number half e = cc
word-there n (cell ∷ cells) k number half e =
    by (is_within k (bytes_of cell)) (half_at cell k) e
    (λ later.
    subst (λ m. cell_place m cells word_width k ≡ word (CellHalf number Low) (CellHalf number High)) (one-more n)
    (word-there (n + 1) cells k number half later))
  where
    by : (b : Bool) (h : HalfName)
        → (if b then Some (CellHalf n h) else half_in (n + 1) cells k) ≡ Some (CellHalf number half)
        → (half_in (n + 1) cells k ≡ Some (CellHalf number half)
        → cell_place (suc n) cells word_width k ≡ word (CellHalf number Low) (CellHalf number High))
        → (if b then word (CellHalf n Low) (CellHalf n High) else cell_place (suc n) cells word_width k)
        ≡ word (CellHalf number Low) (CellHalf number High)
    by true h is rest =
        let same : n ≡ number = cc in ap (λ m. word (CellHalf m Low) (CellHalf m High)) same
    by false h is rest = rest is

-- The frame.

module _ (e : Setting) (entry : ℕ) (p : Procedure) (at : IsFoundAt e entry p) where
  abbrev Placed : ℤ → Type 0
  Placed = IsPlaced e.image e.program.layout entry

  frame : IsFrameFor e.image e.program entry p.frame
  frame = frame-for e at.lifting entry at.is_entry p at.procedure

  cells : e.cells entry ≡ cells_of p
  cells = cells-are e at.lifting entry p at.procedure

  in-cells : (k : ℤ) (number : ℕ) (half : HalfName) → IsInLocation e entry k (CellHalf number half)
      → half_in 0 (cells_of p) k ≡ Some (CellHalf number half)
  in-cells k number half is = subst (λ l. half_in 0 l k ≡ Some (CellHalf number half)) cells is.is

  -- the place that is named, where it is told whether the byte stands in memory
  abbrev named : Width → ℤ → Bool → OperandPlace
  named w k b = if b then memory w (Address (distance_of k)) else cell_place 0 (cells_of p) w k

  apart : (w : Width) (k : ℤ) → ¬ Placed k → frame_place p w k ≡ cell_place 0 (cells_of p) w k
  apart w k unplaced =
      ap (named w k)
      (false_from_ne_true (is_placed p.frame k)
      (λ so. unplaced (placed-tells e.image e.program entry p.frame frame k so)))

  one-place : (w : Width) (k : ℤ) (place : OperandPlace) → IsFramePlace e entry k w place → place ≡ frame_place p w k
  one-place _ k _ (in_half {number = number} {half = half} is) =
      sym (apart byte_width k is.apart ∙ byte-there 0 (cells_of p) k number half (in-cells k number half is))
  one-place _ k _ (in_cell {number = number} low high) =
      sym (apart word_width k low.apart ∙ word-there 0 (cells_of p) k number Low (in-cells k number Low low))
  one-place w k _ (in_memory placed) =
      let here : (k +ℤ pos 0) ≡ k = omega (arith, ints) in
      sym (ap (named w k)
      (placed-told e.image e.program entry p.frame frame k (subst Placed here (placed 0 (some w)))))
    where
      some : (v : Width) → 0 < bytes_in v
      some byte_width = omega arith
      some word_width = omega arith

  pub frame-place : (piece : Span) (w : Width) (k : ℤ) → IsPiece e.image e.program.layout entry piece
      → piece.first ≤ℤ k → (k +ℤ pos (bytes_in w)) ≤ℤ piece.end
      → IsFramePlace e entry k w (frame_place p w k)
  frame-place piece w k is low high =
      let there =
      pieces-have-places e entry piece w k at.lifting.of_file (numbered e at.lifting) at.is_entry is low high in
      subst (IsFramePlace e entry k w) (one-place w k there.0 there.1) there.1

  -- Pushes and pops.

  not-saved : (x : Operand) → is_sp_or_bp x ≡ false → ¬ is_saved_bp e.image e.program.layout entry x
  not-saved x other saved = true≢false (sym (ap is_sp_or_bp saved.1) ∙ other)

  module _ (here height : ℕ) (before : List ℕ) (is : IsAt e.image e.program.layout entry here before (pos height))
      (x : Operand) (other : is_sp_or_bp x ≡ false) where
    abbrev node : IsNode e.image e.program.layout entry here
    node = node-of e.cpu e.image e.program at.lifting.of_file entry here before (pos height) is

    abbrev has : HasHeight e.image e.program.layout entry here (pos height)
    has = has-height e.cpu e.image e.program at.lifting.of_file entry here before (pos height) is

    pub pushed-place : StandsAt e.image e.program.layout here (Push x)
        → IsFramePlace e entry (neg_ℤ (pos height)) word_width (place_below_top p height)
    pushed-place stands =
        frame-place (below_top (pos height)) word_width (neg_ℤ (pos height))
        (used node (IsUsed.moved (pushed stands (not-saved x other) has))) (omega (arith, ints)) (omega (arith, ints))

    pub popped-place : StandsAt e.image e.program.layout here (Pop x)
        → IsFramePlace e entry (pos 2 -ℤ pos height) word_width (top_place p height)
    popped-place stands =
        frame-place (top_of (pos height)) word_width (pos 2 -ℤ pos height)
        (used node (IsUsed.moved (popped stands (not-saved x other) has))) (omega (arith, ints)) (omega (arith, ints))

pub found-places : FoundPlacesStand
found-places = record {
  cells = λ e entry p at. cells-are e at.lifting entry p at.procedure;
  numbered = numbered;
  frame = λ e entry p piece w k at is low high. frame-place e entry p at piece w k is low high;
  pushed = λ e entry at height p x before found is stands other.
      pushed-place e entry p found at height before is x other stands;
  popped = λ e entry at height p x before found is stands other.
      popped-place e entry p found at height before is x other stands;
}
