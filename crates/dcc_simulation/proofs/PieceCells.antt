-- A piece lies in a cell, or its bytes stand in memory, as far as a refutation needs it; and where a byte of it stands
-- in memory, all do.
use Rattle.std.proofs.Common.{◌≡◌, inl, inr, ℕ, ◌+◌, ◌*◌, Bool, true, false, ℤ, pos, ◌+ℤ◌, ◌≤ℤ◌, ◌<ℤ◌, Option, Some, None, refl, subst, arith}
use Rattle.std.specs.Prelude.{neg_ℤ}
use Rattle.std.proofs.lemmas.Int.{ints, by_lt_z}
use Rattle.dcc_machine.specs.declared.cpu.Cpu.{Cpu}
use Rattle.dcc_machine.specs.declared.image.Image.{Image}
use Rattle.dcc_prog.specs.declared.procedure.Layout.{Layout}
use Rattle.dcc_prog.specs.declared.frame.Frame.{Frame}
use Rattle.dcc_prog.specs.declared.frame.Program.{Program}
use Rattle.dcc_prog.specs.Trail.{IsNode, IsEntry}
use Rattle.dcc_prog.specs.FrameForm.{is_framed}
use Rattle.dcc_prog.specs.Frame.{Span, argument_word, IsUsed, IsPiece, used, argument, IsCrossed, IsCell, IsLongExtent, IsExposureStart, by_extent, HasExposedLocal, no_local, local, HasExposedArguments, no_argument, from_argument, below_bp, in_arguments, IsSlot, IsExposedSlot, IsPlaced, by_itself, by_slot, long_without_addresses}
use Rattle.dcc_prog.specs.Construct.{bad_access}
use Rattle.dcc_stack.specs.Accepted.{IsProgramOfFile, IsFrameFor}
use Rattle.dcc_stack.proofs.FormHeights.{no-frames}
use Rattle.dcc_stack.proofs.SlotPlaces.{Has, placed-decided}
use Rattle.dcc_simulation.proofs.PieceExtents.{LiesIn, piece-inside, extents-same, extent-about}
use Rattle.dcc_simulation.proofs.PieceBounds.{LiesInFrame, piece-lies, trail-height}

module _ (cpu : Cpu) (image : Image) (program : Program) (p : IsProgramOfFile cpu image program) (entry : ℕ)
    (is_entry : IsEntry image program.layout entry) (frame : Frame) (f : IsFrameFor image program entry frame) where
  abbrev layout : Layout
  layout = program.layout

  abbrev lies : {piece : Span} → IsPiece image layout entry piece
      → LiesInFrame cpu image program p entry is_entry frame f piece
  lies is = piece-lies cpu image program p entry is_entry frame f is

  -- Long extents.

  module _ (extent : Span) (long : IsLongExtent image layout entry extent) where
    -- a long extent with a piece that is used stands in a framed procedure alone
    framed-by-use : (at : ℕ) (piece : Span) → IsNode image layout entry at → IsUsed image layout entry at piece
        → LiesIn piece extent
        → is_framed image layout entry ≡ true
    framed-by-use at piece node uses inside = by (is_framed image layout entry) refl
      where
        by : (b : Bool) → is_framed image layout entry ≡ b → is_framed image layout entry ≡ true
        by true e = e
        by false e =
            let here = trail-height cpu image program p entry is_entry at node.before node.trail in
            absurd (no-frames cpu image program p entry at node.before (pos here.0) here.1
            (bad_access (long_without_addresses (inr e) uses long inside.0 inside.1)))

    -- a long extent with a piece that crosses the first byte of an argument's word or the one after it stands in a
    -- framed procedure alone
    framed-by-cross : (number : ℕ) (offset : ℤ) → offset ≡ pos (4 + 2 * number) → extent.first ≤ℤ offset
        → offset <ℤ extent.end
        → IsCrossed image layout entry offset
        → is_framed image layout entry ≡ true
    framed-by-cross number offset at from to c = by c.span c.piece c.before c.after
      where
        by : (span : Span) → IsPiece image layout entry span → span.first <ℤ offset → offset <ℤ span.end
            → is_framed image layout entry ≡ true
        by span (used {at = node_at} node uses) before after =
            framed-by-use node_at span node uses
            (piece-inside image layout entry extent span offset long.is_extent (used node uses) (from, to)
            (omega (arith, ints, before), after))
        by _ (argument {number = other} has less) before after = absurd (omega (arith, ints, at, before, after))

    pub long-framed : (piece : Span) → IsPiece image layout entry piece → LiesIn piece extent
        → is_framed image layout entry ≡ true
    long-framed piece (used {at} node uses) inside = framed-by-use at piece node uses inside
    long-framed _ (argument {number = number} has less) inside =
        let long' = long.long in
        by_lt_z extent.first (pos (4 + 2 * number))
        (λ before.
        let to : pos (4 + 2 * number) <ℤ extent.end = omega (arith, ints, inside.1) in
        framed-by-cross number (pos (4 + 2 * number)) refl (omega (arith, ints, before)) to
        (long.is_extent.joined (pos (4 + 2 * number)) before to))
        (λ le.
        let from : extent.first <ℤ pos (4 + 2 * (number + 1)) = omega (arith, ints, inside.0) in
        let to : pos (4 + 2 * (number + 1)) <ℤ extent.end = omega (arith, ints, le, long') in
        framed-by-cross (number + 1) (pos (4 + 2 * (number + 1))) refl (omega (arith, ints, from)) to
        (long.is_extent.joined (pos (4 + 2 * (number + 1))) from to))

    -- from its first byte on bytes are exposed

    starts : IsExposureStart image layout entry extent.first
    starts = by_extent long

    exposed-local : {count : ℕ} → HasExposedLocal image layout entry count → extent.first <ℤ pos 0
        → neg_ℤ (pos count) ≤ℤ extent.first
    exposed-local (no_local none) below =
        let above = none extent.first starts in absurd (omega (arith, ints, above, below))
    exposed-local (local some start least) below = least extent.first starts

    exposed-argument : (arg : Option ℕ) → HasExposedArguments image layout entry arg → pos 4 ≤ℤ extent.first
        → (least : ℕ) × (arg ≡ Some least) × (pos least ≤ℤ extent.first)
    exposed-argument None (no_argument none) above =
        let below = none extent.first starts in absurd (omega (arith, ints, above, below))
    exposed-argument (Some least) (from_argument far start lowest) above = (
      least,
      refl,
      lowest extent.first starts
          above,
    )

    module _ (piece : Span) (is : IsPiece image layout entry piece) (inside : LiesIn piece extent) where
      framed : is_framed image layout entry ≡ true
      framed = long-framed piece is inside

      -- a long extent doesn't begin below the arguments and reach into them
      from-argument : pos 4 ≤ℤ piece.first → pos 4 ≤ℤ extent.first
      from-argument above =
          by_lt_z extent.first (pos 4)
          (λ less.
          let some = (lies is).some in
          let c = long.is_extent.joined (pos 4) less (omega (arith, ints, above, some, inside.1)) in
          let before = c.before in
          let after = c.after in
          elim ((lies c.piece).apart framed) [
            | inl below ↦ absurd (omega (arith, ints, below, after))
            | inr beyond ↦ absurd (omega (arith, ints, beyond, before))
          ]) (λ le. le)

      pub long-placed : (k : ℤ) → Has piece k → IsPlaced image layout entry k
      long-placed k has = elim ((lies is).apart framed) [
        | inl below ↦
            let some = (lies is).some in
            let least = exposed-local f.local (omega (arith, ints, inside.0, some, below)) in
            by_itself
            (below_bp f.local (omega (arith, ints, least, inside.0, has.0)) (omega (arith, ints, below, has.1)))
        | inr above ↦
            let least = exposed-argument frame.exposed.arg f.argument (from-argument above) in
            let high = (lies is).high in
            by_itself (in_arguments (subst (HasExposedArguments image layout entry) least.1 f.argument) f.arguments
            (omega (arith, ints, least.2, inside.0, has.0)) (omega (arith, ints, high, has.1)))
      ]

  -- Cells.

  -- an exposed slot with a byte of a cell exposes the cell
  exposed-cell : (cell slot : Span) (k : ℤ) → IsCell image layout entry cell → Has cell k
      → IsExposedSlot image layout entry slot → Has slot k
      → IsExposedSlot image layout entry cell
  exposed-cell cell slot k is has shown in_slot = by slot shown.is_slot in_slot shown.from shown.to
    where
      by : (span : Span) → IsSlot image layout entry span → Has span k → span.first ≤ℤ shown.offset
          → shown.offset <ℤ span.end
          → IsExposedSlot image layout entry cell
      by span (IsSlot.cell other) in_span from to =
          let same = extents-same image layout entry span cell k other.extent is.extent in_span has in record {
            is_slot = IsSlot.cell is;
            offset = shown.offset;
            from = subst (λ (c : Span). c.first ≤ℤ shown.offset) same from;
            to = subst (λ (c : Span). shown.offset <ℤ c.end) same to;
            exposed = shown.exposed;
          }
      by _ (IsSlot.argument {number = number} arguments less) in_span from to =
          let inside =
          piece-inside image layout entry cell (argument_word number) k is.extent (IsPiece.argument arguments less) has
          in_span in
          record {
            is_slot = IsSlot.cell is;
            offset = shown.offset;
            from = omega (arith, ints, inside.0, from);
            to = omega (arith, ints, inside.1, to);
            exposed = shown.exposed;
          }

  pub placed-cell : (cell : Span) (k : ℤ) → IsCell image layout entry cell → Has cell k → IsPlaced image layout entry k
      → IsExposedSlot image layout entry cell
  placed-cell cell k is has (by_itself exposed) =
      record { is_slot = IsSlot.cell is; offset = k; from = has.0; to = has.1; exposed = exposed }
  placed-cell cell k is has (by_slot {slot} shown low high) = exposed-cell cell slot k is has shown (low, high)

  -- Pieces.

  module _ (piece : Span) (is : IsPiece image layout entry piece) where
    pub piece-covered : ((cell : Span) → IsCell image layout entry cell → LiesIn piece cell → ⊥)
        → (((k : ℤ) → Has piece k → IsPlaced image layout entry k) → ⊥)
        → ⊥
    piece-covered no_cell unplaced =
        extent-about image layout entry (4 + 2 * frame.args) (λ span a. (lies a).low) (λ span a. (lies a).high) piece is
        (lies is).some
        (λ extent r inside.
        by_lt_z (extent.first +ℤ pos 2) extent.end
        (λ more. unplaced (long-placed extent (record { is_extent = r; long = more }) piece is inside))
        (λ small. no_cell extent (record { extent = r; small = small }) inside))

    -- one byte stands in memory where another does
    pub placed-both : (k j : ℤ) → Has piece k → Has piece j → IsPlaced image layout entry k
        → IsPlaced image layout entry j
    placed-both k j at other placed = elim (placed-decided image program entry frame f j) [
      | inl is_placed ↦ is_placed
      | inr not_placed ↦
          absurd (piece-covered
          (λ cell c inside.
          not_placed
          (by_slot
          (placed-cell cell k c
          ((omega (arith, ints, at.0, inside.0)), (omega (arith, ints, at.1, inside.1))) placed)
          (omega (arith, ints, other.0, inside.0)) (omega (arith, ints, other.1, inside.1))))
          (λ all. not_placed (all j other)))
    ]
