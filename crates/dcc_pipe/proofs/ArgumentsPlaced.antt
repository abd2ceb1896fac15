-- An argument word is in memory just where its frame exposes a byte of it.
use Rattle.std.proofs.Common.{◌≡◌, ℕ, ◌+◌, ◌*◌, ◌<◌, Bool, true, false, inl, inr, refl, sym, ap, ◌∙◌, subst, true≢false, arith}
use Rattle.std.specs.Prelude.{ℤ, pos, ◌+ℤ◌, ◌≤ℤ◌, ◌<ℤ◌, if◌then◌else◌}
use Rattle.std.proofs.lemmas.Int.{ints, by_lt_z}
use Rattle.dcc_num.specs.declared.Width.{Width}
use Rattle.dcc_num.specs.declared.Width.TheVariants.{Word as word_width}
use Rattle.dcc_machine.specs.Access.{bytes_in}
use Rattle.dcc_prog.specs.declared.procedure.Layout.{Layout}
use Rattle.dcc_prog.specs.Frame.{Span, argument_word, IsPiece, IsSlot, IsCell, IsExposedSlot, IsPlaced, by_itself, by_slot}
use Rattle.dcc_stack.specs.Accepted.{IsFrameFor}
use Rattle.dcc_stack.specs.Slots.{exposes_of, is_placed}
use Rattle.dcc_stack.proofs.SlotPlaces.{exposed-slot-tells, exposed-slot-told, placed-tells, placed-told}
use Rattle.dcc_ir.specs.Tree.{Address}
use Rattle.dcc_ir.specs.WellFormed.{is_memory}
use Rattle.dcc_ir.proofs.PathLaws.{decided}
use Rattle.dcc_ops.specs.OperandPlace.{OperandPlace, memory}
use Rattle.dcc_simulation.specs.Coupled.{Setting}
use Rattle.dcc_simulation.specs.FoundPlaces.{IsFoundAt}
use Rattle.dcc_simulation.specs.Places.{IsFramePlace, in_half, in_cell, in_memory}
use Rattle.dcc_simulation.specs.Passed.{put_of, argument_param}
use Rattle.dcc_simulation.specs.Procedures.{Procedure, cells_of, cell_place, distance_of}
use Rattle.dcc_simulation.proofs.FoundPlaces.{frame-place}
use Rattle.dcc_simulation.proofs.FoundProcedures.{frame-for}

module _ (e : Setting) (entry : ℕ) (q : Procedure) (at : IsFoundAt e entry q) (number : ℕ) (less : number < q.frame.args) where
  abbrev layout : Layout
  layout = e.program.layout

  frame : IsFrameFor e.image e.program entry q.frame
  frame = frame-for e at.lifting entry at.is_entry q at.procedure

  -- the offset of the argument's first byte, from the base less 4
  abbrev first : ℤ
  first = pos (4 + 2 * number)

  word-slot : IsSlot e.image layout entry (argument_word number)
  word-slot = IsSlot.argument frame.arguments less

  -- a word at a place that is no location has its first byte in memory
  word-placed : (w : Width) (place : OperandPlace) → IsFramePlace e entry first w place → w ≡ word_width
      → is_memory (put_of place) ≡ true → IsPlaced e.image layout entry first
  word-placed _ _ (in_half is) same told = cc
  word-placed _ _ (in_cell low high) same told = absurd (true≢false (sym told))
  word-placed _ _ (in_memory placed) same told =
      let here : (first +ℤ pos 0) ≡ first = omega (arith, ints) in
      subst (IsPlaced e.image layout entry) here
      (placed 0 (subst (λ v. 0 < bytes_in v) (sym same) (omega arith)))

  told-placed : is_memory (argument_param q number).put ≡ true → IsPlaced e.image layout entry first
  told-placed told =
      word-placed word_width _
      (frame-place e entry q at (argument_word number) word_width first (IsPiece.argument frame.arguments less)
      (omega (arith, ints)) (omega (arith, ints))) refl told

  -- a cell that has the first byte of the word is the word, or the first byte alone
  cell-begins : (span : Span) → IsCell e.image layout entry span → span.first ≤ℤ first → first <ℤ span.end
      → first ≤ℤ span.first
  cell-begins span is low high =
      by_lt_z span.first first
      (λ before. absurd (is.extent.apart_after (record {
        span = argument_word number;
        piece = IsPiece.argument frame.arguments less;
        before = high;
        after = omega (arith, ints, before, is.small);
      })))
      (λ le. le)

  slot-begins : (span : Span) → IsSlot e.image layout entry span → span.first ≤ℤ first → first <ℤ span.end
      → first ≤ℤ span.first
  slot-begins span (IsSlot.cell is) low high = cell-begins span is low high
  slot-begins _ (IsSlot.argument _ _) low high = omega (arith, ints, low, high)

  slot-ends : (span : Span) → IsSlot e.image layout entry span → span.end ≤ℤ (span.first +ℤ pos 2)
  slot-ends span (IsSlot.cell is) = is.small
  slot-ends _ (IsSlot.argument _ _) = omega (arith, ints)

  placed-exposed : IsPlaced e.image layout entry first → IsExposedSlot e.image layout entry (argument_word number)
  placed-exposed (by_itself exposed) = record {
    is_slot = word-slot;
    offset = first;
    from = omega (arith, ints);
    to = omega (arith, ints);
    exposed = exposed;
  }
  placed-exposed (by_slot {slot} is low high) =
      let begins = slot-begins slot is.is_slot low high in
      let ends = slot-ends slot is.is_slot in record {
        is_slot = word-slot;
        offset = is.offset;
        from = omega (arith, ints, begins, is.from);
        to = omega (arith, ints, low, ends, is.to);
        exposed = is.exposed;
      }

  exposed-placed : exposes_of q.frame (argument_word number) ≡ true → is_placed q.frame first ≡ true
  exposed-placed exposes =
      placed-told e.image e.program entry q.frame frame first
      (by_slot (exposed-slot-tells e.image e.program entry q.frame frame (argument_word number) word-slot exposes)
      (omega (arith, ints)) (omega (arith, ints)))

  pub memory-exposed : is_memory (argument_param q number).put ≡ exposes_of q.frame (argument_word number)
  memory-exposed = by (is_placed q.frame first) refl
    where
      put : Bool → Bool
      put b =
          is_memory (put_of (if b then memory word_width (Address (distance_of first))
          else cell_place 0 (cells_of q) word_width first))

      never : is_placed q.frame first ≡ false → (b : Bool) → (b ≡ true → is_placed q.frame first ≡ true) → b ≡ false
      never none b placed = elim (decided b) [
        | inl is ↦ absurd (true≢false (sym (placed is) ∙ none))
        | inr other ↦ other
      ]

      by : (b : Bool) → is_placed q.frame first ≡ b → put b ≡ exposes_of q.frame (argument_word number)
      by true is =
          sym (exposed-slot-told e.image e.program entry q.frame frame (argument_word number)
          (placed-exposed (placed-tells e.image e.program entry q.frame frame first is)))
      by false none =
          ap put (sym none)
          ∙ never none (is_memory (argument_param q number).put)
          (λ told. placed-told e.image e.program entry q.frame frame first (told-placed told))
          ∙ sym (never none (exposes_of q.frame (argument_word number)) exposed-placed)
