-- From the first argument word in memory on, each one is in memory: the exposed bytes of the arguments reach to their
-- end.
use Rattle.std.proofs.Common.{◌≡◌, ℕ, zero, suc, ◌+◌, ◌*◌, ◌<◌, ◌≤◌, Bool, true, not, ◌||◌, if◌then◌else◌, inl, inr, ◌++◌, map, refl, sym, ap, ◌∙◌, subst, true≢false, arith}
use Rattle.std.specs.Prelude.{ℤ, pos, ◌+ℤ◌, ◌≤ℤ◌}
use Rattle.std.specs.List.{range_with_len, list_all}
use Rattle.std.proofs.lemmas.Int.{ints}
use Rattle.std.proofs.lemmas.List.Folds.{list_all-append}
use Rattle.dcc_num.specs.declared.Width.{Width}
use Rattle.dcc_num.specs.declared.Width.TheVariants.{Word as word_width}
use Rattle.dcc_prog.specs.declared.procedure.Layout.{Layout}
use Rattle.dcc_machine.specs.Access.{bytes_in}
use Rattle.dcc_prog.specs.Frame.{Span, argument_word, IsPiece, IsSlot, IsExposed, below_bp, in_arguments, IsPlaced, by_itself, by_slot}
use Rattle.dcc_prog.proofs.FrameLaws.{arguments-once}
use Rattle.dcc_stack.specs.Accepted.{IsFrameFor}
use Rattle.dcc_stack.specs.Slots.{is_placed}
use Rattle.dcc_stack.proofs.SlotPlaces.{placed-told}
use Rattle.dcc_ir.specs.declared.syntax.Param.{Param}
use Rattle.dcc_ir.specs.Tree.{Address}
use Rattle.dcc_ir.specs.Passing.{passed, param_of}
use Rattle.dcc_ir.specs.WellFormed.{is_memory, memory_params_last}
use Rattle.dcc_ir.proofs.PathLaws.{decided}
use Rattle.dcc_ops.specs.OperandPlace.{OperandPlace, memory}
use Rattle.dcc_simulation.specs.Coupled.{Setting}
use Rattle.dcc_simulation.specs.Places.{IsFramePlace, in_half, in_cell, in_memory}
use Rattle.dcc_simulation.specs.Procedures.{Procedure, cells_of, distance_of, cell_place, frame_place}
use Rattle.dcc_simulation.specs.Passed.{put_of, argument_param, params_of}
use Rattle.dcc_simulation.specs.FoundPlaces.{IsFoundAt}
use Rattle.dcc_simulation.proofs.FoundProcedures.{frame-for}
use Rattle.dcc_simulation.proofs.FoundPlaces.{frame-place}
use Rattle.dcc_lift.proofs.ListTests.{and_both, or_here, or_there}

module _ (e : Setting) (entry : ℕ) (q : Procedure) (at : IsFoundAt e entry q) where
  abbrev layout : Layout
  layout = e.program.layout

  frame : IsFrameFor e.image e.program entry q.frame
  frame = frame-for e at.lifting entry at.is_entry q at.procedure

  abbrev Placed : ℤ → Type 0
  Placed = IsPlaced e.image layout entry

  in-memory : (w : Width) (k : ℤ) (place : OperandPlace) → w ≡ word_width → IsFramePlace e entry k w place
      → is_memory (put_of place) ≡ true
      → Placed k
  in-memory _ k _ same (in_half is) told = cc
  in-memory _ k _ same (in_cell low high) told = absurd (true≢false (sym told))
  in-memory _ k _ same (in_memory placed) told =
      let here : (k +ℤ pos 0) ≡ k = omega (arith, ints) in subst Placed here (placed 0 (some _ same))
    where
      some : (w : Width) → w ≡ word_width → 0 < bytes_in w
      some w same = subst (λ v. 0 < bytes_in v) (sym same) (omega arith)

  -- an argument word whose param is in memory is placed there
  memory-placed : (number : ℕ) → number < q.frame.args → is_memory (argument_param q number).put ≡ true
      → Placed (pos (4 + 2 * number))
  memory-placed number less told =
      in-memory word_width (pos (4 + 2 * number)) (frame_place q word_width (pos (4 + 2 * number))) refl
      (frame-place e entry q at (argument_word number) word_width (pos (4 + 2 * number))
      (IsPiece.argument frame.arguments less) (omega (arith, ints)) (omega (arith, ints)))
      told

  -- a byte from which on the arguments are exposed lies before the next argument
  exposed-after : (o : ℤ) (later : ℕ) → IsExposed e.image layout entry o → pos 0 ≤ℤ o → o ≤ℤ pos (4 + 2 * later)
      → later < q.frame.args
      → IsExposed e.image layout entry (pos (4 + 2 * later))
  exposed-after o later (below_bp has low high) above below less = absurd (omega (arith, ints, high, above))
  exposed-after o later (in_arguments exposed has low high) above below less =
      let same = arguments-once has frame.arguments in
      in_arguments exposed has (omega (arith, ints, low, below)) (omega (arith, ints, same, less))

  slot-small : (slot : Span) → IsSlot e.image layout entry slot → slot.end ≤ℤ (slot.first +ℤ pos 2)
  slot-small _ (IsSlot.cell is) = is.small
  slot-small _ (IsSlot.argument has less) = omega (arith, ints)

  placed-after : (number later : ℕ) → number < later → later < q.frame.args → Placed (pos (4 + 2 * number))
      → IsExposed e.image layout entry (pos (4 + 2 * later))
  placed-after number later before less (by_itself exposed) =
      exposed-after (pos (4 + 2 * number)) later exposed (omega (arith, ints)) (omega (arith, ints, before)) less
  placed-after number later before less (by_slot {slot} is low high) =
      let small = slot-small slot is.is_slot in
      let from = is.from in
      let to = is.to in
      exposed-after is.offset later is.exposed (omega (arith, ints, small, from, high))
      (omega (arith, ints, small, to, low, before)) less

  -- where an argument is in memory, the later ones are in memory too
  memory-after : (number later : ℕ) → number < later → later < q.frame.args
      → is_memory (argument_param q number).put ≡ true → is_memory (argument_param q later).put ≡ true
  memory-after number later before less told =
      let placed : is_placed q.frame (pos (4 + 2 * later)) ≡ true =
      placed-told e.image e.program entry q.frame frame (pos (4 + 2 * later))
      (by_itself (placed-after number later before less
      (memory-placed number (omega (arith, before, less)) told))) in
      ap (λ b. is_memory (put_of (if b then memory word_width (Address (distance_of (pos (4 + 2 * later))))
      else cell_place 0 (cells_of q) word_width (pos (4 + 2 * later))))) placed

  abbrev is_last : Param → Bool
  is_last param = not param.stack || is_memory param.put

  all-after : (number count from : ℕ) → number < from → from + count ≤ q.frame.args
      → is_memory (argument_param q number).put ≡ true
      → list_all is_last (map (argument_param q) (range_with_len from count)) ≡ true
  all-after number zero from before below told = refl
  all-after number (suc count) from before below told =
      and_both (is_last (argument_param q from))
      (list_all is_last (map (argument_param q) (range_with_len (from + 1) count)))
      (memory-after number from before (omega (arith, below)) told)
      (all-after number count (from + 1) (omega (arith, before)) (omega (arith, below)) told)

  memory-last : (count from : ℕ) → from + count ≤ q.frame.args
      → memory_params_last (map (argument_param q) (range_with_len from count) ++ map param_of passed) ≡ true
  memory-last zero from below = refl
  memory-last (suc count) from below =
      let rest = map (argument_param q) (range_with_len (from + 1) count) ++ map param_of passed in
      and_both (not (is_memory (argument_param q from).put) || list_all is_last rest) (memory_params_last rest)
      (elim (decided (is_memory (argument_param q from).put)) [
        | inr none ↦ or_here (not (is_memory (argument_param q from).put)) (list_all is_last rest) (ap not none)
        | inl told ↦
            or_there (not (is_memory (argument_param q from).put)) (list_all is_last rest)
            (list_all-append is_last (map (argument_param q) (range_with_len (from + 1) count)) (map param_of passed)
            ∙ and_both (list_all is_last (map (argument_param q) (range_with_len (from + 1) count))) true
            (all-after from count (from + 1) (omega arith) (omega (arith, below)) told) refl)
      ])
      (memory-last count (from + 1) (omega (arith, below)))

  pub params-last : memory_params_last (params_of q) ≡ true
  params-last = memory-last q.frame.args 0 (omega arith)
