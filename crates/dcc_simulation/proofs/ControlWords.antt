-- A word of a return address or a saved BP: the machine alone stores it.
use Rattle.std.specs.List.{cons_option}
use Rattle.std.proofs.Common.{◌≡◌, ◌≤◌, ◌<◌, ℕ, ◌+◌, ◌*◌, Bool, true, List, [], ◌∷◌, Some, sym, ap₂, arith}
use Rattle.std.specs.Prelude.{slice_set}
use Rattle.dcc_num.specs.declared.Width.TheVariants.{Word as word_width}
use Rattle.dcc_machine.specs.Access.{stored}
use Rattle.dcc_prog.specs.Clean.{with_marks, stack_offset}
use Rattle.dcc_stack.specs.Apart.{IsApart}
use Rattle.dcc_stack.specs.Slots.{Typed}
use Rattle.dcc_stack.specs.SlotLaws.{AreCarried, stores_at, marks_at}
use Rattle.dcc_simulation.specs.Coupled.{Setting}
use Rattle.dcc_simulation.specs.Places.{bytes_from, offsets_of}
use Rattle.dcc_simulation.proofs.Coupling.{carried_laws}
use Rattle.dcc_simulation.proofs.OperandBytes.{stack-offset}

-- the marks after the bytes of the return address or the saved BP are written
abbrev pub control_marks : ℕ → List Bool → List Bool
control_marks first written = slice_set (slice_set written (first + 0) true) (first + 1) true

module _ (e : Setting) (first : ℕ) where
  pub control-stored : (v : ℕ) (newest : Typed) (older : List Typed) {memory other : List ℕ} {written : List Bool}
      {top : ℕ}
      → AreCarried e.cpu e.image e.program memory other written top (newest ∷ older)
      → top ≤ first → first + 1 < e.program.layout.hi
      → ((index : ℕ) → index < 2 → ¬ IsApart e.image e.program.layout (first + index) newest.activation)
      → AreCarried e.cpu e.image e.program
      (stored
      (stores_at (λ n. e.program.layout.ds * 16 + n) (offsets_of word_width (λ index. first + index))
      (bytes_from first v)) memory) other (control_marks first written) top (newest ∷ older)
  control-stored v newest older {written = written} carried low high control =
      carried_laws.writes_control (first + 1) (bytes_from first v (first + 1)) (control_marks first written)
      (carried_laws.writes_control (first + 0) (bytes_from first v (first + 0)) (slice_set written (first + 0) true)
      carried (omega (arith, low)) (omega (arith, high)) (control 0 (omega arith))
      (carried_laws.marks_one (first + 0) written))
      (omega (arith, low)) high (control 1 (omega arith))
      (carried_laws.marks_one (first + 1) (slice_set written (first + 0) true))

  pub control-marked : (written : List Bool) → e.program.layout.lo ≤ first → first + 1 < e.program.layout.hi
      → control_marks first written
      ≡ marks_at e.program.layout (offsets_of word_width (λ index. first + index)) written
  control-marked written low high =
      sym (ap₂ (λ o p. with_marks true (cons_option o (cons_option p [])) written) (at 0 (omega arith))
      (at 1 (omega arith)))
    where
      at : (index : ℕ) → index < 2
          → stack_offset e.program.layout (e.program.layout.ds * 16 + (first + index)) ≡ Some (first + index)
      at index less =
          stack-offset e.program.layout (first + index) (omega (arith, low)) (omega (arith, less, high))
