-- The places that are named for a procedure that is found are places of its frame in both runs.
use Rattle.std.specs.Prelude.{◌≡◌, ℕ, ℤ, pos, ◌+ℤ◌, ◌-ℤ◌, ◌≤ℤ◌, neg_ℤ, false, List, Some}
use Rattle.dcc_num.specs.declared.Width.{Width}
use Rattle.dcc_num.specs.declared.Width.TheVariants.{Word as word_width}
use Rattle.dcc_machine.specs.declared.instr.Operand.{Operand}
use Rattle.dcc_machine.specs.declared.instr.Op.TheVariants.{Push, Pop}
use Rattle.dcc_prog.specs.Trail.{StandsAt, IsEntry}
use Rattle.dcc_machine.specs.SpAndBp.{is_sp_or_bp}
use Rattle.dcc_machine.specs.Access.{bytes_in}
use Rattle.dcc_prog.specs.Frame.{Span, IsPiece}
use Rattle.dcc_stack.specs.Accepted.{IsAt}
use Rattle.dcc_simulation.specs.Coupled.{Setting, AreNumbered}
use Rattle.dcc_simulation.specs.Places.{IsFramePlace}
use Rattle.dcc_simulation.specs.Procedures.{Procedure, procedure_at, cells_of, frame_place}
use Rattle.dcc_simulation.specs.Statements.{top_place, place_below_top}
use Rattle.dcc_simulation.specs.Nodes.{procedures_in, IsLifting}

-- the procedure with that entry is found, and reached
pub record IsFoundAt (e : Setting) (entry : ℕ) (p : Procedure) : Type 0 where
  pub lifting : IsLifting e
  pub is_entry : IsEntry e.image e.program.layout entry
  pub procedure : procedure_at (procedures_in e.program) entry ≡ Some p

pub record FoundPlacesStand : Type 0 where
  -- the cells are those of the procedures, in the order of their numbers
  pub cells : (e : Setting) (entry : ℕ) (p : Procedure) → IsFoundAt e entry p → e.cells entry ≡ cells_of p
  pub numbered : (e : Setting) → IsLifting e → AreNumbered e
  -- bytes that belong together stand at the place that the frame tells
  pub frame :
      (e : Setting) (entry : ℕ) (p : Procedure) (piece : Span) (w : Width) (k : ℤ) → IsFoundAt e entry p
      → IsPiece e.image e.program.layout entry piece → piece.first ≤ℤ k → (k +ℤ pos (bytes_in w)) ≤ℤ piece.end
      → IsFramePlace e entry k w (frame_place p w k)
  -- the words that are pushed and popped stand at the places that the frame tells
  pub pushed :
      (e : Setting) (entry at height : ℕ) (p : Procedure) (x : Operand) (before : List ℕ) → IsFoundAt e entry p
      → IsAt e.image e.program.layout entry at before (pos height)
      → StandsAt e.image e.program.layout at (Push x) → is_sp_or_bp x ≡ false
      → IsFramePlace e entry (neg_ℤ (pos height)) word_width (place_below_top p height)
  pub popped :
      (e : Setting) (entry at height : ℕ) (p : Procedure) (x : Operand) (before : List ℕ) → IsFoundAt e entry p
      → IsAt e.image e.program.layout entry at before (pos height)
      → StandsAt e.image e.program.layout at (Pop x) → is_sp_or_bp x ≡ false
      → IsFramePlace e entry (pos 2 -ℤ pos height) word_width (top_place p height)
