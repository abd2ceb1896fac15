-- Laws of runs along a trail: what the trail tells of AH, and of the upper half of what a division divides, is so.
use Rattle.std.specs.Prelude.{◌≡◌, ℕ, List, [], ◌∷◌, false, Some}
use Rattle.dcc_run.specs.End.{is_over}
use Rattle.dcc_num.specs.declared.Width.{Width}
use Rattle.dcc_num.specs.declared.Reg.TheVariants.{Ax}
use Rattle.dcc_num.specs.declared.Half.TheVariants.{High}
use Rattle.dcc_num.specs.Product.{extension_of}
use Rattle.dcc_machine.specs.declared.image.Image.{Image}
use Rattle.dcc_prog.specs.declared.procedure.Layout.{Layout}
use Rattle.dcc_machine.specs.declared.instr.Unary.{Unary}
use Rattle.dcc_machine.specs.declared.instr.Unary.TheVariants.{Div, Idiv}
use Rattle.dcc_machine.specs.declared.instr.Op.TheVariants.{Call}
use Rattle.dcc_machine.specs.declared.instr.Instr.{Instr}
use Rattle.dcc_machine.specs.MzImage.{IsImageOf}
use Rattle.dcc_machine.specs.Machine.{State}
use Rattle.dcc_machine.specs.Operations.{accumulator_in, upper_in}
use Rattle.dcc_machine.specs.Step.{step}
use Rattle.dcc_machine.specs.Code.{HoldsCode}
use Rattle.dcc_prog.specs.Trail.{instruction_in, StandsAt, known_ah, IsTrail}
use Rattle.dcc_prog.specs.Prepared.{IsPrepared}
use Rattle.dcc_machine.specs.StateForm.{IsState}
use Rattle.dcc_machine.specs.LocationLaws.{half_in}

-- A run has passed these offsets one after another, the newest first, and stands in this state: at each of them it made
-- the step of the instruction there, with the code in memory; but after a CALL it goes on in any state, as the
-- procedure that was called may leave it.
pub data HasPassed (image : Image) (layout : Layout) : List ℕ → State → Type 0 where
  begun : (s : State) → IsState s → HasPassed image layout [] s
  stepped :
      {at : ℕ} {before : List ℕ} {s : State} {instr : Instr}
      → HasPassed image layout before s
      → s.ip ≡ at
      → is_over s.end ≡ false
      → HoldsCode image layout.code_end s
      → instruction_in image layout at ≡ Some instr
      → HasPassed image layout (at ∷ before) (step layout.cpu s)
  returned :
      {at target : ℕ} {before : List ℕ} {s : State}
      → HasPassed image layout before s
      → StandsAt image layout at (Call target)
      → (t : State)
      → IsState t
      → HasPassed image layout (at ∷ before) t

-- AH holds what the trail tells of it
abbrev pub KnownAhIsHeld : Type 0
KnownAhIsHeld =
    (file : List ℕ) (image : Image) (layout : Layout) (before : List ℕ) (s : State) (number : ℕ)
    → IsImageOf file image → HasPassed image layout before s → known_ah image layout before ≡ Some number
    → half_in s Ax High ≡ number

-- the upper half of what is divided is 0, or repeats the sign of the lower one
abbrev pub HasUpper : Unary → Width → State → Type 0
HasUpper Div width s = upper_in width s ≡ 0
HasUpper Idiv width s = upper_in width s ≡ extension_of width (accumulator_in width s)
HasUpper operation width s = Unit {0}

-- before each division for which it is prepared the upper half is 0, or repeats the sign of the lower one
abbrev pub PreparedUpperIsHeld : Type 0
PreparedUpperIsHeld =
    (file : List ℕ) (image : Image) (layout : Layout) (entry at : ℕ) (before : List ℕ) (s : State) (division : Unary)
    (width : Width) → IsImageOf file image → IsTrail image layout entry (at ∷ before) → HasPassed image layout before s
    → IsPrepared image layout entry division width at → HasUpper division width s
