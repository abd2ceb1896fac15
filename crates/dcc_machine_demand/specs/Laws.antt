-- Laws of what the instructions of a procedure do to halves and flags, of what they make them, and of what procedures
-- preserve.
use Rattle.std.specs.Prelude.{◌≡◌, ℕ, true, false, List}
use Rattle.dcc_num.specs.declared.Reg.{Reg}
use Rattle.dcc_num.specs.declared.Half.{Half}
use Rattle.dcc_num.specs.declared.FlagName.{FlagName}
use Rattle.dcc_machine.specs.declared.cpu.Cpu.{Cpu}
use Rattle.dcc_machine.specs.declared.instr.Op.TheVariants.{Int21}
use Rattle.dcc_machine.specs.Machine.{State, is_general}
use Rattle.dcc_machine.specs.Step.{op_step}
use Rattle.dcc_machine.specs.WellFormed.{IsOperation}
use Rattle.dcc_machine.specs.StateForm.{IsState}
use Rattle.dcc_machine.specs.LocationLaws.{half_in, flag_in}
use Rattle.dcc_machine.specs.AlikeLaws.{AgreeIn, AgreeBeside, IsCallNumber, divides_by}
use Rattle.dcc_machine.specs.Wanted.{Location, half_of, flag_of}
use Rattle.dcc_run.specs.End.{is_over}
use Rattle.dcc_demand.specs.Procedures.{Leaves}
use Rattle.dcc_demand.specs.Trail.{IsTrail}
use Rattle.dcc_demand.specs.Changes.{Changes, IsPreserved}
use Rattle.dcc_demand.specs.Holds.{Holds}
use Rattle.dcc_machine_demand.specs.Bodies.{Body, Point, op_of}
use Rattle.dcc_machine_demand.specs.Holders.{Holder, held, passes}
use Rattle.dcc_machine_demand.specs.Instance.{effect_at, action_of, procedures_of}

-- The step of an instruction leaves each half and each flag as it was that the instruction is told to leave; the step
-- of a CALL is that of the CALL alone, not of its procedure. Which calls of INT 21h write AL rests on the call's
-- number, so INT 21h is left out of the law of halves.
pub record WhatIsLeftStays : Type 0 where
  pub half :
      (bodies : List Body) (body : Body) (point : Point) (cpu : Cpu) (at : ℕ) (s : State) (r : Reg) (half : Half)
      → ¬ (op_of point ≡ Int21) → IsOperation (op_of point) → IsState s → is_general r ≡ true
      → effect_at bodies body point (held (half_of r half)) ≡ Leaves
      → half_in (op_step cpu (op_of point) at s) r half ≡ half_in s r half
  pub flag :
      (bodies : List Body) (body : Body) (point : Point) (cpu : Cpu) (at : ℕ) (s : State) (flag : FlagName)
      → IsOperation (op_of point) → effect_at bodies body point (held (flag_of flag)) ≡ Leaves
      → flag_in (op_step cpu (op_of point) at s).flags flag ≡ flag_in s.flags flag

-- Two states agree in all halves and flags of which an instruction makes the location, in the location itself where it
-- isn't surely written, and where the instruction divides in all that it divides.
pub record AreAlikeBefore (bodies : List Body) (body : Body) (point : Point) (s t : State) (to : Location)
    : Type 0 where
  pub made :
      (from : Location) → (action_of bodies body point).made_of (held to) (held from) ≡ true → AgreeIn from s t
  pub still : (action_of bodies body point).surely (held to) ≡ false → AgreeIn to s t
  pub divided : (from : Location) → divides_by (op_of point) from ≡ true → AgreeIn from s t

-- Two states that are alike before an instruction for a location that passes, and have the same memory, SP and BP,
-- agree in the location after the step, where the run goes on.
abbrev pub WhatInstructionsMakeAlikeIsAlike : Type 0
WhatInstructionsMakeAlikeIsAlike =
    (bodies : List Body) (body : Body) (point : Point) (cpu : Cpu) (at : ℕ) (s t : State) (to : Location)
    → IsOperation (op_of point) → IsState s → IsState t → AgreeBeside s t
    → IsCallNumber (op_of point) point.node.number s → IsCallNumber (op_of point) point.node.number t
    → passes (held to) ≡ true → AreAlikeBefore bodies body point s t to
    → is_over (op_step cpu (op_of point) at s).end ≡ false
    → AgreeIn to (op_step cpu (op_of point) at s) (op_step cpu (op_of point) at t)

-- At each return of a procedure a place that it preserves holds what it held at the entry.
abbrev pub WhatIsPreservedIsHeld : Type 0
WhatIsPreservedIsHeld =
    (bodies : List Body) (entry : ℕ) (place : Holder) (passed : List ℕ) (at : ℕ)
    → IsTrail ((procedures_of bodies).procedure entry) passed at
    → ((procedures_of bodies).procedure entry).returns at ≡ true → IsPreserved (procedures_of bodies) entry place
    → Holds (Changes (procedures_of bodies)) ((procedures_of bodies).procedure entry) place passed place
