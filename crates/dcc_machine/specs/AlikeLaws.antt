-- Laws on two states: what a step makes of the locations in which they agree, and where it shows the others.
use Rattle.std.specs.Prelude.{◌≡◌, ℕ, ◌+◌, ◌%◌, Bool, true, false, not, ◌&&◌, slice_index, Option, Some}
use Rattle.dcc_run.specs.End.{is_over}
use Rattle.dcc_num.specs.declared.Reg.TheVariants.{Ax, Sp, Bp}
use Rattle.dcc_num.specs.declared.Half.{Half}
use Rattle.dcc_num.specs.declared.Half.TheVariants.{Low, High}
use Rattle.dcc_machine.specs.declared.cpu.Cpu.{Cpu}
use Rattle.dcc_machine.specs.declared.instr.Operand.TheVariants.{Word}
use Rattle.dcc_machine.specs.declared.instr.Op.{Op}
use Rattle.dcc_machine.specs.declared.instr.Op.TheVariants.{Alu, Unary, Shift, Mov, Xchg, Push, Call, Int21}
use Rattle.dcc_machine.specs.Machine.{State, word_in, stack_segment, physical, is_segment}
use Rattle.dcc_machine.specs.Step.{op_step}
use Rattle.dcc_machine.specs.WellFormed.{IsOperation}
use Rattle.dcc_machine.specs.StateForm.{IsState}
use Rattle.dcc_machine.specs.Writes.{is_same_register, is_same_half}
use Rattle.dcc_machine.specs.Operations.{is_division}
use Rattle.dcc_machine.specs.Wanted.{Location, half_of, flag_of, is_in_address_of, makes, uses, unary_uses}
use Rattle.dcc_machine.specs.Wanted.{surely_writes}
use Rattle.dcc_machine.specs.LocationLaws.{half_in, flag_in}

-- Agreement.

-- two states hold the same in a location
abbrev pub AgreeIn : Location → State → State → Type 0
AgreeIn (half_of r half) s t = half_in s r half ≡ half_in t r half
AgreeIn (flag_of flag) s t = flag_in s.flags flag ≡ flag_in t.flags flag

-- two states agree in all that is no location, but for memory: segment registers, the instruction pointer, the console
-- and the end
pub record AgreeOutside (s t : State) : Type 0 where
  pub segs : s.segs ≡ t.segs
  pub ip : s.ip ≡ t.ip
  pub input : s.input ≡ t.input
  pub events : s.events ≡ t.events
  pub end : s.end ≡ t.end

-- two states agree in all that is no location, in memory, and in where SP and BP point
pub record AgreeBeside (s t : State) : Type 0 where
  pub outside : AgreeOutside s t
  pub memory : s.memory ≡ t.memory
  pub sp : word_in s Sp ≡ word_in t Sp
  pub bp : word_in s Bp ≡ word_in t Bp

-- What is asked of an operation.

-- AH holds the number of a call of INT 21h
abbrev pub IsCallNumber : Op → Option ℕ → State → Type 0
IsCallNumber Int21 number s = number ≡ Some (half_in s Ax High)
IsCallNumber op number s = Unit {0}

-- a location may keep through a step what it held: it isn't surely written, or the operation is a CALL, whose own step
-- writes SP alone
abbrev pub passes : Op → Option ℕ → Location → Bool
passes (Call target) number location = true
passes op number location = not (surely_writes op number location)

-- a division uses the location
abbrev pub divides_by : Op → Location → Bool
divides_by (Unary operation a) location = is_division operation && unary_uses operation a location
divides_by op location = false

-- no operand that may be written is a segment register
abbrev pub spares_segments : Op → Bool
spares_segments (Alu operation a b) = not (is_segment a)
spares_segments (Unary operation a) = not (is_segment a)
spares_segments (Shift operation a count) = not (is_segment a)
spares_segments (Mov to from) = not (is_segment to)
spares_segments (Xchg a b) = not (is_segment a) && not (is_segment b)
spares_segments op = true

-- The word that is pushed.

abbrev pub is_push : Op → Bool
is_push (Push a) = true
is_push op = false

-- a half of the word that a PUSH stores is made of the location: PUSH goes half by half
abbrev pub is_pushed_of : Op → Half → Location → Bool
is_pushed_of (Push (Word r)) half (half_of q other) = is_same_register q r && is_same_half other half
is_pushed_of (Push a) half location = is_in_address_of location a
is_pushed_of op half location = false

-- the physical address of a half of the word that a PUSH stores
abbrev pub pushed_at : State → Half → ℕ
pushed_at s Low = physical (stack_segment s) ((word_in s Sp + 65534) % 65536)
pushed_at s High = physical (stack_segment s) (((word_in s Sp + 65534) % 65536 + 1) % 65536)

-- Two steps from states that agree outside of locations: the first law.

-- two states agree in all that the location is made of, and in the location itself where it may keep what it held
pub record AreAlikeFor (op : Op) (number : Option ℕ) (s t : State) (to : Location) : Type 0 where
  pub made : (from : Location) → makes op to from ≡ true → AgreeIn from s t
  pub passed : passes op number to ≡ true → AgreeIn to s t
  pub divided : (from : Location) → divides_by op from ≡ true → AgreeIn from s t

-- where the run goes on, two states that are alike for a location agree in it after the step
abbrev pub WhatIsMadeAlikeIsAlike : Type 0
WhatIsMadeAlikeIsAlike =
    (cpu : Cpu) (op : Op) (at : ℕ) (number : Option ℕ) (s t : State) (to : Location)
    → IsOperation op → IsState s → IsState t → AgreeBeside s t
    → IsCallNumber op number s → IsCallNumber op number t → AreAlikeFor op number s t to
    → is_over (op_step cpu op at s).end ≡ false → AgreeIn to (op_step cpu op at s) (op_step cpu op at t)

-- The second law: where two states agree in all that the operation uses, the steps show no difference.

-- After steps from two states, all that is no location is alike, and memory is the same but for the word that a PUSH
-- stores, and that word too where what it is made of agrees.
pub record AreAlikeOutside (op : Op) (s t after other : State) : Type 0 where
  pub outside : AgreeOutside after other
  pub memory : is_push op ≡ false → after.memory ≡ other.memory
  pub pushed :
      (address : ℕ)
      → ((half : Half) (from : Location) → address ≡ pushed_at s half → is_pushed_of op half from ≡ true
      → AgreeIn from s t)
      → slice_index after.memory address ≡ slice_index other.memory address

abbrev pub WhatIsUsedAlikeShowsAlike : Type 0
WhatIsUsedAlikeShowsAlike =
    (cpu : Cpu) (op : Op) (at : ℕ) (number : Option ℕ) (s t : State)
    → IsOperation op → IsState s → IsState t → spares_segments op ≡ true → AgreeBeside s t
    → IsCallNumber op number s → IsCallNumber op number t
    → ((from : Location) → uses op number from ≡ true → AgreeIn from s t)
    → AreAlikeOutside op s t (op_step cpu op at s) (op_step cpu op at t)

-- Two states that differ in one location alone.

pub record AgreeBut (location : Location) (s t : State) : Type 0 where
  pub beside : AgreeBeside s t
  pub others : (other : Location) → ¬ (other ≡ location) → AgreeIn other s t

-- where two states differ in one location, after the step they differ in what is made of it alone, and in the location
-- itself where that isn't surely written
pub record OneLocationChangesWhatIsMadeOfIt : Type 0 where
  pub locations :
      (cpu : Cpu) (op : Op) (at : ℕ) (number : Option ℕ) (s t : State) (location to : Location)
      → IsOperation op → IsState s → IsState t → AgreeBut location s t
      → IsCallNumber op number s → IsCallNumber op number t
      → makes op to location ≡ false → (to ≡ location → passes op number to ≡ false) → divides_by op location ≡ false
      → is_over (op_step cpu op at s).end ≡ false → AgreeIn to (op_step cpu op at s) (op_step cpu op at t)
  pub outside :
      (cpu : Cpu) (op : Op) (at : ℕ) (number : Option ℕ) (s t : State) (location : Location)
      → IsOperation op → IsState s → IsState t → spares_segments op ≡ true → AgreeBut location s t
      → IsCallNumber op number s → IsCallNumber op number t → uses op number location ≡ false
      → AgreeOutside (op_step cpu op at s) (op_step cpu op at t)
  pub memory :
      (cpu : Cpu) (op : Op) (at : ℕ) (number : Option ℕ) (s t : State) (location : Location) (address : ℕ)
      → IsOperation op → IsState s → IsState t → spares_segments op ≡ true → AgreeBut location s t
      → IsCallNumber op number s → IsCallNumber op number t → uses op number location ≡ false
      → ((half : Half) → address ≡ pushed_at s half → is_pushed_of op half location ≡ false)
      → slice_index (op_step cpu op at s).memory address ≡ slice_index (op_step cpu op at t).memory address
