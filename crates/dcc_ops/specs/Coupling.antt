-- Relations between a state of the machine and a state of the inner language's run. Operations know no more of one than
-- this, so the relation may be that of registers alone, or of memory, cells and frames too.
use Rattle.std.specs.Prelude.{◌≡◌, ◌+◌, ◌*◌, ◌<◌, ℕ, Bool, true, false}
use Rattle.std.specs.Int.{from_bool}
use Rattle.dcc_run.specs.End.{Running}
use Rattle.dcc_num.specs.declared.Reg.{Reg}
use Rattle.dcc_num.specs.declared.Half.TheVariants.{Low, High}
use Rattle.dcc_num.specs.declared.Flags.{Flags}
use Rattle.dcc_num.specs.declared.FlagName.TheVariants.{Cf, Zf, Sf, Of}
use Rattle.dcc_num.specs.Numbers.{limit_of}
use Rattle.dcc_machine.specs.declared.instr.Operand.{Operand}
use Rattle.dcc_machine.specs.Machine.{State as Machine, word_in, with_word_in, operand_value, operand_width}
use Rattle.dcc_machine.specs.Machine.{with_operand, is_general}
use Rattle.dcc_machine.specs.Operations.{with_flags}
use Rattle.dcc_ir.specs.declared.syntax.Loc.{Loc}
use Rattle.dcc_ir.specs.declared.syntax.Loc.TheVariants.{Half, Flag, Temp}
use Rattle.dcc_ir.specs.Location.{Values}
use Rattle.dcc_ir.specs.Tree.{Get}
use Rattle.dcc_ir.specs.Value.{Fits}
use Rattle.dcc_ir.specs.Run.{State, scene_of, value_in, setting, execute}
use Rattle.dcc_ops.specs.Temporaries.{temporary_bits, is_temporary_of}
use Rattle.dcc_ops.specs.OperandPlace.{OperandPlace, place_width, place_value, storing, is_sound_place}

abbrev pub Relation : Type 1
Relation = Machine → State → Type 0

-- the flags' locations hold the flags
pub record HoldFlags (flags : Flags) (values : Values) : Type 0 where
  pub carry : values (Flag Cf) ≡ from_bool flags.cf
  pub zero : values (Flag Zf) ≡ from_bool flags.zf
  pub negative : values (Flag Sf) ≡ from_bool flags.sf
  pub overflow : values (Flag Of) ≡ from_bool flags.of

-- a temporary or a flag
abbrev pub is_scratch : Loc → Bool
is_scratch (Flag flag) = true
is_scratch (Temp n) = true
is_scratch location = false

-- the state with these values in the running activation
abbrev pub with_values : Values → State → State
with_values values t = record t { running = record t.running { values = values } }

-- what a relation gives, and what it allows
pub record IsCoupling (R : Relation) : Type 0 where
  -- the run goes on, its temporaries are those of operations, and what it holds fits its widths
  pub running : (s : Machine) (t : State) → R s t → t.end ≡ Running
  pub bits : (s : Machine) (t : State) → R s t → t.running.graph.bits ≡ temporary_bits
  pub fits : (s : Machine) (t : State) → R s t → Fits (scene_of t)
  -- a general register is its two halves
  pub words : (s : Machine) (t : State) (r : Reg) → R s t → is_general r ≡ true
      → word_in s r ≡ t.running.values (Half r High) * 256 + t.running.values (Half r Low)
  pub flags : (s : Machine) (t : State) → R s t → HoldFlags s.flags t.running.values
  -- the instruction pointer may be anywhere
  pub anywhere : (s : Machine) (t : State) (ip : ℕ) → R s t → R (record s { ip = ip }) t
  -- temporaries may hold what fits them, and flags change on both sides
  pub scratch : (s : Machine) (t : State) (flags : Flags) (values : Values) → R s t
      → ((location : Loc) → is_scratch location ≡ false → values location ≡ t.running.values location)
      → HoldFlags flags values → Fits (scene_of (with_values values t))
      → R (with_flags flags s) (with_values values t)
  -- a general register takes two bytes
  pub general : (s : Machine) (t : State) (r : Reg) (low high : ℕ) → R s t → is_general r ≡ true → low < 256
      → high < 256
      → R (with_word_in s r (high * 256 + low)) (setting (Half r High) high (setting (Half r Low) low t))

-- Operands, in a state of the machine, whatever its flags are.

-- the operand stands at the place: what the place holds is what the operand holds
pub record IsRead (R : Relation) (s : Machine) (x : Operand) (place : OperandPlace) : Type 0 where
  pub width : place_width place ≡ operand_width x
  pub value : (flags : Flags) (t : State) → R (with_flags flags s) t
      → value_in t (place_value place) ≡ operand_value s x
  pub small : (flags : Flags) (t : State) → R (with_flags flags s) t
      → operand_value s x < limit_of (operand_width x)

-- the operand may be written at the place: where the place takes a temporary as the operand takes its value, the
-- relation for afterwards holds
pub record IsWritten (R After : Relation) (s : Machine) (x : Operand) (place : OperandPlace) : Type 0 where
  pub width : place_width place ≡ operand_width x
  pub sound : is_sound_place place ≡ true
  pub taken : (flags : Flags) (t : State) (from : Loc) → R (with_flags flags s) t
      → is_temporary_of (operand_width x) from ≡ true
      → After (with_operand (with_flags flags s) x (t.running.values from)) (execute (storing place (Get from)) t)

-- where nothing is written, the one relation gives the other
abbrev pub Follows : Relation → Relation → Type 0
Follows R After = (s : Machine) (t : State) → R s t → After s t

abbrev pub IsWrittenIf : Bool → Relation → Relation → Machine → Operand → OperandPlace → Type 0
IsWrittenIf true R After s x place = IsWritten R After s x place
IsWrittenIf false R After s x place = Follows R After
