-- What a trail tells of the offset to which it goes, and what all trails to an offset tell in common. This stands
-- between the trails and the code; no public contract rests on it.
use Rattle.std.specs.Prelude.{ℕ, ◌==◌, nat_eq, Bool, false, not, ◌&&◌, if◌then◌else◌, List, [], ◌∷◌, Option, Some, None}
use Rattle.std.specs.Prelude.{option_map}
use Rattle.dcc_num.specs.declared.Reg.{Reg}
use Rattle.dcc_num.specs.declared.Reg.TheVariants.{Ax}
use Rattle.dcc_num.specs.declared.Half.TheVariants.{Low, High}
use Rattle.dcc_machine.specs.declared.image.Image.{Image}
use Rattle.dcc_prog.specs.declared.procedure.Layout.{Layout}
use Rattle.dcc_machine.specs.declared.instr.Alu.TheVariants.{Cmp}
use Rattle.dcc_machine.specs.declared.instr.Operand.TheVariants.{Word, Byte, Const}
use Rattle.dcc_machine.specs.declared.instr.Op.{Op}
use Rattle.dcc_machine.specs.declared.instr.Op.TheVariants.{Alu as AluOp, Mov, Table}
use Rattle.dcc_machine.specs.declared.instr.Instr.{Instr}
use Rattle.dcc_machine.specs.Writes.{is_same_register, writes_half}
use Rattle.dcc_machine.specs.Successors.{next_of, op_successors}
use Rattle.dcc_machine.specs.Machine.{is_general}
use Rattle.dcc_prog.specs.Trail.{instruction_in, constant_to_ah, is_doubling, clears_upper, is_bounds_test}
use Rattle.dcc_prog.specs.Trail.{table_targets}
use Rattle.dcc_procs.specs.declared.known.Known.{Known}
use Rattle.dcc_procs.specs.declared.table.Form.{Form}
use Rattle.dcc_procs.specs.declared.table.Form.TheVariants.{Compared, AlCompared, InRange, AlInRange, Doubled}
use Rattle.dcc_procs.specs.declared.table.Index.{Index}

-- The instructions before a jump through a table.

abbrev pub is_same_form : Form → Form → Bool
is_same_form (Compared r number) (Compared q other) = is_same_register r q && number == other
is_same_form (InRange r number) (InRange q other) = is_same_register r q && number == other
is_same_form (Doubled r number) (Doubled q other) = is_same_register r q && number == other
is_same_form (AlCompared number) (AlCompared other) = number == other
is_same_form (AlInRange number) (AlInRange other) = number == other
is_same_form form other = false

abbrev pub is_same_index : Index → Index → Bool
is_same_index index other = is_same_register index.register other.register && index.number == other.number

-- the form of the last instructions after a comparison, with which a form begins
abbrev pub form_begun : Op → Option Form
form_begun (AluOp Cmp (Word r) (Const width number)) = if is_general r then Some (Compared r number) else None
form_begun (AluOp Cmp (Byte Ax Low) (Const width number)) = Some (AlCompared number)
form_begun op = None

-- the form of the last instructions, which goes on from the one before the operation, where the operation goes on to
-- an offset
abbrev pub form_continued : Op → ℕ → ℕ → Form → Option Form
form_continued op next to (Compared r number) = if is_bounds_test op next to then Some (InRange r number) else None
form_continued op next to (AlCompared number) = if is_bounds_test op next to then Some (AlInRange number) else None
form_continued op next to (AlInRange number) = if clears_upper Ax (Some op) then Some (InRange Ax number) else None
form_continued op next to (InRange r number) = if is_doubling r (Some op) then Some (Doubled r number) else None
form_continued op next to (Doubled r number) = None

abbrev pub continued : Op → ℕ → ℕ → Option Form → Option Form
continued op next to None = None
continued op next to (Some form) = form_continued op next to form

-- the first option where it has a value, else the second
abbrev pub first_of : {A : Type 0} → Option A → Option A → Option A
first_of (Some a) other = Some a
first_of None other = other

abbrev pub form_after : Op → ℕ → ℕ → Option Form → Option Form
form_after op next to form = first_of (form_begun op) (continued op next to form)

-- the register to which the operation moves the given one
abbrev pub moved_to : Reg → Op → Option Reg
moved_to r (Mov (Word q) (Word p)) = if is_same_register r p && not (is_same_register q p) then Some q else None
moved_to r op = None

abbrev pub index_of : ℕ → Reg → Index
index_of number r = record { register = r; number = number }

-- the index after an operation, by the form before it
abbrev pub index_after : Op → Option Form → Option Index
index_after op (Some (InRange r number)) = if is_doubling r (Some op) then Some (index_of number r) else None
index_after op (Some (Doubled r number)) = option_map (index_of number) (moved_to r op)
index_after op form = None

-- the greatest number of the register, where it is the index
abbrev pub number_of : Reg → Option Index → Option ℕ
number_of r None = None
number_of r (Some index) = if is_same_register index.register r then Some index.number else None

-- What a trail tells.

-- what the trail tells that has the entry alone: nothing
abbrev pub nothing : Known
nothing = record { ah = None; form = None; index = None; from = None }

-- what is told after an instruction that goes on to an offset, by what is told before it
abbrev pub known_after : ℕ → Instr → ℕ → Known → Known
known_after at instr to known = record {
  ah = if writes_half instr.op Ax High then constant_to_ah instr.op else known.ah;
  form = form_after instr.op (next_of at instr) to known.form;
  index = index_after instr.op known.form;
  from = Some at;
}

abbrev pub told_after : ℕ → Option Instr → ℕ → Known → Known
told_after at None to known = record { ah = known.ah; form = None; index = None; from = Some at }
told_after at (Some instr) to known = known_after at instr to known

-- what a trail that goes on to an offset tells
abbrev pub told : Image → Layout → ℕ → List ℕ → Known
told image layout to [] = nothing
told image layout to (at ∷ before) = told_after at (instruction_in image layout at) to (told image layout at before)

-- where an instruction goes on, by what is told before it
abbrev pub targets_by : Image → Op → Known → List ℕ
targets_by image (Table r offset) known = table_targets image offset (number_of r known.index)
targets_by image op known = []

abbrev pub successors_by : Image → ℕ → Instr → Known → List ℕ
successors_by image at instr known =
    op_successors instr.op (next_of at instr) known.ah (targets_by image instr.op known)

-- What two tell in common.

abbrev pub common_of : {A : Type 0} → (A → A → Bool) → Option A → Option A → Option A
common_of same (Some a) (Some b) = if same a b then Some a else None
common_of same a b = None

abbrev pub common : Known → Known → Known
common known other = record {
  ah = common_of nat_eq known.ah other.ah;
  form = common_of is_same_form known.form other.form;
  index = common_of is_same_index known.index other.index;
  from = common_of nat_eq known.from other.from;
}
