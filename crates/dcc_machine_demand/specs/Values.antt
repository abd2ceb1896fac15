-- Operations that make values of their operands: each byte and flag that they write is made of all that they read for
-- it, both halves of a word included. For halves and flags dcc_prog tells what is made of what; bytes of cells join
-- here.
use Rattle.std.specs.Prelude.{ℕ, ◌%◌, ◌==◌, Bool, true, false, not, ◌&&◌, ◌||◌, Option, None, if◌then◌else◌}
use Rattle.dcc_num.specs.declared.FlagName.TheVariants.{Of}
use Rattle.dcc_machine.specs.declared.instr.Count.TheVariants.{Const as ConstCount}
use Rattle.dcc_machine.specs.declared.instr.Operand.{Operand}
use Rattle.dcc_machine.specs.declared.instr.Op.{Op}
use Rattle.dcc_machine.specs.declared.instr.Op.TheVariants.{Alu as AluOp, Unary as UnaryOp, Shift as ShiftOp, Mov, Xchg}
use Rattle.dcc_machine.specs.declared.instr.Op.TheVariants.{Imul3, Push, Pop, Call}
use Rattle.dcc_machine.specs.Machine.{operand_width, is_general}
use Rattle.dcc_machine.specs.Operations.{is_division}
use Rattle.dcc_machine.specs.Writes.{is_same_register, is_carry_or_overflow, writes_flag}
use Rattle.dcc_machine.specs.Wanted.{Location, half_of, flag_of, is_read, is_accumulator, alu_makes, unary_makes}
use Rattle.dcc_machine.specs.Wanted.{shift_writes, shift_reads, makes, uses, surely_writes_half, surely_writes_flag}
use Rattle.dcc_stack.specs.Slots.{writes_memory}
use Rattle.dcc_machine_demand.specs.Bodies.{Body}
use Rattle.dcc_machine_demand.specs.Holders.{Holder, held, in_frame, is_accessed_by, is_in_cells}

-- the operation moves bytes or calls
abbrev pub moves_or_calls : Op → Bool
moves_or_calls (Mov to from) = true
moves_or_calls (Xchg a b) = true
moves_or_calls (Push a) = true
moves_or_calls (Pop a) = true
moves_or_calls (Call target) = true
moves_or_calls op = false

-- What is written.

-- the operation gives the place a value that it makes; of the calls of INT 21h only those that give a byte write AL
abbrev pub value_written : Body → Op → Option ℕ → Holder → Bool
value_written body op number (held (half_of r half)) = is_general r && surely_writes_half op number r half
value_written body op number (held (flag_of flag)) = writes_flag op flag
value_written body op number (in_frame k) = writes_memory op && is_accessed_by body op k

-- Where the operation writes the place, it surely does, whatever it finds; a shift or rotate by CL may leave the
-- flags.
abbrev pub is_sure : Op → Holder → Bool
is_sure (Call target) place = false
is_sure op (held (flag_of flag)) = surely_writes_flag op flag
is_sure op place = true

-- What is made of what.

-- OF is 0 after a shift or rotate by a constant other than 1
abbrev pub is_cleared : Op → Location → Bool
is_cleared (ShiftOp operation a (ConstCount number)) (flag_of Of) = not (number % 32 == 1)
is_cleared op location = false

-- the value of the half or flag is made of the operand in memory
abbrev pub takes_memory : Op → Location → Bool
takes_memory (AluOp operation a b) to = alu_makes operation a to
takes_memory (UnaryOp operation a) to = unary_makes operation a to
takes_memory (ShiftOp operation a count) to = shift_writes operation a count to && shift_reads operation to
takes_memory (Imul3 r a constant) (half_of q half) = is_same_register q r
takes_memory (Imul3 r a constant) (flag_of flag) = is_carry_or_overflow flag
takes_memory op to = false

-- A byte of a cell that is written is made of what a store to memory would use.
abbrev pub value_made_of : Body → Op → Holder → Holder → Bool
value_made_of body op (held to) (held from) = makes op to from && not (is_cleared op to)
value_made_of body op (held to) (in_frame k) =
    (takes_memory op to && not (is_cleared op to)) && is_accessed_by body op k
value_made_of body op (in_frame k) (held from) = is_accessed_by body op k && uses op None from
value_made_of body op (in_frame k) (in_frame j) = is_accessed_by body op k && is_accessed_by body op j

-- Uses.

-- what is wanted for a division: its operand and the lower half of what it divides. Of an accepted program the lower
-- half tells the upper one, which is prepared; so the upper half doesn't count here, as it does in dcc_prog's `uses`,
-- which tells what the division's step is made of.
abbrev pub division_uses : Operand → Location → Bool
division_uses a location = is_accumulator (operand_width a) location || is_read location a

-- the operation divides
abbrev pub divides : Op → Bool
divides (UnaryOp operation a) = is_division operation
divides op = false

-- What an operation uses for a jump, a store, a division or a DOS call, whatever is wanted after it. A write of a
-- memory operand that stands in a cell is no store, and of what a division divides the lower half alone counts.
abbrev pub value_uses : Body → Op → Option ℕ → Holder → Bool
value_uses body (UnaryOp operation a) number (held location) =
    if is_division operation then division_uses a location
    else not (is_in_cells body (UnaryOp operation a)) && uses (UnaryOp operation a) number location
value_uses body op number (held location) = not (is_in_cells body op) && uses op number location
value_uses body op number (in_frame k) = divides op && is_accessed_by body op k
