-- Where the operands of an instruction stand, by the height: by how many bytes SP stands below its value at the
-- procedure's entry.
use Rattle.std.specs.Prelude.{ℕ, ℤ, pos, ◌-ℤ◌, if◌then◌else◌, Some, None}
use Rattle.dcc_num.specs.declared.Width.{Width}
use Rattle.dcc_num.specs.declared.Width.TheVariants.{Word as word_width}
use Rattle.dcc_num.specs.declared.Reg.TheVariants.{Sp, Bp}
use Rattle.dcc_num.specs.Numbers.{wrapped_of}
use Rattle.dcc_machine.specs.declared.instr.Ea.{Ea}
use Rattle.dcc_machine.specs.declared.instr.Operand.{Operand}
use Rattle.dcc_machine.specs.declared.instr.Operand.TheVariants.{Word, Mem}
use Rattle.dcc_machine.specs.declared.instr.Op.{Op}
use Rattle.dcc_machine.specs.declared.instr.Op.TheVariants.{Alu, Unary, Shift, Mov, Xchg, Imul3}
use Rattle.dcc_machine.specs.Machine.{is_bp}
use Rattle.dcc_machine.specs.Access.{is_direct}
use Rattle.dcc_prog.specs.Frame.{offset_in_frame}
use Rattle.dcc_ops.specs.declared.operand_place.Computed.{Computed}
use Rattle.dcc_ops.specs.OperandPlace.{OperandPlace, constant, memory, computed}
use Rattle.dcc_ops.specs.Computed.{computed_expr}
use Rattle.dcc_ops.specs.Registers.{register_place}
use Rattle.dcc_simulation.specs.Procedures.{Procedure, distance_of, frame_place}

-- Addresses.

-- the address at an offset in the frame, and a number
abbrev pub from_frame : ℤ → ℤ → Computed
from_frame k number =
    record { frame = Some (distance_of k); base = None; index = None; number = wrapped_of word_width number }

-- an effective address: BP is the frame's base less 4
abbrev pub address_of : Ea → Computed
address_of ea =
    if is_bp ea.base then
    record { frame = Some (distance_of (offset_in_frame ea)); base = None; index = ea.index; number = 0 }
    else record { frame = None; base = ea.base; index = ea.index; number = ea.disp }

-- The value of SP, an offset of the stack segment. The address from which it is told is BP's, which exposes no byte.
abbrev pub stack_pointer : Procedure → ℕ → Computed
stack_pointer p height = from_frame (pos 0) ((pos 2 -ℤ pos height) -ℤ pos p.delta)

-- the value of BP: it exposes all bytes between SP and BP, so it is told from the address of the lowest of them
abbrev pub frame_pointer : ℕ → Computed
frame_pointer height = from_frame (pos 2 -ℤ pos height) (pos height -ℤ pos 2)

-- Operands.

-- a direct access to the frame is told by the frame; all other memory stands at its address
abbrev pub memory_place : Procedure → Width → Ea → OperandPlace
memory_place p width ea =
    if is_direct ea then frame_place p width (offset_in_frame ea)
    else memory width (computed_expr (address_of ea))

abbrev pub operand_place : Procedure → ℕ → Operand → OperandPlace
operand_place p height (Mem width ea) = memory_place p width ea
operand_place p height (Word Sp) = computed (computed_expr (stack_pointer p height))
operand_place p height (Word Bp) = computed (computed_expr (frame_pointer height))
operand_place p height operand = register_place operand

-- The places of an operation's first and second operand.

abbrev pub no_place : OperandPlace
no_place = constant word_width 0

abbrev pub first_place : Procedure → ℕ → Op → OperandPlace
first_place p height (Alu operation a b) = operand_place p height a
first_place p height (Unary operation a) = operand_place p height a
first_place p height (Shift operation a count) = operand_place p height a
first_place p height (Mov to from) = operand_place p height to
first_place p height (Xchg a b) = operand_place p height a
first_place p height (Imul3 r a factor) = operand_place p height a
first_place p height op = no_place

abbrev pub second_place : Procedure → ℕ → Op → OperandPlace
second_place p height (Alu operation a b) = operand_place p height b
second_place p height (Mov to from) = operand_place p height from
second_place p height (Xchg a b) = operand_place p height b
second_place p height op = no_place
