-- One step of the machine, and its runs.
use Rattle.std.specs.Prelude.{ℕ, true, not, ◌+◌, ◌%◌, ◌==◌, if◌then◌else◌, List, [], ◌∷◌, Option, Some, None}
use Rattle.dcc_run.specs.End.{Outside, is_over}
use Rattle.dcc_run.specs.System.{System}
use Rattle.dcc_num.specs.declared.Reg.TheVariants.{Cx}
use Rattle.dcc_machine.specs.declared.cpu.Cpu.{Cpu}
use Rattle.dcc_machine.specs.declared.instr.Op.{Op}
use Rattle.dcc_machine.specs.declared.instr.Op.TheVariants.{Alu, Unary, Shift, Mov, Xchg, Lea, Imul3, Push, Pop, Enter}
use Rattle.dcc_machine.specs.declared.instr.Op.TheVariants.{Leave, Plain, Jump, Branch, Loop, LoopE, LoopNe, Jcxz}
use Rattle.dcc_machine.specs.declared.instr.Op.TheVariants.{Table, Call, Ret, Int21}
use Rattle.dcc_machine.specs.declared.instr.Instr.{Instr}
use Rattle.dcc_machine.specs.Table.{instruction_at}
use Rattle.dcc_machine.specs.Machine.{State, word_in, code_segment, byte_in, operand_value, operand_width}
pub use Rattle.dcc_machine.specs.Operations.{with_end, with_flags, with_result, with_al, mov_step, xchg_step, lea_step}
pub use Rattle.dcc_machine.specs.Operations.{alu_step, unary_step, shift_step, imul3_step, push_step, pop_step}
pub use Rattle.dcc_machine.specs.Operations.{enter_step, leave_step, after_jump, after_jump_if, holds, loop_step}
pub use Rattle.dcc_machine.specs.Operations.{table_step, call_step, ret_step, plain_step}
pub use Rattle.dcc_machine.specs.Dos.{dos_step, dos_call}

-- the byte at so many bytes after the instruction pointer, whose offset wraps
abbrev pub code_byte : State → ℕ → ℕ
code_byte s k = byte_in s (code_segment s) ((s.ip + k) % 65536)

-- the bytes at the instruction pointer, as many as the longest instruction has
abbrev pub code_bytes : State → List ℕ
code_bytes s =
    code_byte s 0 ∷ code_byte s 1 ∷ code_byte s 2 ∷ code_byte s 3 ∷ code_byte s 4 ∷ code_byte s 5 ∷ []

-- an operation of the instruction at this offset, with the instruction pointer after it
abbrev pub op_step : Cpu → Op → ℕ → State → State
op_step cpu (Alu operation a b) at s =
    alu_step operation (operand_width a) a (operand_value s a) (operand_value s b) s
op_step cpu (Unary operation a) at s = unary_step operation (operand_width a) a (operand_value s a) at s
op_step cpu (Shift operation a count) at s = shift_step cpu operation a count s
op_step cpu (Mov to from) at s = mov_step to from s
op_step cpu (Xchg a b) at s = xchg_step a b s
op_step cpu (Lea r ea) at s = lea_step r ea s
op_step cpu (Imul3 r a constant) at s = imul3_step r a constant s
op_step cpu (Push a) at s = push_step a s
op_step cpu (Pop a) at s = pop_step a s
op_step cpu (Enter count) at s = enter_step count s
op_step cpu Leave at s = leave_step s
op_step cpu (Plain operation) at s = plain_step operation s
op_step cpu (Jump target) at s = after_jump target s
op_step cpu (Branch condition target) at s = after_jump_if (holds condition s.flags) target s
op_step cpu (Loop target) at s = loop_step true target s
op_step cpu (LoopE target) at s = loop_step s.flags.zf target s
op_step cpu (LoopNe target) at s = loop_step (not s.flags.zf) target s
op_step cpu (Jcxz target) at s = after_jump_if (word_in s Cx == 0) target s
op_step cpu (Table r offset) at s = table_step r offset s
op_step cpu (Call target) at s = call_step target s
op_step cpu (Ret count) at s = ret_step count s
op_step cpu Int21 at s = dos_call at s

-- the instruction that was found, or an end where the table has none
abbrev pub instruction_step : Cpu → Option Instr → State → State
instruction_step cpu None s = with_end (Outside s.ip) s.ip s
instruction_step cpu (Some instr) s = op_step cpu instr.op s.ip (record s { ip = (s.ip + instr.len) % 65536 })

-- one instruction of a processor; a state that has ended stays
abbrev pub step : Cpu → State → State
step cpu s =
    if is_over s.end then s else instruction_step cpu (instruction_at cpu s.ip (code_bytes s)) s

-- the runs of the machine with a processor
abbrev pub machine_system : Cpu → System State
machine_system cpu = record { step = step cpu; events = λ s. s.events; end = λ s. s.end }
