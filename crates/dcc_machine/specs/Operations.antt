-- What the operations do to the state (8086 Family User's Manual, table 2-21; iAPX 86/88, 186/188 User's Manual,
-- Programmer's Reference). The instruction pointer stands after the instruction already. Flags that the manuals leave
-- undefined are clear.
use Rattle.std.specs.Prelude.{ℕ, ◌+◌, ◌-◌, ◌*◌, ◌%◌, ◌==◌, Bool, true, false, not, ◌&&◌, ◌||◌, if◌then◌else◌, Option}
use Rattle.std.specs.Prelude.{Some, None}
use Rattle.dcc_run.specs.End.{End, Divide}
use Rattle.dcc_num.specs.declared.Width.{Width}
use Rattle.dcc_num.specs.declared.Width.TheVariants.{Byte as byte_width, Word as word_width}
use Rattle.dcc_num.specs.declared.Reg.{Reg}
use Rattle.dcc_num.specs.declared.Reg.TheVariants.{Ax, Cx, Dx, Bx, Sp, Bp}
use Rattle.dcc_num.specs.declared.Half.TheVariants.{Low, High}
use Rattle.dcc_num.specs.declared.Flags.{Flags}
use Rattle.dcc_num.specs.Numbers.{limit_of, differ, sign_extension_of, no_flags}
use Rattle.dcc_num.specs.Sum.{sum_of, difference_of, negation_of, increment_of, decrement_of}
use Rattle.dcc_num.specs.Logic.{conjunction_of, disjunction_of, exclusive_of}
use Rattle.dcc_num.specs.Shift.{shl_of, shr_of, sar_of, rol_of, ror_of, rcl_of}
use Rattle.dcc_num.specs.Shift.{rcr_of}
use Rattle.dcc_num.specs.Product.{product_of, signed_product_of, extension_of}
use Rattle.dcc_num.specs.Quotient.{division_of, signed_division_of}
use Rattle.dcc_machine.specs.declared.cpu.Cpu.{Cpu}
use Rattle.dcc_machine.specs.declared.cpu.Cpu.TheVariants.{I8086, I186}
use Rattle.dcc_machine.specs.declared.instr.Alu.{Alu}
use Rattle.dcc_machine.specs.declared.instr.Alu.TheVariants.{Add, Or, Adc, Sbb, And, Sub, Xor, Cmp, Test}
use Rattle.dcc_machine.specs.declared.instr.Shift.{Shift}
use Rattle.dcc_machine.specs.declared.instr.Shift.TheVariants.{Rol, Ror, Rcl, Rcr, Shl, Shr, Sar}
use Rattle.dcc_machine.specs.declared.instr.Count.{Count}
use Rattle.dcc_machine.specs.declared.instr.Count.TheVariants.{One, Cl, Const as ConstCount}
use Rattle.dcc_machine.specs.declared.instr.Unary.{Unary}
use Rattle.dcc_machine.specs.declared.instr.Unary.TheVariants.{Inc, Dec, Neg, Not, Mul, Imul, Div, Idiv}
use Rattle.dcc_machine.specs.declared.instr.Cond.{Cond}
use Rattle.dcc_machine.specs.declared.instr.Cond.TheVariants.{O, No, B, Ae, Z, Nz, Be, A, S, Ns, L, Ge, Le, G}
use Rattle.dcc_machine.specs.declared.instr.Plain.{Plain}
use Rattle.dcc_machine.specs.declared.instr.Plain.TheVariants.{Nop, Cbw, Cwd, Xlat, Clc, Stc, Cmc, Cli, Sti, Cld}
use Rattle.dcc_machine.specs.declared.instr.Ea.{Ea}
use Rattle.dcc_machine.specs.declared.instr.Operand.{Operand}
use Rattle.dcc_machine.specs.declared.instr.Operand.TheVariants.{Word}
use Rattle.dcc_machine.specs.Machine.{State, half_of_word, word_with_half, word_in, with_word_in, code_segment}
use Rattle.dcc_machine.specs.Machine.{stack_segment, data_segment, byte_in, word_at_offset, with_word_at_offset}
use Rattle.dcc_machine.specs.Machine.{offset_of, operand_value, with_operand, operand_width}

-- the run ends at the instruction at this offset
abbrev pub with_end : End → ℕ → State → State
with_end end at s = record s { ip = at; end = end }

abbrev pub with_flags : Flags → State → State
with_flags flags s = record s { flags = flags }

-- an operand takes a result, and the flags are set with it
abbrev pub with_result : Operand → ℕ × Flags → State → State
with_result operand result s = with_operand (with_flags result.1 s) operand result.0

-- AL takes a byte
abbrev pub with_al : ℕ → State → State
with_al byte s = with_word_in s Ax (word_with_half Low (word_in s Ax) byte)

-- Moves.

abbrev pub mov_step : Operand → Operand → State → State
mov_step to from s = with_operand s to (operand_value s from)

-- the address of the first operand is taken before either operand changes
abbrev pub xchg_step : Operand → Operand → State → State
xchg_step a b s = with_operand (with_operand s a (operand_value s b)) b (operand_value s a)

abbrev pub lea_step : Reg → Ea → State → State
lea_step r ea s = with_word_in s r (offset_of s ea)

-- Operations on two operands. CMP and TEST set the flags alone.

abbrev pub alu_step : Alu → Width → Operand → ℕ → ℕ → State → State
alu_step Add w x a b s = with_result x (sum_of w a b false) s
alu_step Or w x a b s = with_result x (disjunction_of w a b) s
alu_step Adc w x a b s = with_result x (sum_of w a b s.flags.cf) s
alu_step Sbb w x a b s = with_result x (difference_of w a b s.flags.cf) s
alu_step And w x a b s = with_result x (conjunction_of w a b) s
alu_step Sub w x a b s = with_result x (difference_of w a b false) s
alu_step Xor w x a b s = with_result x (exclusive_of w a b) s
alu_step Cmp w x a b s = with_flags (difference_of w a b false).1 s
alu_step Test w x a b s = with_flags (conjunction_of w a b).1 s

-- Operations on one operand.

-- AL or AX
abbrev pub accumulator_in : Width → State → ℕ
accumulator_in byte_width s = half_of_word Low (word_in s Ax)
accumulator_in word_width s = word_in s Ax

-- AH or DX, the upper half of what a division divides
abbrev pub upper_in : Width → State → ℕ
upper_in byte_width s = half_of_word High (word_in s Ax)
upper_in word_width s = word_in s Dx

-- AL and AH, or AX and DX, take two values
abbrev pub with_pair : Width → ℕ → ℕ → State → State
with_pair byte_width low high s = with_word_in s Ax (high * 256 + low)
with_pair word_width low high s = with_word_in (with_word_in s Ax low) Dx high

-- the lower and the upper half of a product
abbrev pub with_product : Width → ℕ × ℕ × Flags → State → State
with_product w product s = with_pair w product.0 product.1 (with_flags product.2 s)

-- the quotient and the remainder; without them the run ends by a divide fault
abbrev pub with_division : Width → ℕ → Option (ℕ × ℕ) → State → State
with_division w at None s = with_end Divide at s
with_division w at (Some division) s = with_pair w division.0 division.1 (with_flags no_flags s)

-- DIV or IDIV
abbrev pub is_division : Unary → Bool
is_division Div = true
is_division Idiv = true
is_division operation = false

-- the lower word of the signed product of an operand and a constant
abbrev pub imul3_step : Reg → Operand → ℕ → State → State
imul3_step r x constant s =
    let product = signed_product_of word_width (operand_value s x) constant in
    with_word_in (with_flags product.2 s) r product.0

abbrev pub unary_step : Unary → Width → Operand → ℕ → ℕ → State → State
unary_step Inc w x a at s = with_result x (increment_of w a s.flags) s
unary_step Dec w x a at s = with_result x (decrement_of w a s.flags) s
unary_step Neg w x a at s = with_result x (negation_of w a) s
unary_step Not w x a at s = with_operand s x (limit_of w - 1 - a)
unary_step Mul w x a at s = with_product w (product_of w (accumulator_in w s) a) s
unary_step Imul w x a at s = with_product w (signed_product_of w (accumulator_in w s) a) s
unary_step Div w x a at s = with_division w at (division_of w (upper_in w s) (accumulator_in w s) a) s
unary_step Idiv w x a at s = with_division w at (signed_division_of w (upper_in w s) (accumulator_in w s) a) s

-- Shifts and rotates.

-- how far the processor goes by a number in CL: the 80186 takes it modulo 32
abbrev pub taken_count : Cpu → ℕ → ℕ
taken_count I8086 number = number
taken_count I186 number = number % 32

-- how far a shift or rotate goes; the 80186 alone has a constant
abbrev pub count_in : Cpu → Count → State → ℕ
count_in cpu One s = 1
count_in cpu Cl s = taken_count cpu (half_of_word Low (word_in s Cx))
count_in cpu (ConstCount number) s = number % 32

-- the result of a shift or rotate by a count; RCL and RCR go by 1 alone
abbrev pub shift_result : Shift → Width → ℕ → ℕ → Flags → ℕ × Flags
shift_result Rol w a count was = rol_of w a count was
shift_result Ror w a count was = ror_of w a count was
shift_result Rcl w a count was = rcl_of w a was
shift_result Rcr w a count was = rcr_of w a was
shift_result Shl w a count was = shl_of w a count was
shift_result Shr w a count was = shr_of w a count was
shift_result Sar w a count was = sar_of w a count was

abbrev pub shift_step : Cpu → Shift → Operand → Count → State → State
shift_step cpu shift x count s =
    with_result x (shift_result shift (operand_width x) (operand_value s x) (count_in cpu count s) s.flags) s

-- The stack.

-- the word at the top of the stack
abbrev pub top_word : State → ℕ
top_word s = word_at_offset s (stack_segment s) (word_in s Sp)

-- SP rises by a number of bytes
abbrev pub with_sp_raised : ℕ → State → State
with_sp_raised count s = with_word_in s Sp ((word_in s Sp + count) % 65536)

-- SP falls by 2, and the word is stored there
abbrev pub after_push : ℕ → State → State
after_push word s =
    let t = with_sp_raised 65534 s in
    with_word_at_offset t (stack_segment t) (word_in t Sp) word

-- the operand is read before SP falls
abbrev pub push_step : Operand → State → State
push_step x s = after_push (operand_value s x) s

-- the operand is written after SP has risen
abbrev pub pop_step : Operand → State → State
pop_step x s = with_operand (with_sp_raised 2 s) x (top_word s)

-- BP is pushed, it takes SP, and SP falls by a number of bytes
abbrev pub enter_step : ℕ → State → State
enter_step count s =
    let t = after_push (word_in s Bp) s in with_sp_raised (65536 - count) (with_word_in t Bp (word_in t Sp))

-- SP takes BP, and BP is popped
abbrev pub leave_step : State → State
leave_step s = pop_step (Word Bp) (with_word_in s Sp (word_in s Bp))

-- Jumps, calls and returns.

abbrev pub after_jump : ℕ → State → State
after_jump target s = record s { ip = target }

-- the state after a jump to the target where the condition holds, else to the next instruction
abbrev pub after_jump_if : Bool → ℕ → State → State
after_jump_if so target s = record s { ip = if so then target else s.ip }

-- whether a condition holds
abbrev pub holds : Cond → Flags → Bool
holds O f = f.of
holds No f = not f.of
holds B f = f.cf
holds Ae f = not f.cf
holds Z f = f.zf
holds Nz f = not f.zf
holds Be f = f.cf || f.zf
holds A f = not (f.cf || f.zf)
holds S f = f.sf
holds Ns f = not f.sf
holds L f = differ f.sf f.of
holds Ge f = not (differ f.sf f.of)
holds Le f = f.zf || differ f.sf f.of
holds G f = not (f.zf || differ f.sf f.of)

-- CX falls by 1 without flags, and the jump is made where it is not 0 then and the further condition holds
abbrev pub loop_step : Bool → ℕ → State → State
loop_step also target s =
    let left = (word_in s Cx + 65535) % 65536 in
    after_jump_if (also && not (left == 0)) target (with_word_in s Cx left)

-- the state after a jump to the word in the code segment at a register plus an offset
abbrev pub table_step : Reg → ℕ → State → State
table_step r offset s = after_jump (word_at_offset s (code_segment s) ((word_in s r + offset) % 65536)) s

-- the offset of the next instruction is pushed
abbrev pub call_step : ℕ → State → State
call_step target s = after_jump target (after_push s.ip s)

-- the state after a return to the word at the top of the stack; that word and `count` further bytes are removed
abbrev pub ret_step : ℕ → State → State
ret_step count s = after_jump (top_word s) (with_sp_raised (2 + count) s)

-- Operations without operands. CLI, STI and CLD have no effect on what is modelled.

abbrev pub with_carry : Bool → State → State
with_carry carry s = with_flags (record s.flags { cf = carry }) s

-- CLI, STI or CLD
abbrev pub is_control : Plain → Bool
is_control Cli = true
is_control Sti = true
is_control Cld = true
is_control operation = false

abbrev pub plain_step : Plain → State → State
plain_step Nop s = s
plain_step Cbw s = with_word_in s Ax (sign_extension_of (half_of_word Low (word_in s Ax)))
plain_step Cwd s = with_word_in s Dx (extension_of word_width (word_in s Ax))
plain_step Xlat s =
    with_al (byte_in s (data_segment s) ((word_in s Bx + half_of_word Low (word_in s Ax)) % 65536)) s
plain_step Clc s = with_carry false s
plain_step Stc s = with_carry true s
plain_step Cmc s = with_carry (not s.flags.cf) s
plain_step Cli s = s
plain_step Sti s = s
plain_step Cld s = s
