-- Steps of procedures leave the segment registers: of the table's instructions MOV alone has one as an operand.
use Rattle.std.proofs.Common.{◌≡◌, ℕ, ◌/◌, ◌%◌, Bool, true, false, List, [], ◌∷◌, Some, refl, ap, ◌∙◌}
use Rattle.std.specs.Prelude.{◌==◌, if◌then◌else◌}
use Rattle.dcc_run.specs.End.{Exit, Outside}
use Rattle.dcc_num.specs.declared.Width.{Width}
use Rattle.dcc_num.specs.declared.Width.TheVariants.{Byte as byte_width, Word as word_width}
use Rattle.dcc_num.specs.declared.Reg.TheVariants.{Ax, Dx}
use Rattle.dcc_num.specs.declared.Flags.{Flags}
use Rattle.dcc_num.specs.declared.dos.TheConstants.{GETCHE, PUTC, GETCH, PUTS, EXIT}
use Rattle.dcc_machine.specs.declared.cpu.Cpu.{Cpu}
use Rattle.dcc_machine.specs.declared.instr.Plain.{Plain as PlainName}
use Rattle.dcc_machine.specs.declared.instr.Plain.TheVariants.{Nop, Cbw, Cwd, Xlat, Clc, Stc, Cmc, Cli, Sti, Cld}
use Rattle.dcc_machine.specs.declared.instr.Operand.{Operand}
use Rattle.dcc_machine.specs.declared.instr.Operand.TheVariants.{Word, Byte, Seg, Mem, Const}
use Rattle.dcc_machine.specs.declared.instr.Op.{Op}
use Rattle.dcc_machine.specs.declared.instr.Op.TheVariants.{Alu, Unary, Shift, Mov, Xchg, Lea, Imul3, Push, Pop, Enter, Leave, Plain, Jump, Branch, Loop, LoopE, LoopNe, Jcxz, Table, Call, Ret, Int21}
use Rattle.dcc_machine.specs.declared.instr.Instr.{Instr}
use Rattle.dcc_machine.specs.Machine.{State, word_in, operand_value, operand_width, with_operand, is_segment}
use Rattle.dcc_machine.specs.Operands.{register, rm_operand, mod_field, reg_field, address, width_of}
use Rattle.dcc_machine.specs.Table.{Parts, instruction_at, rm, rm8, rm16, reg, accumulator, destination}
use Rattle.dcc_machine.specs.Operations.{with_end, with_flags, accumulator_in, upper_in, with_product, count_in, shift_result, top_word, with_sp_raised}
use Rattle.dcc_machine.specs.Dos.{dos_step, dos_string, with_key, key_step, after_write}
use Rattle.dcc_machine.specs.Step.{op_step}
use Rattle.dcc_machine.specs.Writes.{writes_operand}
use Rattle.dcc_prog.specs.Construct.{is_system}
use Rattle.dcc_machine.proofs.OperationForms.{alu_result, alu_written, alu-form, Outcome, in_operand, in_pair, in_fault, unary_outcome, outcome_step, unary-form}
use Rattle.dcc_machine.proofs.DosLaws.{calls-leave}
use Rattle.dcc_machine.proofs.LocationKept.{or-none}
use Rattle.dcc_stack.proofs.Rows.{each-instruction}

-- no operand that the operation may write is a segment register
abbrev pub WritesNoSegment : Op → Type 0
WritesNoSegment (Alu operation a b) = is_segment a ≡ false
WritesNoSegment (Unary operation a) = is_segment a ≡ false
WritesNoSegment (Shift operation a count) = is_segment a ≡ false
WritesNoSegment (Mov to from) = is_segment to ≡ false
WritesNoSegment (Xchg a b) = (is_segment a ≡ false) × (is_segment b ≡ false)
WritesNoSegment (Pop a) = is_segment a ≡ false
WritesNoSegment op = Unit {0}

-- Steps.

operand-segs : (x : Operand) (v : ℕ) (s : State) → is_segment x ≡ false → (with_operand s x v).segs ≡ s.segs
operand-segs (Word r) v s other = refl
operand-segs (Byte r half) v s other = refl
operand-segs (Seg number) v s other = cc
operand-segs (Mem byte_width ea) v s other = refl
operand-segs (Mem word_width ea) v s other = refl
operand-segs (Const width constant) v s other = refl

written-segs :
    (so : Bool) (x : Operand) (result : ℕ × Flags) (s : State) → is_segment x ≡ false
    → (alu_written so x result s).segs ≡ s.segs
written-segs true x result s other = operand-segs x result.0 (with_flags result.1 s) other
written-segs false x result s other = refl

pair-segs : (w : Width) (product : ℕ × ℕ × Flags) (s : State) → (with_product w product s).segs ≡ s.segs
pair-segs byte_width product s = refl
pair-segs word_width product s = refl

outcome-segs :
    (outcome : Outcome) (w : Width) (x : Operand) (at : ℕ) (s : State) → is_segment x ≡ false
    → (outcome_step outcome w x at s).segs ≡ s.segs
outcome-segs (in_operand result) w x at s other = operand-segs x result.0 (with_flags result.1 s) other
outcome-segs (in_pair pair) w x at s other = pair-segs w pair s
outcome-segs in_fault w x at s other = refl

plain-segs :
    (operation : PlainName) (cpu : Cpu) (at : ℕ) (s : State)
    → (op_step cpu (Plain operation) at s).segs ≡ s.segs
plain-segs Nop cpu at s = refl
plain-segs Cbw cpu at s = refl
plain-segs Cwd cpu at s = refl
plain-segs Xlat cpu at s = refl
plain-segs Clc cpu at s = refl
plain-segs Stc cpu at s = refl
plain-segs Cmc cpu at s = refl
plain-segs Cli cpu at s = refl
plain-segs Sti cpu at s = refl
plain-segs Cld cpu at s = refl

key-segs : (echo : Bool) (input : List ℕ) (s : State) → (with_key echo input s).segs ≡ s.segs
key-segs echo [] s = refl
key-segs echo (byte ∷ rest) s = refl

dos-segs : (number at : ℕ) (s : State) → (dos_step number at s).segs ≡ s.segs
dos-segs number at s =
    calls-leave (λ t. t.segs ≡ s.segs) number at s refl refl (λ echo. key-segs echo s.input s) refl refl

pub op-segs : (cpu : Cpu) (op : Op) (at : ℕ) (s : State) → WritesNoSegment op → (op_step cpu op at s).segs ≡ s.segs
op-segs cpu (Alu operation a b) at s other =
    let w = operand_width a in
    let va = operand_value s a in
    let vb = operand_value s b in
    ap (λ t. t.segs) (alu-form operation w a va vb s)
    ∙ written-segs (writes_operand operation) a (alu_result operation w va vb s.flags.cf) s other
op-segs cpu (Unary operation a) at s other =
    let w = operand_width a in
    let v = operand_value s a in
    ap (λ t. t.segs) (unary-form operation w a v at s)
    ∙ outcome-segs (unary_outcome operation w (accumulator_in w s) (upper_in w s) v s.flags) w a at s other
op-segs cpu (Shift operation a count) at s other =
    let result = shift_result operation (operand_width a) (operand_value s a) (count_in cpu count s) s.flags in
    operand-segs a result.0 (with_flags result.1 s) other
op-segs cpu (Mov to from) at s other = operand-segs to (operand_value s from) s other
op-segs cpu (Xchg a b) at s other =
    operand-segs b (operand_value s a) (with_operand s a (operand_value s b)) other.1
    ∙ operand-segs a (operand_value s b) s other.0
op-segs cpu (Lea r ea) at s other = refl
op-segs cpu (Imul3 r a constant) at s other = refl
op-segs cpu (Push a) at s other = refl
op-segs cpu (Pop a) at s other = operand-segs a (top_word s) (with_sp_raised 2 s) other
op-segs cpu (Enter count) at s other = refl
op-segs cpu Leave at s other = refl
op-segs cpu (Plain operation) at s other = plain-segs operation cpu at s
op-segs cpu (Jump target) at s other = refl
op-segs cpu (Branch condition target) at s other = refl
op-segs cpu (Loop target) at s other = refl
op-segs cpu (LoopE target) at s other = refl
op-segs cpu (LoopNe target) at s other = refl
op-segs cpu (Jcxz target) at s other = refl
op-segs cpu (Table r offset) at s other = refl
op-segs cpu (Call target) at s other = refl
op-segs cpu (Ret count) at s other = refl
op-segs cpu Int21 at s other = dos-segs (word_in s Ax / 256) at s

-- The table.

register-none : (w : Width) (number : ℕ) → is_segment (register w number) ≡ false
register-none byte_width number = refl
register-none word_width number = refl

rm-none : (w : Width) (modrm displacement : ℕ) → is_segment (rm_operand w modrm displacement) ≡ false
rm-none w modrm displacement =
    elim (mod_field modrm == 3) as (λ b.
    is_segment (if b then register w (modrm % 8) else Mem w (address modrm displacement)) ≡ false) [
      | true ↦ register-none w (modrm % 8)
      | false ↦ refl
    ]

of_rm : (p : Parts) → is_segment (rm p) ≡ false
of_rm p = rm-none (width_of p.opcode) p.modrm p.displacement

of_rm8 : (p : Parts) → is_segment (rm8 p) ≡ false
of_rm8 p = rm-none byte_width p.modrm p.displacement

of_rm16 : (p : Parts) → is_segment (rm16 p) ≡ false
of_rm16 p = rm-none word_width p.modrm p.displacement

of_reg : (p : Parts) → is_segment (reg p) ≡ false
of_reg p = register-none (width_of p.opcode) (reg_field p.modrm)

of_accumulator : (p : Parts) → is_segment (accumulator p) ≡ false
of_accumulator p = register-none (width_of p.opcode) 0

of_destination : (p : Parts) → is_segment (destination p) ≡ false
of_destination p =
    elim (p.opcode / 2 % 2 == 1) as (λ b. is_segment (if b then reg p else rm p) ≡ false) [
      | true ↦ of_reg p
      | false ↦ of_rm p
    ]

abbrev IsSpared : Op → Type 0
IsSpared op = is_system op ≡ false → WritesNoSegment op

mov-spared : (to from : Operand) → IsSpared (Mov to from)
mov-spared to from other = (or-none (is_segment to) (is_segment from) other).0

-- an instruction of the table that is none of the prelude's kind writes no segment register
pub instruction-spared :
    (cpu : Cpu) (at : ℕ) (bytes : List ℕ) (instr : Instr) → instruction_at cpu at bytes ≡ Some instr
    → is_system instr.op ≡ false → WritesNoSegment instr.op
instruction-spared = each-instruction IsSpared (record {
  arithmetic = search (of_rm, of_rm8, of_rm16, of_accumulator, of_destination);
  unary = search of_rm;
  stack = search of_rm16;
  move = search (of_rm, of_reg, mov-spared);
  control = search tt;
  plain = search tt;
  later = search of_rm;
})
