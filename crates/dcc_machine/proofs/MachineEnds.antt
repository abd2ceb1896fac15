-- The machine ends by an exit code, a divide fault or an instruction without a row, and in no other way.
use Rattle.std.proofs.Common.{◌≡◌, ◌≢◌, ℕ, zero, suc, ◌%◌, ◌/◌, ◌+◌, Bool, true, false, List, [], ◌∷◌, Option, Some, None, refl, sym, ◌∙◌, subst}
use Rattle.std.specs.Prelude.{◌==◌, if◌then◌else◌}
use Rattle.dcc_run.specs.End.{End, Exit, Outside, Stuck, is_over}
use Rattle.dcc_run.specs.System.{end_after}
use Rattle.dcc_num.specs.declared.Width.{Width}
use Rattle.dcc_num.specs.declared.Width.TheVariants.{Byte as byte_width, Word as word_width}
use Rattle.dcc_num.specs.declared.Reg.TheVariants.{Ax, Dx}
use Rattle.dcc_num.specs.Numbers.{no_flags}
use Rattle.dcc_machine.specs.declared.cpu.Cpu.{Cpu}
use Rattle.dcc_machine.specs.declared.image.Image.{Image}
use Rattle.dcc_machine.specs.declared.instr.Alu.{Alu as AluName}
use Rattle.dcc_machine.specs.declared.instr.Alu.TheVariants.{Add, Or, Adc, Sbb, And, Sub, Xor, Cmp, Test}
use Rattle.dcc_machine.specs.declared.instr.Unary.{Unary as UnaryName}
use Rattle.dcc_machine.specs.declared.instr.Unary.TheVariants.{Inc, Dec, Neg, Not, Mul, Imul, Div, Idiv}
use Rattle.dcc_machine.specs.declared.instr.Plain.{Plain as PlainName}
use Rattle.dcc_machine.specs.declared.instr.Plain.TheVariants.{Nop, Cbw, Cwd, Xlat, Clc, Stc, Cmc, Cli, Sti, Cld}
use Rattle.dcc_machine.specs.declared.instr.Operand.{Operand}
use Rattle.dcc_machine.specs.declared.instr.Operand.TheVariants.{Word, Byte, Seg, Mem, Const}
use Rattle.dcc_machine.specs.declared.instr.Op.{Op}
use Rattle.dcc_machine.specs.declared.instr.Op.TheVariants.{Alu, Unary, Shift, Mov, Xchg, Lea, Imul3, Push, Pop, Enter, Leave, Plain, Jump, Branch, Loop, LoopE, LoopNe, Jcxz, Table, Call, Ret, Int21}
use Rattle.dcc_machine.specs.declared.instr.Instr.{Instr}
use Rattle.dcc_machine.specs.Table.{instruction_at}
use Rattle.dcc_machine.specs.Machine.{State, word_in, operand_value, operand_width, with_operand, start_state}
use Rattle.dcc_machine.specs.Operations.{with_end, with_flags, with_pair, with_division, alu_step, unary_step, plain_step, with_sp_raised, top_word}
use Rattle.dcc_machine.specs.Dos.{dos_string, after_write, with_key, key_step, dos_step}
use Rattle.dcc_machine.specs.Step.{code_bytes, op_step, instruction_step, step, machine_system}

-- an end of the machine
abbrev pub IsMachineEnd : End → Type 0
IsMachineEnd (Stuck line) = ⊥
IsMachineEnd end = Unit {0}

operand-end : (s : State) (x : Operand) (v : ℕ) → (with_operand s x v).end ≡ s.end
operand-end s (Word r) v = refl
operand-end s (Byte r half) v = refl
operand-end s (Seg n) v = refl
operand-end s (Mem byte_width ea) v = refl
operand-end s (Mem word_width ea) v = refl
operand-end s (Const width c) v = refl

alu-end : (operation : AluName) (w : Width) (x : Operand) (a b : ℕ) (s : State) → (alu_step operation w x a b s).end ≡ s.end
alu-end Add w x a b s = operand-end _ x _
alu-end Or w x a b s = operand-end _ x _
alu-end Adc w x a b s = operand-end _ x _
alu-end Sbb w x a b s = operand-end _ x _
alu-end And w x a b s = operand-end _ x _
alu-end Sub w x a b s = operand-end _ x _
alu-end Xor w x a b s = operand-end _ x _
alu-end Cmp w x a b s = refl
alu-end Test w x a b s = refl

pair-end : (w : Width) (low high : ℕ) (s : State) → (with_pair w low high s).end ≡ s.end
pair-end byte_width low high s = refl
pair-end word_width low high s = refl

-- a step keeps the end, or ends in one of the machine's ways
keeping : {e f : End} → f ≡ e → IsMachineEnd e → IsMachineEnd f
keeping e m = subst IsMachineEnd (sym e) m

division-end : (w : Width) (at : ℕ) (result : Option (ℕ × ℕ)) (s : State) → IsMachineEnd s.end → IsMachineEnd (with_division w at result s).end
division-end w at None s m = tt
division-end w at (Some d) s m = keeping (pair-end w d.0 d.1 (with_flags no_flags s)) m

unary-end : (operation : UnaryName) (w : Width) (x : Operand) (a at : ℕ) (s : State) → IsMachineEnd s.end → IsMachineEnd (unary_step operation w x a at s).end
unary-end Inc w x a at s m = keeping (operand-end _ x _) m
unary-end Dec w x a at s m = keeping (operand-end _ x _) m
unary-end Neg w x a at s m = keeping (operand-end _ x _) m
unary-end Not w x a at s m = keeping (operand-end _ x _) m
unary-end Mul w x a at s m = keeping (pair-end w _ _ _) m
unary-end Imul w x a at s m = keeping (pair-end w _ _ _) m
unary-end Div w x a at s m = division-end w at _ s m
unary-end Idiv w x a at s m = division-end w at _ s m

plain-end : (operation : PlainName) (s : State) → (plain_step operation s).end ≡ s.end
plain-end Nop s = refl
plain-end Cbw s = refl
plain-end Cwd s = refl
plain-end Xlat s = refl
plain-end Clc s = refl
plain-end Stc s = refl
plain-end Cmc s = refl
plain-end Cli s = refl
plain-end Sti s = refl
plain-end Cld s = refl

key-end : (echo : Bool) (input : List ℕ) (s : State) → (with_key echo input s).end ≡ s.end
key-end echo [] s = refl
key-end echo (byte ∷ rest) s = refl

-- one of two states
chosen-end : (b : Bool) (s t : State) → IsMachineEnd s.end → IsMachineEnd t.end → IsMachineEnd (if b then s else t).end
chosen-end true s t m n = m
chosen-end false s t m n = n

dos-end : (number at : ℕ) (s : State) → IsMachineEnd s.end → IsMachineEnd (dos_step number at s).end
dos-end number at s m =
    let last : State = with_end (Outside at) at s in
    let string : State = if number == 0x09 then after_write (dos_string s) s else last in
    let key : State = if number == 0x08 then key_step false s else string in
    let echoed : State = if number == 0x01 then key_step true s else key in
    let leave : State = if number == 0x4C then with_end (Exit (word_in s Ax % 256)) at s else echoed in
    chosen-end (number == 0x02) (after_write (word_in s Dx % 256 ∷ []) s) leave m
    (chosen-end (number == 0x4C) (with_end (Exit (word_in s Ax % 256)) at s) echoed tt
    (chosen-end (number == 0x01) (key_step true s) key (keeping (key-end true s.input s) m)
    (chosen-end (number == 0x08) (key_step false s) string (keeping (key-end false s.input s) m)
    (chosen-end (number == 0x09) (after_write (dos_string s) s) last m tt))))

op-end : (cpu : Cpu) (op : Op) (at : ℕ) (s : State) → IsMachineEnd s.end → IsMachineEnd (op_step cpu op at s).end
op-end cpu (Alu operation x y) at s m = keeping (alu-end operation (operand_width x) x (operand_value s x) (operand_value s y) s) m
op-end cpu (Unary operation x) at s m = unary-end operation (operand_width x) x (operand_value s x) at s m
op-end cpu (Shift operation x count) at s m = keeping (operand-end _ x _) m
op-end cpu (Mov to from) at s m = keeping (operand-end s to _) m
op-end cpu (Xchg x y) at s m = keeping (operand-end _ y _ ∙ operand-end s x _) m
op-end cpu (Lea r ea) at s m = m
op-end cpu (Imul3 r x constant) at s m = m
op-end cpu (Push x) at s m = m
op-end cpu (Pop x) at s m = keeping (operand-end (with_sp_raised 2 s) x (top_word s)) m
op-end cpu (Enter count) at s m = m
op-end cpu Leave at s m = m
op-end cpu (Plain operation) at s m = keeping (plain-end operation s) m
op-end cpu (Jump target) at s m = m
op-end cpu (Branch condition target) at s m = m
op-end cpu (Loop target) at s m = m
op-end cpu (LoopE target) at s m = m
op-end cpu (LoopNe target) at s m = m
op-end cpu (Jcxz target) at s m = m
op-end cpu (Table r offset) at s m = m
op-end cpu (Call target) at s m = m
op-end cpu (Ret count) at s m = m
op-end cpu Int21 at s m = dos-end (word_in s Ax / 256) at s m

instruction-end : (cpu : Cpu) (found : Option Instr) (s : State) → IsMachineEnd s.end → IsMachineEnd (instruction_step cpu found s).end
instruction-end cpu None s m = tt
instruction-end cpu (Some instr) s m = op-end cpu instr.op s.ip (record s { ip = (s.ip + instr.len) % 65536 }) m

step-end : (cpu : Cpu) (s : State) → IsMachineEnd s.end → IsMachineEnd (step cpu s).end
step-end cpu s m =
    let found = instruction_at cpu s.ip (code_bytes s) in
    chosen-end (is_over s.end) s (instruction_step cpu found s) m (instruction-end cpu found s m)

after-end : (cpu : Cpu) (n : ℕ) (s : State) → IsMachineEnd s.end → IsMachineEnd (end_after (machine_system cpu) n s)
after-end cpu zero s m = m
after-end cpu (suc n) s m = after-end cpu n (step cpu s) (step-end cpu s m)

-- no run of the machine is stuck
pub machine-not_stuck :
    (cpu : Cpu) (image : Image) (input : List ℕ) (n line : ℕ)
    → end_after (machine_system cpu) n (start_state image input) ≢ Stuck line
machine-not_stuck cpu image input n line e = subst IsMachineEnd e (after-end cpu n (start_state image input) tt)
