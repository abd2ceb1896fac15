-- Steps keep what holds of each state.
use Rattle.std.proofs.Common.{◌≡◌, ℕ, zero, suc, ◌+◌, ◌-◌, ◌*◌, ◌/◌, ◌%◌, ◌<◌, Bool, true, false, List, [], ◌∷◌, length, get_or, set, Option, Some, None, refl, sym, ap, ◌∙◌, subst, arith, length-set}
use Rattle.std.specs.Prelude.{not, slice_index, slice_set, if◌then◌else◌, IfSome}
use Rattle.dcc_run.specs.End.{is_over}
use Rattle.dcc_num.specs.declared.Width.{Width}
use Rattle.dcc_num.specs.declared.Width.TheVariants.{Byte as byte_width, Word as word_width}
use Rattle.dcc_num.specs.declared.Reg.{Reg}
use Rattle.dcc_num.specs.declared.Reg.TheVariants.{Ax, Cx, Dx, Sp, Bp}
use Rattle.dcc_num.specs.declared.Half.{Half}
use Rattle.dcc_num.specs.declared.Half.TheVariants.{Low, High}
use Rattle.dcc_num.specs.declared.Flags.{Flags}
use Rattle.dcc_num.specs.declared.dos.TheConstants.{END_OF_INPUT}
use Rattle.dcc_num.specs.Numbers.{limit_of}
use Rattle.dcc_num.specs.Product.{signed_product_of}
use Rattle.dcc_machine.specs.declared.cpu.Cpu.{Cpu}
use Rattle.dcc_machine.specs.declared.instr.Plain.{Plain as PlainName}
use Rattle.dcc_machine.specs.declared.instr.Plain.TheVariants.{Nop, Cbw, Cwd, Xlat, Clc, Stc, Cmc, Cli, Sti, Cld}
use Rattle.dcc_machine.specs.declared.instr.Operand.{Operand}
use Rattle.dcc_machine.specs.declared.instr.Operand.TheVariants.{Word, Byte, Seg, Mem, Const}
use Rattle.dcc_machine.specs.declared.instr.Op.{Op}
use Rattle.dcc_machine.specs.declared.instr.Op.TheVariants.{Alu, Unary, Shift, Mov, Xchg, Lea, Imul3, Push, Pop, Enter, Leave, Plain, Jump, Branch, Loop, LoopE, LoopNe, Jcxz, Table, Call, Ret, Int21}
use Rattle.dcc_machine.specs.declared.instr.Instr.{Instr}
use Rattle.dcc_machine.specs.Table.{instruction_at}
use Rattle.dcc_machine.specs.Machine.{State, reg_number, word_in, with_word_in, half_of_word, word_with_half, stack_segment, physical, byte_in, word_at_offset, with_byte_in, with_word_at_offset, offset_of, segment_of, operand_value, operand_width, with_operand}
use Rattle.dcc_machine.specs.Operations.{with_flags, with_result, with_al, accumulator_in, upper_in, with_product, count_in, shift_result, after_push, top_word, with_sp_raised}
use Rattle.dcc_machine.specs.Dos.{dos_step, with_key}
use Rattle.dcc_machine.specs.Step.{code_bytes, op_step, instruction_step, step, loop_step}
use Rattle.dcc_machine.specs.WellFormed.{IsOperand, IsOperation}
use Rattle.dcc_machine.specs.Writes.{writes_operand}
use Rattle.dcc_machine.specs.StateForm.{IsState, StepsKeepStates}
use Rattle.dcc_machine.proofs.WellFormedLaws.{AreBytes, found-operation}
use Rattle.dcc_machine.proofs.OperationForms.{alu_result, alu_written, alu-form, Outcome, in_operand, in_pair, in_fault, unary_outcome, outcome_step, unary-form}
use Rattle.dcc_machine.proofs.DosLaws.{calls-leave}
use Rattle.dcc_machine.proofs.ResultBounds.{alu-below, shift-below, OutcomeFits, outcome-fits, signed_product-below, extension-below, sign_extension-below}

-- Places of a state.

-- an element is replaced by one that is below a bound, as the others are
pub set-below : (xs : List ℕ) (i v j n : ℕ) → v < n → get_or xs j 0 < n → get_or (set xs i v) j 0 < n
set-below [] i v j n p q = q
set-below (x ∷ xs) zero v zero n p q = p
set-below (x ∷ xs) zero v (suc j) n p q = q
set-below (x ∷ xs) (suc i) v zero n p q = q
set-below (x ∷ xs) (suc i) v (suc j) n p q = set-below xs i v j n p q

-- a state whose registers, memory and input are those of another one
pub same-state :
    (s t : State) → t.regs ≡ s.regs → t.segs ≡ s.segs → t.memory ≡ s.memory → t.input ≡ s.input → IsState s → IsState t
same-state s t regs segs memory input form = record {
  registers = record {
    count = ap length regs ∙ form.registers.count;
    words = λ r. subst (λ (l : List ℕ). slice_index l (reg_number r) < 65536) (sym regs) (form.registers.words r);
  };
  segment_count = ap length segs ∙ form.segment_count;
  segments = λ number. subst (λ (l : List ℕ). slice_index l number < 65536) (sym segs) (form.segments number);
  memory_size = ap length memory ∙ form.memory_size;
  memory = λ address. subst (λ (l : List ℕ). slice_index l address < 256) (sym memory) (form.memory address);
  input = λ k. subst (λ (l : List ℕ). slice_index l k < 256) (sym input) (form.input k);
}

pub word-state : (s : State) (r : Reg) (v : ℕ) → v < 65536 → IsState s → IsState (with_word_in s r v)
word-state s r v fits form = record {
  registers = record {
    count = length-set s.regs (reg_number r) v ∙ form.registers.count;
    words = λ q. set-below s.regs (reg_number r) v (reg_number q) 65536 fits (form.registers.words q);
  };
  segment_count = form.segment_count;
  segments = form.segments;
  memory_size = form.memory_size;
  memory = form.memory;
  input = form.input;
}

segment-state :
    (s : State) (number v : ℕ) → v < 65536 → IsState s → IsState (record s { segs = slice_set s.segs number v })
segment-state s number v fits form = record {
  registers = record { count = form.registers.count; words = form.registers.words };
  segment_count = length-set s.segs number v ∙ form.segment_count;
  segments = λ k. set-below s.segs number v k 65536 fits (form.segments k);
  memory_size = form.memory_size;
  memory = form.memory;
  input = form.input;
}

byte-state :
    (s : State) (address byte : ℕ) → byte < 256 → IsState s
    → IsState (record s { memory = slice_set s.memory address byte })
byte-state s address byte fits form = record {
  registers = record { count = form.registers.count; words = form.registers.words };
  segment_count = form.segment_count;
  segments = form.segments;
  memory_size = length-set s.memory address byte ∙ form.memory_size;
  memory = λ k. set-below s.memory address byte k 256 fits (form.memory k);
  input = form.input;
}

two_bytes-state :
    (s : State) (segment offset word : ℕ) → word < 65536 → IsState s
    → IsState (with_word_at_offset s segment offset word)
two_bytes-state s segment offset word fits form =
    let low : word % 256 < 256 = omega arith in
    let high : word / 256 < 256 = omega arith in
    byte-state (with_byte_in s segment offset (word % 256)) (physical segment ((offset + 1) % 65536)) (word / 256) high
    (byte-state s (physical segment offset) (word % 256) low form)

-- Values.

half-below : (half : Half) (word : ℕ) → word < 65536 → half_of_word half word < 256
half-below Low word fits = omega arith
half-below High word fits = omega arith

pub word-at-below : (s : State) (segment offset : ℕ) → IsState s → word_at_offset s segment offset < 65536
word-at-below s segment offset form =
    let low : byte_in s segment offset < 256 = form.memory (physical segment offset) in
    let high : byte_in s segment ((offset + 1) % 65536) < 256 = form.memory (physical segment ((offset + 1) % 65536)) in
    omega arith

-- what a well-formed operand holds fits its width
pub value-fits : (s : State) (x : Operand) → IsOperand x → IsState s → operand_value s x < limit_of (operand_width x)
value-fits s (Word r) good form = form.registers.words r
value-fits s (Byte r half) good form = half-below half (word_in s r) (form.registers.words r)
value-fits s (Seg number) good form = form.segments number
value-fits s (Mem byte_width ea) good form = form.memory (physical (segment_of s ea) (offset_of s ea))
value-fits s (Mem word_width ea) good form = word-at-below s (segment_of s ea) (offset_of s ea) form
value-fits s (Const width constant) good form = good

joined-below : (half : Half) (word byte : ℕ) → word < 65536 → byte < 256 → word_with_half half word byte < 65536
joined-below Low word byte p q = omega arith
joined-below High word byte p q = omega arith

pub half-state :
    (s : State) (r : Reg) (half : Half) (byte : ℕ) → byte < 256 → IsState s
    → IsState (with_word_in s r (word_with_half half (word_in s r) byte))
half-state s r half byte fits form =
    word-state s r _ (joined-below half (word_in s r) byte (form.registers.words r) fits) form

pub operand-state :
    (x : Operand) (v : ℕ) (s : State) → v < limit_of (operand_width x) → IsState s → IsState (with_operand s x v)
operand-state (Word r) v s fits form = word-state s r v fits form
operand-state (Byte r half) v s fits form = half-state s r half v fits form
operand-state (Seg number) v s fits form = segment-state s number v fits form
operand-state (Mem byte_width ea) v s fits form = byte-state s (physical (segment_of s ea) (offset_of s ea)) v fits form
operand-state (Mem word_width ea) v s fits form = two_bytes-state s (segment_of s ea) (offset_of s ea) v fits form
operand-state (Const width constant) v s fits form = form

flags-state : (s : State) (flags : Flags) → IsState s → IsState (with_flags flags s)
flags-state s flags form = same-state s (with_flags flags s) refl refl refl refl form

result-state :
    (x : Operand) (result : ℕ × Flags) (s : State) → result.0 < limit_of (operand_width x) → IsState s
    → IsState (with_result x result s)
result-state x result s fits form = operand-state x result.0 (with_flags result.1 s) fits (flags-state s result.1 form)

-- Operations.

written-state :
    (so : Bool) (x : Operand) (result : ℕ × Flags) (s : State) → result.0 < limit_of (operand_width x) → IsState s
    → IsState (alu_written so x result s)
written-state true x result s fits form = result-state x result s fits form
written-state false x result s fits form = flags-state s result.1 form

pair-below : (low high : ℕ) → low < 256 → high < 256 → high * 256 + low < 65536
pair-below low high p q = omega arith

pair-state :
    (w : Width) (pair : ℕ × ℕ × Flags) (s : State) → OutcomeFits w (in_pair pair) → IsState s
    → IsState (with_product w pair s)
pair-state byte_width pair s fits form =
    word-state (with_flags pair.2 s) Ax (pair.1 * 256 + pair.0) (pair-below pair.0 pair.1 fits.0 fits.1)
    (flags-state s pair.2 form)
pair-state word_width pair s fits form =
    let t = with_flags pair.2 s in
    word-state (with_word_in t Ax pair.0) Dx pair.1 fits.1 (word-state t Ax pair.0 fits.0 (flags-state s pair.2 form))

outcome-state :
    (outcome : Outcome) (x : Operand) (at : ℕ) (s : State) → OutcomeFits (operand_width x) outcome → IsState s
    → IsState (outcome_step outcome (operand_width x) x at s)
outcome-state (in_operand result) x at s fits form = result-state x result s fits form
outcome-state (in_pair pair) x at s fits form = pair-state (operand_width x) pair s fits form
outcome-state in_fault x at s fits form = same-state s _ refl refl refl refl form

pub accumulator-below : (w : Width) (s : State) → IsState s → accumulator_in w s < limit_of w
accumulator-below byte_width s form = half-below Low (word_in s Ax) (form.registers.words Ax)
accumulator-below word_width s form = form.registers.words Ax

pub raised-state : (count : ℕ) (s : State) → IsState s → IsState (with_sp_raised count s)
raised-state count s form =
    let fits : (word_in s Sp + count) % 65536 < 65536 = omega arith in
    word-state s Sp ((word_in s Sp + count) % 65536) fits form

pub pushed-state : (word : ℕ) (s : State) → word < 65536 → IsState s → IsState (after_push word s)
pushed-state word s fits form =
    let t = with_sp_raised 65534 s in
    two_bytes-state t (stack_segment t) (word_in t Sp) word fits (raised-state 65534 s form)

pub top-below : (s : State) → IsState s → top_word s < 65536
top-below s form = word-at-below s (stack_segment s) (word_in s Sp) form

-- a word to an operand of 16 bits
word-operand : (x : Operand) (v : ℕ) → operand_width x ≡ word_width → v < 65536 → v < limit_of (operand_width x)
word-operand x v width fits = subst (λ w. v < limit_of w) (sym width) fits

pub of_width : (w v : Width) (a : ℕ) → w ≡ v → a < limit_of w → a < limit_of v
of_width w v a e fits = subst (λ (u : Width). a < limit_of u) e fits

plain-state :
    (operation : PlainName) (cpu : Cpu) (at : ℕ) (s : State) → IsState s → IsState (op_step cpu (Plain operation) at s)
plain-state Nop cpu at s form = form
plain-state Cbw cpu at s form = word-state s Ax _ (sign_extension-below (half_of_word Low (word_in s Ax))) form
plain-state Cwd cpu at s form = word-state s Dx _ (extension-below word_width (word_in s Ax)) form
plain-state Xlat cpu at s form = half-state s Ax Low _ (form.memory _) form
plain-state Clc cpu at s form = flags-state s _ form
plain-state Stc cpu at s form = flags-state s _ form
plain-state Cmc cpu at s form = flags-state s _ form
plain-state Cli cpu at s form = form
plain-state Sti cpu at s form = form
plain-state Cld cpu at s form = form

loop-state : (also : Bool) (target : ℕ) (s : State) → IsState s → IsState (loop_step also target s)
loop-state also target s form =
    let left = (word_in s Cx + 65535) % 65536 in
    let fits : left < 65536 = omega arith in
    same-state (with_word_in s Cx left) (loop_step also target s) refl refl refl refl (word-state s Cx left fits form)

-- DOS calls.

key-state :
    (echo : Bool) (input : List ℕ) (s : State) → ((k : ℕ) → slice_index input k < 256) → IsState s
    → IsState (with_key echo input s)
key-state echo [] s bytes form =
    let fits : END_OF_INPUT < 256 = omega arith in
    same-state (with_al END_OF_INPUT s) (with_key echo [] s) refl refl refl refl
    (half-state s Ax Low END_OF_INPUT fits form)
key-state echo (byte ∷ rest) s bytes form =
    let left : State = record s { input = rest } in
    let taken : IsState left = record {
      registers = record { count = form.registers.count; words = form.registers.words };
      segment_count = form.segment_count;
      segments = form.segments;
      memory_size = form.memory_size;
      memory = form.memory;
      input = λ k. bytes (suc k);
    } in
    same-state (with_al byte left) (with_key echo (byte ∷ rest) s) refl refl refl refl
    (half-state left Ax Low byte (bytes 0) taken)

-- one of two states
chosen-state : (so : Bool) (s t : State) → IsState s → IsState t → IsState (if so then s else t)
chosen-state true s t p q = p
chosen-state false s t p q = q

dos-state : (number at : ℕ) (s : State) → IsState s → IsState (dos_step number at s)
dos-state number at s form =
    calls-leave IsState number at s (same-state s _ refl refl refl refl form) (same-state s _ refl refl refl refl form)
    (λ echo. key-state echo s.input s form.input form) (same-state s _ refl refl refl refl form)
    (same-state s _ refl refl refl refl form)

-- All operations.

op-state :
    (cpu : Cpu) (op : Op) (at : ℕ) (s : State) → IsOperation op → s.ip < 65536 → IsState s
    → IsState (op_step cpu op at s)
op-state cpu (Alu operation a b) at s good ip form =
    let w = operand_width a in
    let va = operand_value s a in
    let vb = operand_value s b in
    let fits = alu-below operation w va vb s.flags.cf (value-fits s a good.first form)
    (of_width (operand_width b) w vb (sym good.widths) (value-fits s b good.second form)) in
    subst IsState (sym (alu-form operation w a va vb s))
    (written-state (writes_operand operation) a (alu_result operation w va vb s.flags.cf) s fits form)
op-state cpu (Unary operation a) at s good ip form =
    let w = operand_width a in
    let v = operand_value s a in
    let outcome = unary_outcome operation w (accumulator_in w s) (upper_in w s) v s.flags in
    subst IsState (sym (unary-form operation w a v at s))
    (outcome-state outcome a at s
    (outcome-fits operation w (accumulator_in w s) (upper_in w s) v s.flags (accumulator-below w s form)
    (value-fits s a good form)) form)
op-state cpu (Shift operation a count) at s good ip form =
    let w = operand_width a in
    let v = operand_value s a in
    let n = count_in cpu count s in
    result-state a (shift_result operation w v n s.flags) s
    (shift-below operation w v n s.flags (value-fits s a good.operand form)) form
op-state cpu (Mov to from) at s good ip form =
    operand-state to (operand_value s from) s
    (of_width (operand_width from) (operand_width to) _ (sym good.widths) (value-fits s from good.second form)) form
op-state cpu (Xchg a b) at s good ip form =
    let first = of_width (operand_width b) (operand_width a) _ (sym good.widths) (value-fits s b good.second form) in
    let second = of_width (operand_width a) (operand_width b) _ good.widths (value-fits s a good.first form) in
    operand-state b (operand_value s a) (with_operand s a (operand_value s b)) second
    (operand-state a (operand_value s b) s first form)
op-state cpu (Lea r ea) at s good ip form =
    let fits : offset_of s ea < 65536 = omega arith in
    word-state s r (offset_of s ea) fits form
op-state cpu (Imul3 r a constant) at s good ip form =
    let product = signed_product_of word_width (operand_value s a) constant in
    word-state (with_flags product.2 s) r product.0 (signed_product-below word_width (operand_value s a) constant).0
    (flags-state s product.2 form)
op-state cpu (Push a) at s good ip form =
    pushed-state (operand_value s a) s
    (of_width (operand_width a) word_width _ good.width (value-fits s a good.operand form)) form
op-state cpu (Pop a) at s good ip form =
    operand-state a (top_word s) (with_sp_raised 2 s) (word-operand a (top_word s) good.width (top-below s form))
    (raised-state 2 s form)
op-state cpu (Enter count) at s good ip form =
    let t = after_push (word_in s Bp) s in
    let pushed = pushed-state (word_in s Bp) s (form.registers.words Bp) form in
    raised-state (65536 - count) (with_word_in t Bp (word_in t Sp))
    (word-state t Bp (word_in t Sp) (pushed.registers.words Sp) pushed)
op-state cpu Leave at s good ip form =
    let t = with_word_in s Sp (word_in s Bp) in
    let moved = word-state s Sp (word_in s Bp) (form.registers.words Bp) form in
    word-state (with_sp_raised 2 t) Bp (top_word t) (top-below t moved) (raised-state 2 t moved)
op-state cpu (Plain operation) at s good ip form = plain-state operation cpu at s form
op-state cpu (Jump target) at s good ip form = same-state s _ refl refl refl refl form
op-state cpu (Branch condition target) at s good ip form = same-state s _ refl refl refl refl form
op-state cpu (Loop target) at s good ip form = loop-state true target s form
op-state cpu (LoopE target) at s good ip form = loop-state s.flags.zf target s form
op-state cpu (LoopNe target) at s good ip form = loop-state (not s.flags.zf) target s form
op-state cpu (Jcxz target) at s good ip form = same-state s _ refl refl refl refl form
op-state cpu (Table r offset) at s good ip form = same-state s _ refl refl refl refl form
op-state cpu (Call target) at s good ip form =
    same-state (after_push s.ip s) _ refl refl refl refl (pushed-state s.ip s ip form)
op-state cpu (Ret count) at s good ip form =
    same-state (with_sp_raised (2 + count) s) _ refl refl refl refl (raised-state (2 + count) s form)
op-state cpu Int21 at s good ip form = dos-state (word_in s Ax / 256) at s form

-- Steps.

pub code-bytes : (s : State) → IsState s → AreBytes (code_bytes s)
code-bytes s form zero = form.memory _
code-bytes s form (suc zero) = form.memory _
code-bytes s form (suc (suc zero)) = form.memory _
code-bytes s form (suc (suc (suc zero))) = form.memory _
code-bytes s form (suc (suc (suc (suc zero)))) = form.memory _
code-bytes s form (suc (suc (suc (suc (suc zero))))) = form.memory _
code-bytes s form (suc (suc (suc (suc (suc (suc k)))))) = omega arith

found-state :
    (cpu : Cpu) (found : Option Instr) (s : State) → IfSome found (λ instr. IsOperation instr.op) → IsState s
    → IsState (instruction_step cpu found s)
found-state cpu None s good form = same-state s _ refl refl refl refl form
found-state cpu (Some instr) s good form =
    let next : State = record s { ip = (s.ip + instr.len) % 65536 } in
    let low : next.ip < 65536 = omega arith in
    op-state cpu instr.op s.ip next good low (same-state s next refl refl refl refl form)

step-state : (cpu : Cpu) (s : State) → IsState s → IsState (step cpu s)
step-state cpu s form =
    let found = instruction_at cpu s.ip (code_bytes s) in
    chosen-state (is_over s.end) s (instruction_step cpu found s) form
    (found-state cpu found s (found-operation cpu s.ip (code_bytes s) found (code-bytes s form) refl) form)

pub states-kept : StepsKeepStates
states-kept = record { operation = op-state; step = step-state }
