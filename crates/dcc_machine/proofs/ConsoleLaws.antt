-- Every operation but a DOS call leaves the console as it is, whatever stands on it.
use Rattle.std.proofs.Common.{◌≡◌, ◌≢◌, ℕ, ◌+◌, ◌%◌, List, Option, Some, None, refl, ap, ◌∙◌}
use Rattle.dcc_run.specs.Event.{Event}
use Rattle.dcc_num.specs.declared.Width.{Width}
use Rattle.dcc_num.specs.declared.Width.TheVariants.{Byte as byte_width, Word as word_width}
use Rattle.dcc_num.specs.declared.Reg.{Reg}
use Rattle.dcc_num.specs.declared.Flags.{Flags}
use Rattle.dcc_num.specs.Product.{product_of, signed_product_of}
use Rattle.dcc_num.specs.Quotient.{division_of, signed_division_of}
use Rattle.dcc_machine.specs.declared.cpu.Cpu.{Cpu}
use Rattle.dcc_machine.specs.declared.instr.Alu.{Alu as AluKind}
use Rattle.dcc_machine.specs.declared.instr.Alu.TheVariants.{Add, Or, Adc, Sbb, And, Sub, Xor, Cmp, Test}
use Rattle.dcc_machine.specs.declared.instr.Unary.{Unary as UnaryKind}
use Rattle.dcc_machine.specs.declared.instr.Unary.TheVariants.{Inc, Dec, Neg, Not, Mul, Imul, Div, Idiv}
use Rattle.dcc_machine.specs.declared.instr.Shift.{Shift as ShiftKind}
use Rattle.dcc_machine.specs.declared.instr.Count.{Count}
use Rattle.dcc_machine.specs.declared.instr.Count.TheVariants.{One, Cl, Const as ConstCount}
use Rattle.dcc_machine.specs.declared.instr.Plain.{Plain as PlainKind}
use Rattle.dcc_machine.specs.declared.instr.Plain.TheVariants.{Nop, Cbw, Cwd, Xlat, Clc, Stc, Cmc, Cli, Sti, Cld}
use Rattle.dcc_machine.specs.declared.instr.Operand.{Operand}
use Rattle.dcc_machine.specs.declared.instr.Operand.TheVariants.{Word, Byte, Seg, Mem, Const}
use Rattle.dcc_machine.specs.declared.instr.Ea.{Ea}
use Rattle.dcc_machine.specs.declared.instr.Op.{Op}
use Rattle.dcc_machine.specs.declared.instr.Op.TheVariants.{Alu, Unary, Shift, Mov, Xchg, Lea, Imul3, Push, Pop, Enter, Leave, Plain, Jump, Branch, Loop, LoopE, LoopNe, Jcxz, Table, Call, Ret, Int21}
use Rattle.dcc_machine.specs.Machine.{State, part_of, offset_of, segment_of, byte_in, word_at_offset, with_byte_in, with_word_at_offset, operand_value, operand_width, with_operand, with_word_in}
use Rattle.dcc_machine.specs.Operations.{with_flags, with_result, alu_step, accumulator_in, upper_in, with_product, with_division, unary_step, shift_step, count_in, shift_result, after_push, top_word, with_sp_raised, plain_step}
use Rattle.dcc_machine.specs.Step.{op_step}

-- a state with another console
abbrev pub with_console_of : List ℕ → List Event → State → State
with_console_of input events s = record s { input = input; events = events }

-- the function does the same to the rest of the state beside any console, and leaves the console
abbrev pub KeepsConsole : (State → State) → Type 0
KeepsConsole f = (input : List ℕ) (events : List Event) (s : State) → f (with_console_of input events s) ≡ with_console_of input events (f s)

part-keeps : (input : List ℕ) (events : List Event) (s : State) (part : Option Reg) → part_of (with_console_of input events s) part ≡ part_of s part
part-keeps input events s None = refl
part-keeps input events s (Some r) = refl

offset-keeps : (input : List ℕ) (events : List Event) (s : State) (ea : Ea) → offset_of (with_console_of input events s) ea ≡ offset_of s ea
offset-keeps input events s ea =
    ap (λ n. (n + part_of (with_console_of input events s) ea.index + ea.disp) % 65536) (part-keeps input events s ea.base)
    ∙ ap (λ n. (part_of s ea.base + n + ea.disp) % 65536) (part-keeps input events s ea.index)

-- what an operand holds
pub value-keeps : (input : List ℕ) (events : List Event) (s : State) (x : Operand) → operand_value (with_console_of input events s) x ≡ operand_value s x
value-keeps input events s (Word r) = refl
value-keeps input events s (Byte r half) = refl
value-keeps input events s (Seg number) = refl
value-keeps input events s (Mem byte_width ea) = ap (λ n. byte_in s (segment_of s ea) n) (offset-keeps input events s ea)
value-keeps input events s (Mem word_width ea) =
    ap (λ n. word_at_offset s (segment_of s ea) n) (offset-keeps input events s ea)
value-keeps input events s (Const width c) = refl

-- an operand takes a value
pub operand-keeps : (x : Operand) (v : ℕ) → KeepsConsole (λ s. with_operand s x v)
operand-keeps (Word r) v input events s = refl
operand-keeps (Byte r half) v input events s = refl
operand-keeps (Seg number) v input events s = refl
operand-keeps (Mem byte_width ea) v input events s =
    ap (λ n. with_console_of input events (with_byte_in s (segment_of s ea) n v)) (offset-keeps input events s ea)
operand-keeps (Mem word_width ea) v input events s =
    ap (λ n. with_console_of input events (with_word_at_offset s (segment_of s ea) n v)) (offset-keeps input events s ea)
operand-keeps (Const width c) v input events s = refl

result-keeps : (x : Operand) (result : ℕ × Flags) → KeepsConsole (with_result x result)
result-keeps x result input events s = operand-keeps x result.0 input events (with_flags result.1 s)

alu-keeps : (operation : AluKind) (w : Width) (x : Operand) (a b : ℕ) → KeepsConsole (alu_step operation w x a b)
alu-keeps Add w x a b input events s = result-keeps x _ input events s
alu-keeps Or w x a b input events s = result-keeps x _ input events s
alu-keeps Adc w x a b input events s = result-keeps x _ input events s
alu-keeps Sbb w x a b input events s = result-keeps x _ input events s
alu-keeps And w x a b input events s = result-keeps x _ input events s
alu-keeps Sub w x a b input events s = result-keeps x _ input events s
alu-keeps Xor w x a b input events s = result-keeps x _ input events s
alu-keeps Cmp w x a b input events s = refl
alu-keeps Test w x a b input events s = refl

product-keeps : (w : Width) (product : ℕ × ℕ × Flags) → KeepsConsole (with_product w product)
product-keeps byte_width product input events s = refl
product-keeps word_width product input events s = refl

division-keeps : (w : Width) (at : ℕ) (division : Option (ℕ × ℕ)) → KeepsConsole (with_division w at division)
division-keeps w at None input events s = refl
division-keeps byte_width at (Some division) input events s = refl
division-keeps word_width at (Some division) input events s = refl

accumulator-keeps : (w : Width) (input : List ℕ) (events : List Event) (s : State) → accumulator_in w (with_console_of input events s) ≡ accumulator_in w s
accumulator-keeps byte_width input events s = refl
accumulator-keeps word_width input events s = refl

upper-keeps : (w : Width) (input : List ℕ) (events : List Event) (s : State) → upper_in w (with_console_of input events s) ≡ upper_in w s
upper-keeps byte_width input events s = refl
upper-keeps word_width input events s = refl

unary-keeps : (operation : UnaryKind) (w : Width) (x : Operand) (a at : ℕ) → KeepsConsole (unary_step operation w x a at)
unary-keeps Inc w x a at input events s = result-keeps x _ input events s
unary-keeps Dec w x a at input events s = result-keeps x _ input events s
unary-keeps Neg w x a at input events s = result-keeps x _ input events s
unary-keeps Not w x a at input events s = operand-keeps x _ input events s
unary-keeps Mul w x a at input events s =
    product-keeps w _ input events s
    ∙ ap (λ n. with_console_of input events (with_product w (product_of w n a) s)) (accumulator-keeps w input events s)
unary-keeps Imul w x a at input events s =
    product-keeps w _ input events s
    ∙ ap (λ n. with_console_of input events (with_product w (signed_product_of w n a) s)) (accumulator-keeps w input events s)
unary-keeps Div w x a at input events s =
    let t = with_console_of input events s in
    division-keeps w at (division_of w (upper_in w t) (accumulator_in w t) a) input events s
    ∙ ap (λ n. with_console_of input events (with_division w at (division_of w n (accumulator_in w t) a) s)) (upper-keeps w input events s)
    ∙ ap (λ n. with_console_of input events (with_division w at (division_of w (upper_in w s) n a) s)) (accumulator-keeps w input events s)
unary-keeps Idiv w x a at input events s =
    let t = with_console_of input events s in
    division-keeps w at (signed_division_of w (upper_in w t) (accumulator_in w t) a) input events s
    ∙ ap (λ n. with_console_of input events (with_division w at (signed_division_of w n (accumulator_in w t) a) s)) (upper-keeps w input events s)
    ∙ ap (λ n. with_console_of input events (with_division w at (signed_division_of w (upper_in w s) n a) s)) (accumulator-keeps w input events s)

count-keeps :
    (cpu : Cpu) (count : Count) (input : List ℕ) (events : List Event) (s : State)
    → count_in cpu count (with_console_of input events s) ≡ count_in cpu count s
count-keeps cpu One input events s = refl
count-keeps cpu Cl input events s = refl
count-keeps cpu (ConstCount number) input events s = refl

shift-keeps : (cpu : Cpu) (shift : ShiftKind) (x : Operand) (count : Count) → KeepsConsole (shift_step cpu shift x count)
shift-keeps cpu shift x count input events s =
    let t = with_console_of input events s in
    ap (λ n. with_result x (shift_result shift (operand_width x) (operand_value t x) n s.flags) t) (count-keeps cpu count input events s)
    ∙ result-keeps x _ input events s
    ∙ ap (λ n. with_console_of input events (with_result x (shift_result shift (operand_width x) n (count_in cpu count s) s.flags) s)) (value-keeps input events s x)

plain-keeps : (operation : PlainKind) → KeepsConsole (plain_step operation)
plain-keeps Nop input events s = refl
plain-keeps Cbw input events s = refl
plain-keeps Cwd input events s = refl
plain-keeps Xlat input events s = refl
plain-keeps Clc input events s = refl
plain-keeps Stc input events s = refl
plain-keeps Cmc input events s = refl
plain-keeps Cli input events s = refl
plain-keeps Sti input events s = refl
plain-keeps Cld input events s = refl

-- every operation but INT 21h
pub op-keeps : (cpu : Cpu) (op : Op) (at : ℕ) → op ≢ Int21 → KeepsConsole (op_step cpu op at)
op-keeps cpu (Alu operation a b) at other input events s =
    alu-keeps operation (operand_width a) a _ _ input events s
    ∙ ap (λ n. with_console_of input events (alu_step operation (operand_width a) a n (operand_value (with_console_of input events s) b) s)) (value-keeps input events s a)
    ∙ ap (λ n. with_console_of input events (alu_step operation (operand_width a) a (operand_value s a) n s)) (value-keeps input events s b)
op-keeps cpu (Unary operation a) at other input events s =
    unary-keeps operation (operand_width a) a _ at input events s
    ∙ ap (λ n. with_console_of input events (unary_step operation (operand_width a) a n at s)) (value-keeps input events s a)
op-keeps cpu (Shift shift a count) at other input events s = shift-keeps cpu shift a count input events s
op-keeps cpu (Mov to from) at other input events s =
    operand-keeps to _ input events s
    ∙ ap (λ n. with_console_of input events (with_operand s to n)) (value-keeps input events s from)
op-keeps cpu (Xchg a b) at other input events s =
    let t = with_console_of input events s in
    ap (λ u. with_operand u b (operand_value t a)) (operand-keeps a (operand_value t b) input events s)
    ∙ operand-keeps b (operand_value t a) input events (with_operand s a (operand_value t b))
    ∙ ap (λ n. with_console_of input events (with_operand (with_operand s a n) b (operand_value t a))) (value-keeps input events s b)
    ∙ ap (λ n. with_console_of input events (with_operand (with_operand s a (operand_value s b)) b n)) (value-keeps input events s a)
op-keeps cpu (Lea r ea) at other input events s =
    ap (λ n. with_console_of input events (with_word_in s r n)) (offset-keeps input events s ea)
op-keeps cpu (Imul3 r a constant) at other input events s =
    ap (λ n. with_console_of input events (with_word_in (with_flags (signed_product_of word_width n constant).2 s) r (signed_product_of word_width n constant).0)) (value-keeps input events s a)
op-keeps cpu (Push a) at other input events s =
    ap (λ n. with_console_of input events (after_push n s)) (value-keeps input events s a)
op-keeps cpu (Pop a) at other input events s = operand-keeps a (top_word s) input events (with_sp_raised 2 s)
op-keeps cpu (Enter count) at other input events s = refl
op-keeps cpu Leave at other input events s = refl
op-keeps cpu (Plain operation) at other input events s = plain-keeps operation input events s
op-keeps cpu (Jump target) at other input events s = refl
op-keeps cpu (Branch condition target) at other input events s = refl
op-keeps cpu (Loop target) at other input events s = refl
op-keeps cpu (LoopE target) at other input events s = refl
op-keeps cpu (LoopNe target) at other input events s = refl
op-keeps cpu (Jcxz target) at other input events s = refl
op-keeps cpu (Table r offset) at other input events s = refl
op-keeps cpu (Call target) at other input events s = refl
op-keeps cpu (Ret count) at other input events s = refl
op-keeps cpu Int21 at other input events s = absurd (other refl)

-- in every operation but INT 21h nothing happens at the console
pub op-keeps_events : (cpu : Cpu) (op : Op) (at : ℕ) → op ≢ Int21 → (s : State) → (op_step cpu op at s).events ≡ s.events
op-keeps_events cpu op at other s = ap (λ (t : State). t.events) (op-keeps cpu op at other s.input s.events s)
