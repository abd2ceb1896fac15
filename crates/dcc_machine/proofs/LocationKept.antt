-- What an operation doesn't write stays as it was.
use Rattle.std.proofs.Common.{◌≡◌, ◌≢◌, ℕ, ◌+◌, ◌*◌, ◌/◌, ◌%◌, ◌<◌, Bool, true, false, List, [], ◌∷◌, length, Option, Some, None, refl, sym, ap, ◌∙◌, subst, arith, length-set}
use Rattle.std.proofs.lemmas.Bool.{eqb-true, eq-eqb}
use Rattle.std.proofs.lemmas.List.{get_or-set_other}
use Rattle.std.proofs.lemmas.Grind.{get_or-set_at}
use Rattle.std.specs.Prelude.{not, ◌&&◌, ◌||◌, slice_index, if◌then◌else◌, ◌==◌}
use Rattle.dcc_num.specs.declared.Width.{Width}
use Rattle.dcc_num.specs.declared.Width.TheVariants.{Byte as byte_width, Word as word_width}
use Rattle.dcc_num.specs.declared.Reg.{Reg}
use Rattle.dcc_num.specs.declared.Reg.TheVariants.{Ax, Cx, Dx, Bx, Sp, Bp, Si, Di}
use Rattle.dcc_num.specs.declared.Half.{Half}
use Rattle.dcc_num.specs.declared.Half.TheVariants.{Low, High}
use Rattle.dcc_num.specs.declared.Flags.{Flags}
use Rattle.dcc_num.specs.declared.FlagName.{FlagName}
use Rattle.dcc_num.specs.declared.FlagName.TheVariants.{Cf, Zf, Sf, Of}
use Rattle.dcc_num.specs.declared.dos.TheConstants.{END_OF_INPUT}
use Rattle.dcc_num.specs.Numbers.{limit_of, sign_extension_of}
use Rattle.dcc_num.specs.Sum.{increment_of, decrement_of}
use Rattle.dcc_num.specs.Shift.{unless_zero, rotate_flags, rol_of, ror_of, rcl_of, rcr_of, shl_of, shr_of, sar_of}
use Rattle.dcc_num.specs.Product.{signed_product_of}
use Rattle.dcc_machine.specs.declared.cpu.Cpu.{Cpu}
use Rattle.dcc_machine.specs.declared.instr.Shift.{Shift as ShiftName}
use Rattle.dcc_machine.specs.declared.instr.Shift.TheVariants.{Rol, Ror, Rcl, Rcr, Shl, Shr, Sar}
use Rattle.dcc_machine.specs.declared.instr.Count.{Count}
use Rattle.dcc_machine.specs.declared.instr.Count.TheVariants.{One, Cl, Const as ConstCount}
use Rattle.dcc_machine.specs.declared.instr.Unary.{Unary as UnaryName}
use Rattle.dcc_machine.specs.declared.instr.Unary.TheVariants.{Inc, Dec, Neg, Not, Mul, Imul, Div, Idiv}
use Rattle.dcc_machine.specs.declared.instr.Plain.{Plain as PlainName}
use Rattle.dcc_machine.specs.declared.instr.Plain.TheVariants.{Nop, Cbw, Cwd, Xlat, Clc, Stc, Cmc, Cli, Sti, Cld}
use Rattle.dcc_machine.specs.declared.instr.Operand.{Operand}
use Rattle.dcc_machine.specs.declared.instr.Operand.TheVariants.{Word, Byte, Seg, Mem, Const}
use Rattle.dcc_machine.specs.declared.instr.Op.{Op}
use Rattle.dcc_machine.specs.declared.instr.Op.TheVariants.{Alu, Unary, Shift, Mov, Xchg, Lea, Imul3, Push, Pop, Enter, Leave, Plain, Jump, Branch, Loop, LoopE, LoopNe, Jcxz, Table, Call, Ret, Int21}
use Rattle.dcc_machine.specs.Machine.{State, reg_number, word_in, with_word_in, half_of_word, word_with_half, offset_of, operand_value, operand_width, with_operand}
use Rattle.dcc_machine.specs.Operations.{with_flags, accumulator_in, upper_in, with_product, count_in, shift_result, after_push, top_word, with_sp_raised}
use Rattle.dcc_machine.specs.Dos.{dos_step, with_key}
use Rattle.dcc_machine.specs.Step.{op_step}
use Rattle.dcc_machine.specs.WellFormed.{IsOperation, MayCount}
use Rattle.dcc_machine.specs.Writes.{is_same_register, is_same_half, is_half_of, writes_operand, is_in_pair, is_carry, is_carry_or_overflow, unary_writes_half, plain_writes_half, writes_half, unary_writes_flag, shift_writes_flag, never_shifts, plain_writes_flag, writes_flag}
use Rattle.dcc_machine.specs.StateForm.{IsState}
use Rattle.dcc_machine.specs.LocationLaws.{half_in, flag_in, WhatIsNotWrittenStays}
use Rattle.dcc_machine.proofs.OperationForms.{alu_result, alu_written, alu-form, Outcome, in_operand, in_pair, in_fault, divided, unary_outcome, outcome_step, unary-form}
use Rattle.dcc_machine.proofs.DosLaws.{calls-leave}
use Rattle.dcc_machine.proofs.ResultBounds.{alu-below, shift-below, OutcomeFits, outcome-fits, sign_extension-low}
use Rattle.dcc_machine.proofs.StateKept.{top-below, value-fits, of_width, accumulator-below}

-- Tests.

pub or-none : (a b : Bool) → (a || b) ≡ false → (a ≡ false) × (b ≡ false)
or-none true b e = cc
or-none false b e = (refl, e)

apart : (a b : ℕ) → (a == b) ≡ false → a ≢ b
apart a b e same = let yes : (a == b) ≡ true = eq-eqb a b same in cc

-- Registers.

pub word-other :
    (s : State) (q r : Reg) (v : ℕ) → is_same_register r q ≡ false → word_in (with_word_in s q v) r ≡ word_in s r
word-other s q r v other =
    get_or-set_other s.regs (reg_number q) (reg_number r) v 0 (apart (reg_number r) (reg_number q) other)

pub half-other :
    (s : State) (q r : Reg) (v : ℕ) (half : Half) → is_same_register r q ≡ false
    → half_in (with_word_in s q v) r half ≡ half_in s r half
half-other s q r v half other = ap (half_of_word half) (word-other s q r v other)

number-low : (r : Reg) → reg_number r < 8
number-low Ax = omega arith
number-low Cx = omega arith
number-low Dx = omega arith
number-low Bx = omega arith
number-low Sp = omega arith
number-low Bp = omega arith
number-low Si = omega arith
number-low Di = omega arith

-- a register holds what it has taken, under each of its names
pub word-taken :
    (s : State) (q r : Reg) (v : ℕ) → length s.regs ≡ 8 → is_same_register r q ≡ true
    → word_in (with_word_in s q v) r ≡ v
word-taken s q r v count same =
    let low = number-low q in
    let at : reg_number r ≡ reg_number q = eqb-true (reg_number r) (reg_number q) same in
    get_or-set_at s.regs (reg_number q) (reg_number r) v 0 at (omega (arith, count))

-- one half is written, the other one stays
half-beside :
    (half other : Half) (word v : ℕ) → v < 256 → is_same_half half other ≡ false
    → half_of_word half (word_with_half other word v) ≡ half_of_word half word
half-beside Low Low word v fits apart = cc
half-beside Low High word v fits apart = omega arith
half-beside High Low word v fits apart = omega arith
half-beside High High word v fits apart = cc

-- two names of one register
pub same-word : (s : State) (q r : Reg) → is_same_register r q ≡ true → word_in s q ≡ word_in s r
same-word s q r same = ap (slice_index s.regs) (sym (eqb-true (reg_number r) (reg_number q) same))

byte-half :
    (same : Bool) (s : State) (q r : Reg) (half other : Half) (v : ℕ) → length s.regs ≡ 8 → v < 256
    → is_same_register r q ≡ same → (same && is_same_half half other) ≡ false
    → half_in (with_word_in s q (word_with_half other (word_in s q) v)) r half ≡ half_in s r half
byte-half true s q r half other v count fits same clear =
    ap (half_of_word half) (word-taken s q r (word_with_half other (word_in s q) v) count same)
    ∙ half-beside half other (word_in s q) v fits clear
    ∙ ap (half_of_word half) (same-word s q r same)
byte-half false s q r half other v count fits same clear =
    half-other s q r (word_with_half other (word_in s q) v) half same

-- an operand takes a value that fits
pub operand-half :
    (x : Operand) (v : ℕ) (s : State) (r : Reg) (half : Half) → length s.regs ≡ 8 → v < limit_of (operand_width x)
    → is_half_of r half x ≡ false → half_in (with_operand s x v) r half ≡ half_in s r half
operand-half (Word q) v s r half count fits clear = half-other s q r v half clear
operand-half (Byte q other) v s r half count fits clear =
    byte-half (is_same_register r q) s q r half other v count fits refl clear
operand-half (Seg number) v s r half count fits clear = refl
operand-half (Mem byte_width ea) v s r half count fits clear = refl
operand-half (Mem word_width ea) v s r half count fits clear = refl
operand-half (Const width constant) v s r half count fits clear = refl

pub operand-count : (x : Operand) (v : ℕ) (s : State) → length (with_operand s x v).regs ≡ length s.regs
operand-count (Word r) v s = length-set s.regs (reg_number r) v
operand-count (Byte r half) v s = length-set s.regs (reg_number r) (word_with_half half (word_in s r) v)
operand-count (Seg number) v s = refl
operand-count (Mem byte_width ea) v s = refl
operand-count (Mem word_width ea) v s = refl
operand-count (Const width constant) v s = refl

written-half :
    (so : Bool) (x : Operand) (result : ℕ × Flags) (s : State) (r : Reg) (half : Half) → length s.regs ≡ 8
    → result.0 < limit_of (operand_width x) → (so && is_half_of r half x) ≡ false
    → half_in (alu_written so x result s) r half ≡ half_in s r half
written-half true x result s r half count fits clear =
    operand-half x result.0 (with_flags result.1 s) r half count fits clear
written-half false x result s r half count fits clear = refl

-- Operations on one operand.

-- an outcome writes neither half
abbrev Spares : Width → Operand → Reg → Half → Outcome → Type 0
Spares w x r half (in_operand result) = (result.0 < limit_of w) × (is_half_of r half x ≡ false)
Spares w x r half (in_pair pair) = is_in_pair w r ≡ false
Spares w x r half in_fault = Unit {0}

divided-spares :
    (w : Width) (x : Operand) (r : Reg) (half : Half) (division : Option (ℕ × ℕ)) → is_in_pair w r ≡ false
    → Spares w x r half (divided division)
divided-spares w x r half None clear = tt
divided-spares w x r half (Some division) clear = clear

unary-spares :
    (operation : UnaryName) (x : Operand) (r : Reg) (half : Half) (low high a : ℕ) (flags : Flags)
    → OutcomeFits (operand_width x) (unary_outcome operation (operand_width x) low high a flags)
    → unary_writes_half operation x r half ≡ false
    → Spares (operand_width x) x r half (unary_outcome operation (operand_width x) low high a flags)
unary-spares Inc x r half low high a flags fits clear = (fits, clear)
unary-spares Dec x r half low high a flags fits clear = (fits, clear)
unary-spares Neg x r half low high a flags fits clear = (fits, clear)
unary-spares Not x r half low high a flags fits clear = (fits, clear)
unary-spares Mul x r half low high a flags fits clear = clear
unary-spares Imul x r half low high a flags fits clear = clear
unary-spares Div x r half low high a flags fits clear = divided-spares (operand_width x) x r half _ clear
unary-spares Idiv x r half low high a flags fits clear = divided-spares (operand_width x) x r half _ clear

product-half :
    (w : Width) (product : ℕ × ℕ × Flags) (s : State) (r : Reg) (half : Half) → is_in_pair w r ≡ false
    → half_in (with_product w product s) r half ≡ half_in s r half
product-half byte_width product s r half clear =
    half-other (with_flags product.2 s) Ax r (product.1 * 256 + product.0) half clear
product-half word_width product s r half clear =
    let none = or-none (is_same_register r Ax) (is_same_register r Dx) clear in
    let t = with_flags product.2 s in
    half-other (with_word_in t Ax product.0) Dx r product.1 half none.1 ∙ half-other t Ax r product.0 half none.0

outcome-half :
    (outcome : Outcome) (x : Operand) (at : ℕ) (s : State) (r : Reg) (half : Half) → length s.regs ≡ 8
    → Spares (operand_width x) x r half outcome
    → half_in (outcome_step outcome (operand_width x) x at s) r half ≡ half_in s r half
outcome-half (in_operand result) x at s r half count spares =
    operand-half x result.0 (with_flags result.1 s) r half count spares.0 spares.1
outcome-half (in_pair pair) x at s r half count spares = product-half (operand_width x) pair s r half spares
outcome-half in_fault x at s r half count spares = refl

-- Operations without operands, and DOS calls.

low-kept :
    (same : Bool) (s : State) (r : Reg) (half : Half) → length s.regs ≡ 8 → is_same_register r Ax ≡ same
    → (same && is_same_half half High) ≡ false
    → half_in (with_word_in s Ax (sign_extension_of (half_of_word Low (word_in s Ax)))) r half ≡ half_in s r half
low-kept true s r Low count same clear =
    let low : word_in s Ax % 256 < 256 = omega arith in
    ap (half_of_word Low) (word-taken s Ax r (sign_extension_of (word_in s Ax % 256)) count same)
    ∙ sign_extension-low (word_in s Ax % 256) low
    ∙ ap (half_of_word Low) (same-word s Ax r same)
low-kept true s r High count same clear = cc
low-kept false s r half count same clear = half-other s Ax r (sign_extension_of (word_in s Ax % 256)) half same

plain-half :
    (operation : PlainName) (cpu : Cpu) (at : ℕ) (s : State) (r : Reg) (half : Half) → IsState s
    → plain_writes_half operation r half ≡ false
    → half_in (op_step cpu (Plain operation) at s) r half ≡ half_in s r half
plain-half Nop cpu at s r half form clear = refl
plain-half Cbw cpu at s r half form clear = low-kept (is_same_register r Ax) s r half form.registers.count refl clear
plain-half Cwd cpu at s r half form clear = half-other s Dx r _ half clear
plain-half Xlat cpu at s r half form clear =
    byte-half (is_same_register r Ax) s Ax r half Low _ form.registers.count (form.memory _) refl clear
plain-half Clc cpu at s r half form clear = refl
plain-half Stc cpu at s r half form clear = refl
plain-half Cmc cpu at s r half form clear = refl
plain-half Cli cpu at s r half form clear = refl
plain-half Sti cpu at s r half form clear = refl
plain-half Cld cpu at s r half form clear = refl

key-half :
    (echo : Bool) (input : List ℕ) (s : State) (r : Reg) (half : Half) → ((k : ℕ) → slice_index input k < 256)
    → length s.regs ≡ 8 → (is_same_register r Ax && is_same_half half Low) ≡ false
    → half_in (with_key echo input s) r half ≡ half_in s r half
key-half echo [] s r half bytes count clear =
    let fits : END_OF_INPUT < 256 = omega arith in
    byte-half (is_same_register r Ax) s Ax r half Low END_OF_INPUT count fits refl clear
key-half echo (byte ∷ rest) s r half bytes count clear =
    byte-half (is_same_register r Ax) s Ax r half Low byte count (bytes 0) refl clear

dos-half :
    (number at : ℕ) (s : State) (r : Reg) (half : Half) → IsState s
    → (is_same_register r Ax && is_same_half half Low) ≡ false
    → half_in (dos_step number at s) r half ≡ half_in s r half
dos-half number at s r half form clear =
    calls-leave (λ t. half_in t r half ≡ half_in s r half) number at s refl refl
    (λ echo. key-half echo s.input s r half form.input form.registers.count clear) refl refl

-- All operations.

pub op-half :
    (cpu : Cpu) (op : Op) (at : ℕ) (s : State) (r : Reg) (half : Half) → IsOperation op → IsState s
    → writes_half op r half ≡ false → half_in (op_step cpu op at s) r half ≡ half_in s r half
op-half cpu (Alu operation a b) at s r half good form clear =
    let w = operand_width a in
    let va = operand_value s a in
    let vb = operand_value s b in
    let fits = alu-below operation w va vb s.flags.cf (value-fits s a good.first form)
    (of_width (operand_width b) w vb (sym good.widths) (value-fits s b good.second form)) in
    ap (λ t. half_in t r half) (alu-form operation w a va vb s)
    ∙ written-half (writes_operand operation) a (alu_result operation w va vb s.flags.cf) s r half form.registers.count
    fits clear
op-half cpu (Unary operation a) at s r half good form clear =
    let w = operand_width a in
    let v = operand_value s a in
    let outcome = unary_outcome operation w (accumulator_in w s) (upper_in w s) v s.flags in
    let fits =
    outcome-fits operation w (accumulator_in w s) (upper_in w s) v s.flags (accumulator-below w s form)
    (value-fits s a good form) in
    ap (λ t. half_in t r half) (unary-form operation w a v at s)
    ∙ outcome-half outcome a at s r half form.registers.count
    (unary-spares operation a r half (accumulator_in w s) (upper_in w s) v s.flags fits clear)
op-half cpu (Shift operation a count) at s r half good form clear =
    let w = operand_width a in
    let result = shift_result operation w (operand_value s a) (count_in cpu count s) s.flags in
    operand-half a result.0 (with_flags result.1 s) r half form.registers.count
    (shift-below operation w (operand_value s a) (count_in cpu count s) s.flags
    (value-fits s a good.operand form)) clear
op-half cpu (Mov to from) at s r half good form clear =
    operand-half to (operand_value s from) s r half form.registers.count
    (of_width (operand_width from) (operand_width to) _ (sym good.widths) (value-fits s from good.second form)) clear
op-half cpu (Xchg a b) at s r half good form clear =
    let none = or-none (is_half_of r half a) (is_half_of r half b) clear in
    let first = of_width (operand_width b) (operand_width a) _ (sym good.widths) (value-fits s b good.second form) in
    let second = of_width (operand_width a) (operand_width b) _ good.widths (value-fits s a good.first form) in
    let t = with_operand s a (operand_value s b) in
    operand-half b (operand_value s a) t r half
    (operand-count a (operand_value s b) s ∙ form.registers.count) second none.1
    ∙ operand-half a (operand_value s b) s r half form.registers.count first none.0
op-half cpu (Lea to ea) at s r half good form clear = half-other s to r (offset_of s ea) half clear
op-half cpu (Imul3 to a constant) at s r half good form clear =
    let product = signed_product_of word_width (operand_value s a) constant in
    half-other (with_flags product.2 s) to r product.0 half clear
op-half cpu (Push a) at s r half good form clear = half-other s Sp r _ half clear
op-half cpu (Pop a) at s r half good form clear =
    let none = or-none (is_same_register r Sp) (is_half_of r half a) clear in
    let t = with_sp_raised 2 s in
    let count : length t.regs ≡ 8 = length-set s.regs (reg_number Sp) _ ∙ form.registers.count in
    let fits = subst (λ w. top_word s < limit_of w) (sym good.width) (top-below s form) in
    operand-half a (top_word s) t r half count fits none.1 ∙ half-other s Sp r _ half none.0
op-half cpu (Enter size) at s r half good form clear =
    let none = or-none (is_same_register r Sp) (is_same_register r Bp) clear in
    let t = after_push (word_in s Bp) s in
    let u = with_word_in t Bp (word_in t Sp) in
    half-other u Sp r _ half none.0 ∙ half-other t Bp r (word_in t Sp) half none.1 ∙ half-other s Sp r _ half none.0
op-half cpu Leave at s r half good form clear =
    let none = or-none (is_same_register r Sp) (is_same_register r Bp) clear in
    let t = with_word_in s Sp (word_in s Bp) in
    half-other (with_sp_raised 2 t) Bp r (top_word t) half none.1
    ∙ half-other t Sp r _ half none.0
    ∙ half-other s Sp r (word_in s Bp) half none.0
op-half cpu (Plain operation) at s r half good form clear = plain-half operation cpu at s r half form clear
op-half cpu (Jump target) at s r half good form clear = refl
op-half cpu (Branch condition target) at s r half good form clear = refl
op-half cpu (Loop target) at s r half good form clear = half-other s Cx r _ half clear
op-half cpu (LoopE target) at s r half good form clear = half-other s Cx r _ half clear
op-half cpu (LoopNe target) at s r half good form clear = half-other s Cx r _ half clear
op-half cpu (Jcxz target) at s r half good form clear = refl
op-half cpu (Table q offset) at s r half good form clear = refl
op-half cpu (Call target) at s r half good form clear = cc
op-half cpu (Ret count) at s r half good form clear = half-other s Sp r _ half clear
op-half cpu Int21 at s r half good form clear = dos-half (word_in s Ax / 256) at s r half form clear

-- Flags.

pub operand-flags : (x : Operand) (v : ℕ) (s : State) → (with_operand s x v).flags ≡ s.flags
operand-flags (Word r) v s = refl
operand-flags (Byte r half) v s = refl
operand-flags (Seg number) v s = refl
operand-flags (Mem byte_width ea) v s = refl
operand-flags (Mem word_width ea) v s = refl
operand-flags (Const width constant) v s = refl

unary-flag :
    (operation : UnaryName) (a : Operand) (cpu : Cpu) (at : ℕ) (s : State) (flag : FlagName)
    → unary_writes_flag operation flag ≡ false
    → flag_in (op_step cpu (Unary operation a) at s).flags flag ≡ flag_in s.flags flag
unfolding increment_of decrement_of
unary-flag Inc a cpu at s Cf clear = ap (λ f. flag_in f Cf) (operand-flags a _ _)
unary-flag Inc a cpu at s Zf clear = cc
unary-flag Inc a cpu at s Sf clear = cc
unary-flag Inc a cpu at s Of clear = cc
unary-flag Dec a cpu at s Cf clear = ap (λ f. flag_in f Cf) (operand-flags a _ _)
unary-flag Dec a cpu at s Zf clear = cc
unary-flag Dec a cpu at s Sf clear = cc
unary-flag Dec a cpu at s Of clear = cc
unary-flag Neg a cpu at s flag clear = cc
unary-flag Not a cpu at s flag clear = ap (λ f. flag_in f flag) (operand-flags a _ s)
unary-flag Mul a cpu at s flag clear = cc
unary-flag Imul a cpu at s flag clear = cc
unary-flag Div a cpu at s flag clear = cc
unary-flag Idiv a cpu at s flag clear = cc

-- by none nothing changes
unless-flags :
    (count : ℕ) (a r : ℕ) (was flags : Flags) → (count == 0) ≡ true → (unless_zero count (a, was) (r, flags)).1 ≡ was
unless-flags count a r was flags none = ap (λ b. (if b then (let x : ℕ × Flags = (a, was) in x) else (r, flags)).1) none

unless-flag :
    (count : ℕ) (a r : ℕ) (was flags : Flags) (flag : FlagName) → flag_in flags flag ≡ flag_in was flag
    → flag_in (unless_zero count (a, was) (r, flags)).1 flag ≡ flag_in was flag
unless-flag count a r was flags flag same =
    elim (count == 0) as (λ b.
    flag_in (if b then (let x : ℕ × Flags = (a, was) in x) else (r, flags)).1 flag ≡ flag_in was flag) [
      | true ↦ refl
      | false ↦ same
    ]

rotated-flag :
    (was : Flags) (carry overflow : Bool) (flag : FlagName) → is_carry_or_overflow flag ≡ false
    → flag_in (rotate_flags was carry overflow) flag ≡ flag_in was flag
rotated-flag was carry overflow Cf clear = cc
rotated-flag was carry overflow Zf clear = refl
rotated-flag was carry overflow Sf clear = refl
rotated-flag was carry overflow Of clear = cc

-- a rotate leaves ZF and SF
rotation-flag :
    (operation : ShiftName) (w : Width) (a count : ℕ) (was : Flags) (flag : FlagName)
    → shift_writes_flag operation flag ≡ false
    → flag_in (shift_result operation w a count was).1 flag ≡ flag_in was flag
unfolding rol_of ror_of rcl_of rcr_of
rotation-flag Rol w a count was flag clear = unless-flag count a _ was _ flag (rotated-flag was _ _ flag clear)
rotation-flag Ror w a count was flag clear = unless-flag count a _ was _ flag (rotated-flag was _ _ flag clear)
rotation-flag Rcl w a count was flag clear = rotated-flag was _ _ flag clear
rotation-flag Rcr w a count was flag clear = rotated-flag was _ _ flag clear
rotation-flag Shl w a count was flag clear = cc
rotation-flag Shr w a count was flag clear = cc
rotation-flag Sar w a count was flag clear = cc

-- a shift or rotate by a constant 0 leaves all
still-flags :
    (operation : ShiftName) (w : Width) (a number : ℕ) (was : Flags) → MayCount operation (ConstCount number)
    → (number % 32 == 0) ≡ true → (shift_result operation w a (number % 32) was).1 ≡ was
unfolding rol_of ror_of shl_of shr_of sar_of
still-flags Rol w a number was may none = unless-flags (number % 32) a _ was _ none
still-flags Ror w a number was may none = unless-flags (number % 32) a _ was _ none
still-flags Rcl w a number was may none = absurd may
still-flags Rcr w a number was may none = absurd may
still-flags Shl w a number was may none = unless-flags (number % 32) a _ was _ none
still-flags Shr w a number was may none = unless-flags (number % 32) a _ was _ none
still-flags Sar w a number was may none = unless-flags (number % 32) a _ was _ none

never-flags :
    (operation : ShiftName) (w : Width) (a : ℕ) (count : Count) (cpu : Cpu) (s : State) → MayCount operation count
    → never_shifts count ≡ true → (shift_result operation w a (count_in cpu count s) s.flags).1 ≡ s.flags
never-flags operation w a One cpu s may none = cc
never-flags operation w a Cl cpu s may none = cc
never-flags operation w a (ConstCount number) cpu s may none = still-flags operation w a number s.flags may none

shifted-flag :
    (writes never : Bool) (operation : ShiftName) (w : Width) (a : ℕ) (count : Count) (cpu : Cpu) (s : State)
    (flag : FlagName) → MayCount operation count → shift_writes_flag operation flag ≡ writes
    → never_shifts count ≡ never
    → (writes && not never) ≡ false
    → flag_in (shift_result operation w a (count_in cpu count s) s.flags).1 flag ≡ flag_in s.flags flag
shifted-flag true true operation w a count cpu s flag may p q clear =
    ap (λ f. flag_in f flag) (never-flags operation w a count cpu s may q)
shifted-flag true false operation w a count cpu s flag may p q clear = cc
shifted-flag false never operation w a count cpu s flag may p q clear =
    rotation-flag operation w a (count_in cpu count s) s.flags flag p

carry-flag :
    (was : Flags) (carry : Bool) (flag : FlagName) → is_carry flag ≡ false
    → flag_in (record was { cf = carry }) flag ≡ flag_in was flag
carry-flag was carry Cf clear = cc
carry-flag was carry Zf clear = refl
carry-flag was carry Sf clear = refl
carry-flag was carry Of clear = refl

plain-flag :
    (operation : PlainName) (cpu : Cpu) (at : ℕ) (s : State) (flag : FlagName)
    → plain_writes_flag operation flag ≡ false
    → flag_in (op_step cpu (Plain operation) at s).flags flag ≡ flag_in s.flags flag
plain-flag Nop cpu at s flag clear = refl
plain-flag Cbw cpu at s flag clear = refl
plain-flag Cwd cpu at s flag clear = refl
plain-flag Xlat cpu at s flag clear = refl
plain-flag Clc cpu at s flag clear = carry-flag s.flags false flag clear
plain-flag Stc cpu at s flag clear = carry-flag s.flags true flag clear
plain-flag Cmc cpu at s flag clear = carry-flag s.flags (not s.flags.cf) flag clear
plain-flag Cli cpu at s flag clear = refl
plain-flag Sti cpu at s flag clear = refl
plain-flag Cld cpu at s flag clear = refl

key-flags : (echo : Bool) (input : List ℕ) (s : State) → (with_key echo input s).flags ≡ s.flags
key-flags echo [] s = refl
key-flags echo (byte ∷ rest) s = refl

pub dos-flags : (number at : ℕ) (s : State) → (dos_step number at s).flags ≡ s.flags
dos-flags number at s =
    calls-leave (λ t. t.flags ≡ s.flags) number at s refl refl (λ echo. key-flags echo s.input s) refl refl

pub op-flag :
    (cpu : Cpu) (op : Op) (at : ℕ) (s : State) (flag : FlagName) → IsOperation op → writes_flag op flag ≡ false
    → flag_in (op_step cpu op at s).flags flag ≡ flag_in s.flags flag
op-flag cpu (Alu operation a b) at s flag good clear = cc
op-flag cpu (Unary operation a) at s flag good clear = unary-flag operation a cpu at s flag clear
op-flag cpu (Shift operation a count) at s flag good clear =
    let result = shift_result operation (operand_width a) (operand_value s a) (count_in cpu count s) s.flags in
    ap (λ f. flag_in f flag) (operand-flags a result.0 (with_flags result.1 s))
    ∙ shifted-flag (shift_writes_flag operation flag) (never_shifts count) operation (operand_width a)
    (operand_value s a) count cpu s flag good.may refl refl clear
op-flag cpu (Mov to from) at s flag good clear = ap (λ f. flag_in f flag) (operand-flags to (operand_value s from) s)
op-flag cpu (Xchg a b) at s flag good clear =
    ap (λ f. flag_in f flag)
    (operand-flags b (operand_value s a) (with_operand s a (operand_value s b)) ∙ operand-flags a (operand_value s b) s)
op-flag cpu (Lea to ea) at s flag good clear = refl
op-flag cpu (Imul3 to a constant) at s flag good clear = cc
op-flag cpu (Push a) at s flag good clear = refl
op-flag cpu (Pop a) at s flag good clear = ap (λ f. flag_in f flag) (operand-flags a (top_word s) (with_sp_raised 2 s))
op-flag cpu (Enter size) at s flag good clear = refl
op-flag cpu Leave at s flag good clear = refl
op-flag cpu (Plain operation) at s flag good clear = plain-flag operation cpu at s flag clear
op-flag cpu (Jump target) at s flag good clear = refl
op-flag cpu (Branch condition target) at s flag good clear = refl
op-flag cpu (Loop target) at s flag good clear = refl
op-flag cpu (LoopE target) at s flag good clear = refl
op-flag cpu (LoopNe target) at s flag good clear = refl
op-flag cpu (Jcxz target) at s flag good clear = refl
op-flag cpu (Table q offset) at s flag good clear = refl
op-flag cpu (Call target) at s flag good clear = cc
op-flag cpu (Ret count) at s flag good clear = refl
op-flag cpu Int21 at s flag good clear = ap (λ f. flag_in f flag) (dos-flags (word_in s Ax / 256) at s)

pub locations-kept : WhatIsNotWrittenStays
locations-kept = record {
  half = op-half;
  flag = op-flag;
  call_word = λ cpu target at s r other. word-other s Sp r _ other;
  call_flags = λ cpu target at s. refl;
}
