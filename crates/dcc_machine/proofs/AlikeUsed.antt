-- Two states that agree in all that an operation uses show no difference after its step.
use Rattle.std.proofs.Common.{◌≡◌, ℕ, ◌+◌, ◌-◌, ◌/◌, ◌%◌, ◌<◌, Bool, true, false, List, [], ◌∷◌, ◌++◌, map, length, get_or, set, Option, Some, None, refl, sym, ap, ◌∙◌, subst, subst₂, arith, length-set}
use Rattle.std.proofs.lemmas.Bool.{eqb-true}
use Rattle.std.proofs.lemmas.List.{get_or-set_same, get_or-set_other, get_or_past}
use Rattle.std.proofs.Math.Decide.{ℕ_discrete, dec_lt}
use Rattle.std.specs.List.{range_with_len, take_while}
use Rattle.std.specs.Prelude.{not, ◌&&◌, ◌||◌, slice_index, slice_set, if◌then◌else◌, ◌==◌}
use Rattle.dcc_run.specs.End.{End, Exit}
use Rattle.dcc_run.specs.Event.{Event, MetEnd, writes}
use Rattle.dcc_num.specs.declared.Width.{Width}
use Rattle.dcc_num.specs.declared.Width.TheVariants.{Byte as byte_width, Word as word_width}
use Rattle.dcc_num.specs.declared.Reg.{Reg}
use Rattle.dcc_num.specs.declared.Reg.TheVariants.{Ax, Cx, Dx, Sp, Bp}
use Rattle.dcc_num.specs.declared.Half.{Half}
use Rattle.dcc_num.specs.declared.Half.TheVariants.{Low, High}
use Rattle.dcc_num.specs.declared.Flags.{Flags}
use Rattle.dcc_num.specs.declared.FlagName.{FlagName}
use Rattle.dcc_num.specs.declared.FlagName.TheVariants.{Cf, Zf, Sf, Of}
use Rattle.dcc_num.specs.declared.dos.TheConstants.{PUTC, PUTS, EXIT, STRING_MOST}
use Rattle.dcc_num.specs.Numbers.{limit_of, differ, no_flags}
use Rattle.dcc_num.specs.Sum.{negation_of}
use Rattle.dcc_num.specs.Quotient.{division_of, signed_division_of}
use Rattle.dcc_machine.specs.declared.cpu.Cpu.{Cpu}
use Rattle.dcc_machine.specs.declared.segment.TheConstants.{CS, SS, DS}
use Rattle.dcc_machine.specs.declared.instr.Alu.{Alu as AluName}
use Rattle.dcc_machine.specs.declared.instr.Shift.{Shift as ShiftName}
use Rattle.dcc_machine.specs.declared.instr.Count.{Count}
use Rattle.dcc_machine.specs.declared.instr.Cond.{Cond}
use Rattle.dcc_machine.specs.declared.instr.Cond.TheVariants.{O, No, B, Ae, Z, Nz, Be, A, S, Ns, L, Ge, Le, G}
use Rattle.dcc_machine.specs.declared.instr.Unary.{Unary as UnaryName}
use Rattle.dcc_machine.specs.declared.instr.Unary.TheVariants.{Inc, Dec, Neg, Not, Mul, Imul, Div, Idiv}
use Rattle.dcc_machine.specs.declared.instr.Plain.{Plain as PlainName}
use Rattle.dcc_machine.specs.declared.instr.Plain.TheVariants.{Nop, Cbw, Cwd, Xlat, Clc, Stc, Cmc, Cli, Sti, Cld}
use Rattle.dcc_machine.specs.declared.instr.Operand.{Operand}
use Rattle.dcc_machine.specs.declared.instr.Operand.TheVariants.{Word, Byte, Seg, Mem, Const}
use Rattle.dcc_machine.specs.declared.instr.Op.{Op}
use Rattle.dcc_machine.specs.declared.instr.Op.TheVariants.{Alu, Unary, Shift, Mov, Xchg, Lea, Imul3, Push, Pop, Enter, Leave, Plain, Jump, Branch, Loop, LoopE, LoopNe, Jcxz, Table, Call, Ret, Int21}
use Rattle.dcc_machine.specs.Machine.{State, half_of_word, word_in, code_segment, stack_segment, data_segment, physical, offset_of, segment_of, operand_value, operand_width, with_operand, is_segment}
use Rattle.dcc_machine.specs.Operations.{with_end, with_flags, with_result, with_product, with_division, count_in, shift_result, after_push, top_word, with_sp_raised, holds, loop_step}
use Rattle.dcc_machine.specs.Dos.{bytes_from, dos_string, is_not_dollar, dos_step, with_key, key_events, after_write}
use Rattle.dcc_machine.specs.Step.{op_step}
use Rattle.dcc_machine.specs.WellFormed.{IsOperation, AreOperands}
use Rattle.dcc_machine.specs.Writes.{is_same_register, is_same_half, is_half_of, writes_operand}
use Rattle.dcc_machine.specs.Wanted.{Location, half_of, flag_of, is_half, is_half_of_some, is_in_address_of, is_part, is_read, condition_uses, is_in_memory, dos_uses, uses}
use Rattle.dcc_machine.specs.LocationLaws.{half_in, flag_in}
use Rattle.dcc_machine.specs.AlikeLaws.{AgreeOutside, IsCallNumber, spares_segments, is_pushed_of, pushed_at, AreAlikeOutside, WhatIsUsedAlikeShowsAlike}
use Rattle.dcc_machine.proofs.OperationForms.{alu_result, alu_written, alu-form}
use Rattle.dcc_machine.proofs.DosLaws.{calls-relate, calls-leave}
use Rattle.dcc_machine.proofs.StateKept.{value-fits, of_width}
use Rattle.dcc_machine.proofs.LocationKept.{word-taken, half-other, operand-half, operand-flags}
use Rattle.dcc_machine.proofs.AlikeValues.{and-both, and-parts, or-first, or-second, register-self, half-self, AgreeWhere, AreTwo, word-alike, offset-alike, segment-alike, word_at-alike, value-alike, top-alike}
use Rattle.dcc_machine.proofs.AlikeHalves.{increment-alike, decrement-alike, all_of, alu_reads, alu-results, same-division, shift_value_reads, shift-results, memory-alike, same-moved, raised-alike, fallen-alike}

-- Bytes and words that are stored.

stored-byte :
    (memory other : List ℕ) (segment place n m v w : ℕ) → memory ≡ other → segment ≡ place → n ≡ m → v ≡ w
    → slice_set memory (physical segment n) v ≡ slice_set other (physical place m) w
stored-byte memory other segment place n m v w p q r e = cc

stored-word :
    (memory other : List ℕ) (segment place n m v w : ℕ) → memory ≡ other → segment ≡ place → n ≡ m → v ≡ w
    → slice_set (slice_set memory (physical segment n) (v % 256)) (physical segment ((n + 1) % 65536)) (v / 256)
    ≡ slice_set (slice_set other (physical place m) (w % 256)) (physical place ((m + 1) % 65536)) (w / 256)
stored-word memory other segment place n m v w p q r e =
    let first = stored-byte memory other segment place n m (v % 256) (w % 256) p q r (ap (λ k. k % 256) e) in
    let next : (n + 1) % 65536 ≡ (m + 1) % 65536 = ap (λ k. (k + 1) % 65536) r in
    let high : v / 256 ≡ w / 256 = ap (λ k. k / 256) e in
    stored-byte _ _ segment place _ _ _ _ first q next high

pair_of : {A B : Type 0} → A → B → A × B
pair_of a b = (a, b)

either : {a b c d : Bool} → a ≡ c → b ≡ d → (a || b) ≡ (c || d)
either p q = cc

different : {a b c d : Bool} → a ≡ c → b ≡ d → differ a b ≡ differ c d
different p q = cc

-- Outside of locations.

-- a step that stores no word of its own
quiet :
    (op : Op) (s t after other : State) → AgreeOutside after other → after.memory ≡ other.memory
    → AreAlikeOutside op s t after other
quiet op s t after other outside memory = record {
  outside = outside;
  memory = λ e. memory;
  pushed = λ address agree. ap (λ (l : List ℕ). slice_index l address) memory;
}

-- states that differ from two others in registers and flags alone
beside_registers :
    (s t : State) → AgreeOutside s t → (regs other : List ℕ) (flags flagged : Flags)
    → AgreeOutside (record s { regs = regs; flags = flags }) (record t { regs = other; flags = flagged })
beside_registers s t o regs other flags flagged =
    record { segs = o.segs; ip = o.ip; input = o.input; events = o.events; end = o.end }

operand-outside :
    (x : Operand) (v w : ℕ) (s t : State) → AgreeOutside s t → (is_segment x ≡ true → v ≡ w)
    → AgreeOutside (with_operand s x v) (with_operand t x w)
operand-outside (Word r) v w s t o same = beside_registers s t o _ _ s.flags t.flags
operand-outside (Byte r half) v w s t o same = beside_registers s t o _ _ s.flags t.flags
operand-outside (Seg number) v w s t o same = record {
  segs = ap (λ (l : List ℕ). slice_set l number v) o.segs ∙ ap (λ n. slice_set t.segs number n) (same refl);
  ip = o.ip;
  input = o.input;
  events = o.events;
  end = o.end;
}
operand-outside (Mem byte_width ea) v w s t o same =
    record { segs = o.segs; ip = o.ip; input = o.input; events = o.events; end = o.end }
operand-outside (Mem word_width ea) v w s t o same =
    record { segs = o.segs; ip = o.ip; input = o.input; events = o.events; end = o.end }
operand-outside (Const width constant) v w s t o same = o

-- an operand that is no segment register
plain-outside :
    (x : Operand) (v w : ℕ) (s t : State) → AgreeOutside s t → not (is_segment x) ≡ true
    → AgreeOutside (with_operand s x v) (with_operand t x w)
plain-outside x v w s t o spares = operand-outside x v w s t o (λ e. cc (ap not e))

-- what an operand in memory needs
abbrev StoresAlike : Operand → ℕ → ℕ → State → State → Type 0
StoresAlike x v w s t = is_in_memory x ≡ true → (v ≡ w) × AgreeWhere (λ from. is_in_address_of from x) s t

operand-memory :
    (x : Operand) (v w : ℕ) (s t : State) → s.memory ≡ t.memory → s.segs ≡ t.segs → StoresAlike x v w s t
    → (with_operand s x v).memory ≡ (with_operand t x w).memory
operand-memory (Word r) v w s t memory segs alike = memory
operand-memory (Byte r half) v w s t memory segs alike = memory
operand-memory (Seg number) v w s t memory segs alike = memory
operand-memory (Mem byte_width ea) v w s t memory segs alike =
    let both = alike refl in
    let segment = segment-alike s t ea segs in
    let offset = offset-alike s t ea both.1 in
    let value = both.0 in
    stored-byte s.memory t.memory (segment_of s ea) (segment_of t ea) (offset_of s ea)
    (offset_of t ea) v w memory segment offset value
operand-memory (Mem word_width ea) v w s t memory segs alike =
    let both = alike refl in
    let segment = segment-alike s t ea segs in
    let offset = offset-alike s t ea both.1 in
    let value = both.0 in
    stored-word s.memory t.memory (segment_of s ea) (segment_of t ea) (offset_of s ea)
    (offset_of t ea) v w memory segment offset value
operand-memory (Const width constant) v w s t memory segs alike = memory

-- the addresses are read with the operand
address-read :
    (x : Operand) (s t : State) → AgreeWhere (λ from. is_read from x) s t
    → AgreeWhere (λ from. is_in_address_of from x) s t
address-read x s t agree from e = agree from (or-second (is_part from x) (is_in_address_of from x) e)

-- Operations on two operands.

written-outside :
    (so : Bool) (x : Operand) (result other : ℕ × Flags) (s t : State) → AgreeOutside s t → not (is_segment x) ≡ true
    → AgreeOutside (alu_written so x result s) (alu_written so x other t)
written-outside true x result other s t o spares =
    plain-outside x result.0 other.0 (with_flags result.1 s) (with_flags other.1 t)
    (beside_registers s t o s.regs t.regs result.1 other.1) spares
written-outside false x result other s t o spares = beside_registers s t o s.regs t.regs result.1 other.1

flags-where :
    (test : Location → Bool) (f g : Flags) (s t : State) → ((flag : FlagName) → test (flag_of flag) ≡ false)
    → AgreeWhere test s t → AgreeWhere test (with_flags f s) (with_flags g t)
flags-where test f g s t none agree (half_of r half) e = agree (half_of r half) e
flags-where test f g s t none agree (flag_of flag) e = let clear = none flag in cc

-- flags are no part of an address
address-flags : (x : Operand) (flag : FlagName) → is_in_address_of (flag_of flag) x ≡ false
address-flags (Word r) flag = refl
address-flags (Byte r half) flag = refl
address-flags (Seg number) flag = refl
address-flags (Mem width ea) flag = none ea.base ea.index
  where
    none :
        (base index : Option Reg) →
        (is_half_of_some (flag_of flag) base || is_half_of_some (flag_of flag) index) ≡ false
    none None None = refl
    none None (Some r) = refl
    none (Some r) None = refl
    none (Some r) (Some q) = refl
address-flags (Const width constant) flag = refl

-- an operand takes a result in both
result-memory :
    (x : Operand) (result other : ℕ × Flags) (s t : State) → s.memory ≡ t.memory → s.segs ≡ t.segs
    → StoresAlike x result.0 other.0 s t → (with_result x result s).memory ≡ (with_result x other t).memory
result-memory x result other s t memory segs alike =
    operand-memory x result.0 other.0 (with_flags result.1 s) (with_flags other.1 t) memory segs (λ e.
    let both = alike e in
    (both.0, flags-where (λ from. is_in_address_of from x) result.1 other.1 s t (address-flags x) both.1))

written-memory :
    (so : Bool) (x : Operand) (result other : ℕ × Flags) (s t : State) → s.memory ≡ t.memory → s.segs ≡ t.segs
    → (so ≡ true → StoresAlike x result.0 other.0 s t) → (alu_written so x result s).memory ≡
    (alu_written so x other t).memory
written-memory true x result other s t memory segs alike = result-memory x result other s t memory segs (alike refl)
written-memory false x result other s t memory segs alike = memory

alu-used :
    (cpu : Cpu) (operation : AluName) (a b : Operand) (at : ℕ) (number : Option ℕ) (s t : State) → AreTwo s t
    → not (is_segment a) ≡ true → AgreeWhere (uses (Alu operation a b) number) s t
    → AreAlikeOutside (Alu operation a b) s t (op_step cpu (Alu operation a b) at s)
    (op_step cpu (Alu operation a b) at t)
alu-used cpu operation a b at number s t two spares used =
    let w = operand_width a in
    let so = writes_operand operation in
    let first = alu_result operation w (operand_value s a) (operand_value s b) s.flags.cf in
    let second = alu_result operation w (operand_value t a) (operand_value t b) t.flags.cf in
    let stores = λ (e : so ≡ true) (m : is_in_memory a ≡ true).
    let agree = all_of (is_in_memory a && so) (alu_reads operation a b) s t (and-both (is_in_memory a) so m e) used in
    let value : first.0 ≡ second.0 = ap (λ (x : ℕ × Flags). x.0) (alu-results operation a b s t two.beside agree) in
    let address : AgreeWhere (λ from. is_in_address_of from a) s t =
    address-read a s t (λ from h. agree from (or-first (is_read from a) _ h)) in
    pair_of value address in
    let memory : (alu_written so a first s).memory ≡ (alu_written so a second t).memory =
    written-memory so a first second s t two.beside.memory two.beside.outside.segs stores in
    subst₂ (AreAlikeOutside (Alu operation a b) s t)
    (sym (alu-form operation w a (operand_value s a) (operand_value s b) s))
    (sym (alu-form operation w a (operand_value t a) (operand_value t b) t))
    (quiet (Alu operation a b) s t (alu_written so a first s) (alu_written so a second t)
    (written-outside so a first second s t two.beside.outside spares) memory)

-- Operations on one operand.

-- the operand takes a result
back-used :
    (op : Op) (a : Operand) (result other : ℕ × Flags) (s t : State) → AreTwo s t → not (is_segment a) ≡ true
    → (operand_value s a ≡ operand_value t a → result.0 ≡ other.0)
    → AgreeWhere (λ from. (is_in_memory a && true) && is_read from a) s t
    → AreAlikeOutside op s t (with_result a result s) (with_result a other t)
back-used op a result other s t two spares same used =
    quiet op s t (with_result a result s) (with_result a other t)
    (plain-outside a result.0 other.0 (with_flags result.1 s) (with_flags other.1 t)
    (beside_registers s t two.beside.outside s.regs t.regs result.1 other.1) spares)
    (result-memory a result other s t two.beside.memory two.beside.outside.segs (λ m.
    let agree =
    all_of (is_in_memory a && true) (λ from. is_read from a) s t (and-both (is_in_memory a) true m refl) used in
    (same (value-alike s t a two.beside agree), address-read a s t agree)))

product-used :
    (op : Op) (w : Width) (product other : ℕ × ℕ × Flags) (s t : State) → AreTwo s t
    → AreAlikeOutside op s t (with_product w product s) (with_product w other t)
product-used op byte_width product other s t two =
    quiet op s t _ _ (beside_registers s t two.beside.outside _ _ product.2 other.2) two.beside.memory
product-used op word_width product other s t two =
    quiet op s t _ _ (beside_registers s t two.beside.outside _ _ product.2 other.2) two.beside.memory

division-used :
    (op : Op) (w : Width) (at : ℕ) (division : Option (ℕ × ℕ)) (s t : State) → AreTwo s t
    → AreAlikeOutside op s t (with_division w at division s) (with_division w at division t)
division-used op w at None s t two =
    let o = two.beside.outside in
    quiet op s t _ _
    (record { segs = o.segs; ip = refl; input = o.input; events = o.events; end = refl }) two.beside.memory
division-used op byte_width at (Some division) s t two =
    quiet op s t _ _ (beside_registers s t two.beside.outside _ _ no_flags no_flags) two.beside.memory
division-used op word_width at (Some division) s t two =
    quiet op s t _ _ (beside_registers s t two.beside.outside _ _ no_flags no_flags) two.beside.memory

unary-used :
    (cpu : Cpu) (operation : UnaryName) (a : Operand) (at : ℕ) (number : Option ℕ) (s t : State) → AreTwo s t
    → not (is_segment a) ≡ true → AgreeWhere (uses (Unary operation a) number) s t
    → AreAlikeOutside (Unary operation a) s t (op_step cpu (Unary operation a) at s)
    (op_step cpu (Unary operation a) at t)
unary-used cpu Inc a at number s t two spares used =
    back-used (Unary Inc a) a _ _ s t two spares (increment-alike (operand_width a) _ _ s.flags t.flags) used
unary-used cpu Dec a at number s t two spares used =
    back-used (Unary Dec a) a _ _ s t two spares (decrement-alike (operand_width a) _ _ s.flags t.flags) used
unary-used cpu Neg a at number s t two spares used =
    back-used (Unary Neg a) a (negation_of (operand_width a) (operand_value s a))
    (negation_of (operand_width a) (operand_value t a)) s t two spares
    (ap (λ n. (negation_of (operand_width a) n).0)) used
unary-used cpu Not a at number s t two spares used =
    back-used (Unary Not a) a (limit_of (operand_width a) - 1 - operand_value s a, s.flags)
    (limit_of (operand_width a) - 1 - operand_value t a, t.flags) s t two spares
    (ap (λ n. limit_of (operand_width a) - 1 - n)) used
unary-used cpu Mul a at number s t two spares used = product-used (Unary Mul a) (operand_width a) _ _ s t two
unary-used cpu Imul a at number s t two spares used = product-used (Unary Imul a) (operand_width a) _ _ s t two
unary-used cpu Div a at number s t two spares used =
    subst
    (λ d. AreAlikeOutside (Unary Div a) s t (op_step cpu (Unary Div a) at s) (with_division (operand_width a) at d t))
    (same-division division_of a s t two.beside used) (division-used (Unary Div a) (operand_width a) at _ s t two)
unary-used cpu Idiv a at number s t two spares used =
    subst
    (λ d. AreAlikeOutside (Unary Idiv a) s t (op_step cpu (Unary Idiv a) at s) (with_division (operand_width a) at d t))
    (same-division signed_division_of a s t two.beside used) (division-used (Unary Idiv a) (operand_width a) at _ s t two)

shift-used :
    (cpu :
    Cpu) (operation : ShiftName) (a : Operand) (count : Count) (at : ℕ) (number : Option ℕ)
    (s t : State) → AreTwo s t
    → not (is_segment a) ≡ true → AgreeWhere (uses (Shift operation a count) number) s t
    → AreAlikeOutside (Shift operation a count) s t (op_step cpu (Shift operation a count) at s)
    (op_step cpu (Shift operation a count) at t)
shift-used cpu operation a count at number s t two spares used =
    let w = operand_width a in
    let first = shift_result operation w (operand_value s a) (count_in cpu count s) s.flags in
    let second = shift_result operation w (operand_value t a) (count_in cpu count t) t.flags in
    quiet (Shift operation a count) s t (with_result a first s) (with_result a second t)
    (plain-outside a first.0 second.0 (with_flags first.1 s) (with_flags second.1 t)
    (beside_registers s t two.beside.outside s.regs t.regs first.1 second.1) spares)
    (result-memory a first second s t two.beside.memory two.beside.outside.segs (λ m.
    let agree = all_of (is_in_memory a) (shift_value_reads operation a count) s t m used in (
      shift-results cpu operation a count s t two.beside agree,
      address-read a s t (λ from h. agree from (or-first (is_read from a) _ h)),
    )))

-- Moves.

mov-used :
    (cpu : Cpu) (to x : Operand) (at : ℕ) (number : Option ℕ) (s t : State) → AreTwo s t → not (is_segment to) ≡ true
    → AgreeWhere (uses (Mov to x) number) s t
    → AreAlikeOutside (Mov to x) s t (op_step cpu (Mov to x) at s) (op_step cpu (Mov to x) at t)
mov-used cpu to x at number s t two spares used =
    quiet (Mov to x) s t (op_step cpu (Mov to x) at s) (op_step cpu (Mov to x) at t)
    (plain-outside to (operand_value s x) (operand_value t x) s t two.beside.outside spares)
    (operand-memory to (operand_value s x) (operand_value t x) s t two.beside.memory two.beside.outside.segs (λ m.
    let agree = all_of (is_in_memory to) (λ from. is_in_address_of from to || is_read from x) s t m used in (
      value-alike s t x two.beside (λ from h. agree from (or-second (is_in_address_of from to) _ h)),
      λ from h. agree from (or-first (is_in_address_of from to) _ h),
    )))

-- a location in which two states agree, after an operand has taken one value in both
operand-location :
    (part : Bool) (x : Operand) (v w : ℕ) (s t : State) (r : Reg) (half : Half) → AreTwo s t → v ≡ w
    → v < limit_of (operand_width x) → w < limit_of (operand_width x) → is_half_of r half x ≡ part
    → half_in s r half ≡ half_in t r half → half_in (with_operand s x v) r half ≡ half_in (with_operand t x w) r half
operand-location true x v w s t r half two same low high is e =
    same-moved x v w s t r half same two.first.registers.count two.second.registers.count is
operand-location false x v w s t r half two same low high is e =
    operand-half x v s r half two.first.registers.count low is
    ∙ e
    ∙ sym (operand-half x w t r half two.second.registers.count high is)

operand-where :
    (test : Location → Bool) (x : Operand) (v w : ℕ) (s t : State) → AreTwo s t → v ≡ w
    → v < limit_of (operand_width x) → w < limit_of (operand_width x) → AgreeWhere test s t
    → AgreeWhere test (with_operand s x v) (with_operand t x w)
operand-where test x v w s t two same low high agree (half_of r half) e =
    operand-location (is_half_of r half x) x v w s t r half two same low high refl (agree (half_of r half) e)
operand-where test x v w s t two same low high agree (flag_of flag) e =
    ap (λ f. flag_in f flag) (operand-flags x v s)
    ∙ agree (flag_of flag) e
    ∙ sym (ap (λ f. flag_in f flag) (operand-flags x w t))

xchg-used :
    (cpu : Cpu) (a b : Operand) (at : ℕ) (number : Option ℕ) (s t : State) → AreTwo s t → AreOperands a b
    → (not (is_segment a) && not (is_segment b)) ≡ true → AgreeWhere (uses (Xchg a b) number) s t
    → AreAlikeOutside (Xchg a b) s t (op_step cpu (Xchg a b) at s) (op_step cpu (Xchg a b) at t)
xchg-used cpu a b at number s t two good spares used =
    let neither = and-parts (not (is_segment a)) (not (is_segment b)) spares in
    let va = operand_value s a in
    let vb = operand_value s b in
    let wa = operand_value t a in
    let wb = operand_value t b in
    let u = with_operand s a vb in
    let v = with_operand t a wb in
    let agree = λ (m : (is_in_memory a || is_in_memory b) ≡ true).
    all_of (is_in_memory a || is_in_memory b) (λ from. is_read from a || is_read from b) s t m used in
    let of_a = λ (m : (is_in_memory a || is_in_memory b) ≡ true) (from : Location) (h : is_read from a ≡ true).
    agree m from (or-first (is_read from a) (is_read from b) h) in
    let of_b = λ (m : (is_in_memory a || is_in_memory b) ≡ true) (from : Location) (h : is_read from b ≡ true).
    agree m from (or-second (is_read from a) (is_read from b) h) in
    let fits_s =
    of_width (operand_width b) (operand_width a) vb (sym good.widths) (value-fits s b good.second two.first) in
    let fits_t =
    of_width (operand_width b) (operand_width a) wb (sym good.widths) (value-fits t b good.second two.second) in
    let once : u.memory ≡ v.memory =
    operand-memory a vb wb s t two.beside.memory two.beside.outside.segs (λ m.
    let so = or-first (is_in_memory a) (is_in_memory b) m in
    (value-alike s t b two.beside (of_b so), address-read a s t (of_a so))) in
    let outside = plain-outside a vb wb s t two.beside.outside neither.0 in
    quiet (Xchg a b) s t (with_operand u b va) (with_operand v b wa)
    (plain-outside b va wa u v outside neither.1)
    (operand-memory b va wa u v once outside.segs (λ m.
    let so = or-second (is_in_memory a) (is_in_memory b) m in (
      value-alike s t a two.beside (of_a so),
      operand-where (λ from. is_in_address_of from b) a vb wb s t two
          (value-alike s t b two.beside (of_b so)) fits_s fits_t
          (address-read b s t (of_b so)),
    )))

-- The stack.

-- a byte that is stored in two memories
set-alike :
    (xs ys : List ℕ) (i v w j : ℕ) → length xs ≡ length ys → get_or xs j 0 ≡ get_or ys j 0 → (j ≡ i → v ≡ w)
    → get_or (set xs i v) j 0 ≡ get_or (set ys i w) j 0
set-alike xs ys i v w j sizes same value = elim (ℕ_discrete j i) [
  | yes is ↦ elim (dec_lt i (length ys)) [
    | yes inside ↦
        ap (λ k. get_or (set xs i v) k 0) is
        ∙ get_or-set_same xs i v 0 (omega (arith, sizes))
        ∙ value is
        ∙ sym (get_or-set_same ys i w 0 inside)
        ∙ ap (λ k. get_or (set ys i w) k 0) (sym is)
    | no outside ↦
        get_or_past (set xs i v) j 0 (omega (arith, length-set xs i v, sizes, is, outside))
        ∙ sym (get_or_past (set ys i w) j 0 (omega (arith, length-set ys i w, is, outside)))
  ]
  | no apart ↦ get_or-set_other xs i j v 0 apart ∙ same ∙ sym (get_or-set_other ys i j w 0 apart)
]

-- the word that a push stores, byte by byte
push-bytes :
    (v w : ℕ) (s t : State) (address : ℕ) → AreTwo s t → (address ≡ pushed_at s Low → v % 256 ≡ w % 256)
    → (address ≡ pushed_at s High → v / 256 ≡ w / 256)
    → slice_index (after_push v s).memory address ≡ slice_index (after_push w t).memory address
push-bytes v w s t address two low high =
    let o = (word_in s Sp + 65534) % 65536 in
    let fallen : word_in (with_sp_raised 65534 s) Sp ≡ o = word-taken s Sp Sp o two.first.registers.count refl in
    let other : word_in (with_sp_raised 65534 t) Sp ≡ o =
    word-taken t Sp Sp ((word_in t Sp + 65534) % 65536) two.second.registers.count refl
    ∙ ap (λ n. (n + 65534) % 65536) (sym two.beside.sp) in
    let segment : stack_segment t ≡ stack_segment s =
    ap (λ (l : List ℕ). slice_index l SS) (sym two.beside.outside.segs) in
    let memory : s.memory ≡ t.memory = two.beside.memory in
    let p = pushed_at s Low in
    let q = pushed_at s High in
    let first : (after_push v s).memory ≡ slice_set (slice_set s.memory p (v % 256)) q (v / 256) =
    ap
    (λ k. slice_set (slice_set s.memory (physical (stack_segment s) k) (v % 256))
    (physical (stack_segment s) ((k + 1) % 65536)) (v / 256)) fallen in
    let second : (after_push w t).memory ≡ slice_set (slice_set t.memory p (w % 256)) q (w / 256) =
    ap
    (λ k. slice_set (slice_set t.memory (physical (stack_segment t) k) (w % 256))
    (physical (stack_segment t) ((k + 1) % 65536)) (w / 256)) other
    ∙ ap (λ k.
    slice_set (slice_set t.memory (physical k o) (w % 256)) (physical k ((o + 1) % 65536)) (w / 256)) segment in
    let sizes : length s.memory ≡ length t.memory = ap length memory in
    let before : slice_index s.memory address ≡ slice_index t.memory address =
    ap (λ (l : List ℕ). slice_index l address) memory in
    let inner = set-alike s.memory t.memory p (v % 256) (w % 256) address sizes before low in
    let lengths : length (slice_set s.memory p (v % 256)) ≡ length (slice_set t.memory p (w % 256)) =
    length-set s.memory p (v % 256) ∙ sizes ∙ sym (length-set t.memory p (w % 256)) in
    ap (λ (l : List ℕ). slice_index l address) first
    ∙ set-alike (slice_set s.memory p (v % 256)) (slice_set t.memory p (w % 256)) q (v / 256) (w / 256) address lengths
    inner high
    ∙ sym (ap (λ (l : List ℕ). slice_index l address) second)

-- a half of the value of a word operand
pushed-half :
    (a : Operand) (half : Half) (s t : State) → AreTwo s t → operand_width a ≡ word_width
    → AgreeWhere (is_pushed_of (Push a) half) s t
    → half_of_word half (operand_value s a) ≡ half_of_word half (operand_value t a)
pushed-half (Word r) half s t two width agree =
    agree (half_of r half) (and-both (is_same_register r r) (is_same_half half half) (register-self r) (half-self half))
pushed-half (Byte r place) half s t two width agree = cc
pushed-half (Seg number) half s t two width agree =
    ap (λ (l : List ℕ). half_of_word half (slice_index l number)) two.beside.outside.segs
pushed-half (Mem w ea) half s t two width agree = ap (half_of_word half) (memory-alike w ea s t two.beside agree)
pushed-half (Const w constant) half s t two width agree = refl

push-used :
    (cpu : Cpu) (a : Operand) (at : ℕ) (s t : State) → AreTwo s t → operand_width a ≡ word_width
    → AreAlikeOutside (Push a) s t (op_step cpu (Push a) at s) (op_step cpu (Push a) at t)
push-used cpu a at s t two width =
    let o = two.beside.outside in
    record {
      outside = record { segs = o.segs; ip = o.ip; input = o.input; events = o.events; end = o.end };
      memory = λ e. cc;
      pushed = λ address agree.
          push-bytes (operand_value s a) (operand_value t a) s t address two
          (λ is. pushed-half a Low s t two width (λ from h. agree Low from is h))
          (λ is. pushed-half a High s t two width (λ from h. agree High from is h));
    }

-- a word that is the same in both is pushed
push-memory :
    (v w : ℕ) (s t : State) → AreTwo s t → v ≡ w → (after_push v s).memory ≡ (after_push w t).memory
push-memory v w s t two same =
    let sp = fallen-alike v w s t two in
    let segment : stack_segment s ≡ stack_segment t = ap (λ (l : List ℕ). slice_index l SS) two.beside.outside.segs in
    stored-word s.memory t.memory (stack_segment s) (stack_segment t) (word_in (with_sp_raised 65534 s) Sp)
    (word_in (with_sp_raised 65534 t) Sp) v w
    two.beside.memory segment sp same

raised-where :
    (test : Location → Bool) (count : ℕ) (s t : State) → AreTwo s t → AgreeWhere test s t
    → AgreeWhere test (with_sp_raised count s) (with_sp_raised count t)
raised-where test count s t two agree (half_of r half) e = go (is_same_register r Sp) refl
  where
    go :
        (so : Bool) → is_same_register r Sp ≡ so
        → half_in (with_sp_raised count s) r half ≡ half_in (with_sp_raised count t) r half
    go true is = raised-alike count s t r half two is
    go false is = half-other s Sp r _ half is ∙ agree (half_of r half) e ∙ sym (half-other t Sp r _ half is)
raised-where test count s t two agree (flag_of flag) e = agree (flag_of flag) e

pop-used :
    (cpu : Cpu) (a : Operand) (at : ℕ) (number : Option ℕ) (s t : State) → AreTwo s t
    → AgreeWhere (uses (Pop a) number) s t
    → AreAlikeOutside (Pop a) s t (op_step cpu (Pop a) at s) (op_step cpu (Pop a) at t)
pop-used cpu a at number s t two used =
    let top = top-alike s t two.beside.outside.segs two.beside.memory two.beside.sp in
    let u = with_sp_raised 2 s in
    let v = with_sp_raised 2 t in
    quiet (Pop a) s t (with_operand u a (top_word s)) (with_operand v a (top_word t))
    (operand-outside a (top_word s) (top_word t) u v (beside_registers s t two.beside.outside _ _ s.flags t.flags)
    (λ e. top))
    (operand-memory a (top_word s) (top_word t) u v two.beside.memory two.beside.outside.segs (λ m.
    (top, raised-where (λ from. is_in_address_of from a) 2 s t two used)))

-- Jumps.

holds-alike :
    (condition : Cond) (s t : State) → AgreeWhere (condition_uses condition) s t
    → holds condition s.flags ≡ holds condition t.flags
holds-alike O s t agree = agree (flag_of Of) refl
holds-alike No s t agree = ap not (agree (flag_of Of) refl)
holds-alike B s t agree = agree (flag_of Cf) refl
holds-alike Ae s t agree = ap not (agree (flag_of Cf) refl)
holds-alike Z s t agree = agree (flag_of Zf) refl
holds-alike Nz s t agree = ap not (agree (flag_of Zf) refl)
holds-alike Be s t agree = either (agree (flag_of Cf) refl) (agree (flag_of Zf) refl)
holds-alike A s t agree = ap not (either (agree (flag_of Cf) refl) (agree (flag_of Zf) refl))
holds-alike S s t agree = agree (flag_of Sf) refl
holds-alike Ns s t agree = ap not (agree (flag_of Sf) refl)
holds-alike L s t agree = different (agree (flag_of Sf) refl) (agree (flag_of Of) refl)
holds-alike Ge s t agree = ap not (different (agree (flag_of Sf) refl) (agree (flag_of Of) refl))
holds-alike Le s t agree =
    either (agree (flag_of Zf) refl) (different (agree (flag_of Sf) refl) (agree (flag_of Of) refl))
holds-alike G s t agree =
    ap not (either (agree (flag_of Zf) refl) (different (agree (flag_of Sf) refl) (agree (flag_of Of) refl)))

-- only the place differs from two states that agree
jump-used :
    (op : Op) (s t : State) → AreTwo s t → (regs other : List ℕ) (ip place : ℕ) → ip ≡ place
    → AreAlikeOutside op s t (record s { regs = regs; ip = ip }) (record t { regs = other; ip = place })
jump-used op s t two regs other ip place same =
    let o = two.beside.outside in
    quiet op s t _ _
    (record { segs = o.segs; ip = same; input = o.input; events = o.events; end = o.end }) two.beside.memory

chosen-place :
    (so is : Bool) (target p q : ℕ) → so ≡ is → p ≡ q → (if so then target else p) ≡ (if is then target else q)
chosen-place so is target p q same e = ap (λ b. if b then target else p) same ∙ ap (λ n. if is then target else n) e

loop-used :
    (op : Op) (also other : Bool) (target : ℕ) (s t : State) → AreTwo s t → AgreeWhere (λ from. is_half from Cx) s t
    → also ≡ other → AreAlikeOutside op s t (loop_step also target s) (loop_step other target t)
loop-used op also other target s t two agree same =
    let cx = word-alike s t Cx agree in
    let so : (also && not ((word_in s Cx + 65535) % 65536 == 0)) ≡
    (other && not ((word_in t Cx + 65535) % 65536 == 0)) =
    ap (λ b. b && not ((word_in s Cx + 65535) % 65536 == 0)) same
    ∙ ap (λ n. other && not ((n + 65535) % 65536 == 0)) cx in
    jump-used op s t two _ _ _ _ (chosen-place _ _ target s.ip t.ip so two.beside.outside.ip)

plain-used :
    (operation : PlainName) (cpu : Cpu) (at : ℕ) (s t : State) → AreTwo s t
    → AreAlikeOutside (Plain operation) s t (op_step cpu (Plain operation) at s) (op_step cpu (Plain operation) at t)
plain-used Nop cpu at s t two = quiet _ s t s t two.beside.outside two.beside.memory
plain-used Cbw cpu at s t two =
    quiet _ s t _ _ (beside_registers s t two.beside.outside _ _ s.flags t.flags) two.beside.memory
plain-used Cwd cpu at s t two =
    quiet _ s t _ _ (beside_registers s t two.beside.outside _ _ s.flags t.flags) two.beside.memory
plain-used Xlat cpu at s t two =
    quiet _ s t _ _ (beside_registers s t two.beside.outside _ _ s.flags t.flags) two.beside.memory
plain-used Clc cpu at s t two =
    quiet _ s t _ _ (beside_registers s t two.beside.outside s.regs t.regs _ _) two.beside.memory
plain-used Stc cpu at s t two =
    quiet _ s t _ _ (beside_registers s t two.beside.outside s.regs t.regs _ _) two.beside.memory
plain-used Cmc cpu at s t two =
    quiet _ s t _ _ (beside_registers s t two.beside.outside s.regs t.regs _ _) two.beside.memory
plain-used Cli cpu at s t two = quiet _ s t s t two.beside.outside two.beside.memory
plain-used Sti cpu at s t two = quiet _ s t s t two.beside.outside two.beside.memory
plain-used Cld cpu at s t two = quiet _ s t s t two.beside.outside two.beside.memory

-- DOS calls.

bytes-alike :
    (s t : State) (segment other n m count : ℕ) → s.memory ≡ t.memory → segment ≡ other → n ≡ m
    → bytes_from s segment n count ≡ bytes_from t other m count
unfolding bytes_from
bytes-alike s t segment other n m count memory p q =
    ap (λ (l : List ℕ). map (λ k. slice_index l (physical segment ((n + k) % 65536))) (range_with_len 0 count)) memory
    ∙ ap (λ g. map (λ k. slice_index t.memory (physical g ((n + k) % 65536))) (range_with_len 0 count)) p
    ∙ ap (λ g. map (λ k. slice_index t.memory (physical other ((g + k) % 65536))) (range_with_len 0 count)) q

string-alike : (s t : State) → AreTwo s t → word_in s Dx ≡ word_in t Dx → dos_string s ≡ dos_string t
unfolding dos_string
string-alike s t two dx =
    let ds : data_segment s ≡ data_segment t = ap (λ (l : List ℕ). slice_index l DS) two.beside.outside.segs in
    ap (take_while is_not_dollar)
    (bytes-alike s t (data_segment s) (data_segment t) (word_in s Dx)
    (word_in t Dx) STRING_MOST two.beside.memory ds dx)

write-outside :
    (bytes other : List ℕ) (s t : State) → AgreeOutside s t → bytes ≡ other
    → AgreeOutside (after_write bytes s) (after_write other t)
write-outside bytes other s t o same = record {
  segs = o.segs;
  ip = o.ip;
  input = o.input;
  events = ap (λ (l : List Event). l ++ writes bytes) o.events ∙ ap (λ (l : List ℕ). t.events ++ writes l) same;
  end = o.end;
}

key-outside :
    (echo : Bool) (input other : List ℕ) (s t : State) → AgreeOutside s t → input ≡ other
    → AgreeOutside (with_key echo input s) (with_key echo other t)
key-outside echo input other s t o same =
    subst (λ l. AgreeOutside (with_key echo input s) (with_key echo l t)) same (go input)
  where
    go : (l : List ℕ) → AgreeOutside (with_key echo l s) (with_key echo l t)
    go [] = record {
      segs = o.segs;
      ip = o.ip;
      input = o.input;
      events = ap (λ (l : List Event). l ++ (MetEnd ∷ [])) o.events;
      end = o.end;
    }
    go (byte ∷ rest) = record {
      segs = o.segs;
      ip = o.ip;
      input = refl;
      events = ap (λ (l : List Event). l ++ key_events echo byte) o.events;
      end = o.end;
    }

end-outside :
    (end other : End) (at : ℕ) (s t : State) → AgreeOutside s t → end ≡ other
    → AgreeOutside (with_end end at s) (with_end other at t)
end-outside end other at s t o same =
    record { segs = o.segs; ip = refl; input = o.input; events = o.events; end = same }

key-memory : (echo : Bool) (input : List ℕ) (s : State) → (with_key echo input s).memory ≡ s.memory
key-memory echo [] s = refl
key-memory echo (byte ∷ rest) s = refl

dos-memory : (n at : ℕ) (s : State) → (dos_step n at s).memory ≡ s.memory
dos-memory n at s =
    calls-leave (λ t. t.memory ≡ s.memory) n at s refl refl (λ echo. key-memory echo s.input s) refl refl

-- what the call of a number uses
uses-number :
    (n number : ℕ) (location : Location) → (n == number) ≡ true → dos_uses (Some number) location ≡ true
    → dos_uses (Some n) location ≡ true
uses-number n number location is e = ap (λ k. dos_uses (Some k) location) (eqb-true n number is) ∙ e

dos-outside :
    (n at : ℕ) (s t : State) → AreTwo s t → AgreeWhere (dos_uses (Some n)) s t
    → AgreeOutside (dos_step n at s) (dos_step n at t)
dos-outside n at s t two used =
    let o = two.beside.outside in
    calls-relate AgreeOutside n at s t (record {
      putc = λ is.
          write-outside _ _ s t o
          (ap (λ b. b ∷ []) (used (half_of Dx Low) (uses-number n PUTC (half_of Dx Low) is refl)));
      exit = λ is.
          end-outside _ _ at s t o
          (ap Exit (used (half_of Ax Low) (uses-number n EXIT (half_of Ax Low) is refl)));
      key = λ echo. key-outside echo s.input t.input s t o o.input;
      puts = λ is.
          write-outside _ _ s t o
          (string-alike s t two (word-alike s t Dx (λ from h. used from (uses-number n PUTS from is h))));
      outside = λ no_getche no_getch. end-outside _ _ at s t o refl;
    })

-- All operations.

op-used :
    (cpu : Cpu) (op : Op) (at : ℕ) (number : Option ℕ) (s t : State) → IsOperation op → AreTwo s t
    → spares_segments op ≡ true → IsCallNumber op number s → IsCallNumber op number t → AgreeWhere (uses op number) s t
    → AreAlikeOutside op s t (op_step cpu op at s) (op_step cpu op at t)
op-used cpu (Alu operation a b) at number s t good two spares m n used =
    alu-used cpu operation a b at number s t two spares used
op-used cpu (Unary operation a) at number s t good two spares m n used =
    unary-used cpu operation a at number s t two spares used
op-used cpu (Shift operation a count) at number s t good two spares m n used =
    shift-used cpu operation a count at number s t two spares used
op-used cpu (Mov to from) at number s t good two spares m n used = mov-used cpu to from at number s t two spares used
op-used cpu (Xchg a b) at number s t good two spares m n used = xchg-used cpu a b at number s t two good spares used
op-used cpu (Lea r ea) at number s t good two spares m n used =
    quiet _ s t _ _ (beside_registers s t two.beside.outside _ _ s.flags t.flags) two.beside.memory
op-used cpu (Imul3 r a constant) at number s t good two spares m n used =
    quiet _ s t _ _ (beside_registers s t two.beside.outside _ _ _ _) two.beside.memory
op-used cpu (Push a) at number s t good two spares m n used = push-used cpu a at s t two good.width
op-used cpu (Pop a) at number s t good two spares m n used = pop-used cpu a at number s t two used
op-used cpu (Enter size) at number s t good two spares m n used =
    let o = two.beside.outside in
    quiet _ s t _ _ (record { segs = o.segs; ip = o.ip; input = o.input; events = o.events; end = o.end })
    (push-memory (word_in s Bp) (word_in t Bp) s t two two.beside.bp)
op-used cpu Leave at number s t good two spares m n used =
    quiet _ s t _ _ (beside_registers s t two.beside.outside _ _ s.flags t.flags) two.beside.memory
op-used cpu (Plain operation) at number s t good two spares m n used = plain-used operation cpu at s t two
op-used cpu (Jump target) at number s t good two spares m n used = jump-used _ s t two s.regs t.regs target target refl
op-used cpu (Branch condition target) at number s t good two spares m n used =
    jump-used _ s t two s.regs t.regs _ _
    (chosen-place _ _ target s.ip t.ip (holds-alike condition s t used) two.beside.outside.ip)
op-used cpu (Loop target) at number s t good two spares m n used = loop-used _ true true target s t two used refl
op-used cpu (LoopE target) at number s t good two spares m n used =
    loop-used _ s.flags.zf t.flags.zf target s t two (λ from h. used from (or-first (is_half from Cx) _ h))
    (used (flag_of Zf) refl)
op-used cpu (LoopNe target) at number s t good two spares m n used =
    loop-used _ (not s.flags.zf) (not t.flags.zf) target s t two (λ from h. used from (or-first (is_half from Cx) _ h))
    (ap not (used (flag_of Zf) refl))
op-used cpu (Jcxz target) at number s t good two spares m n used =
    jump-used _ s t two s.regs t.regs _ _
    (chosen-place _ _ target s.ip t.ip (ap (λ k. k == 0) (word-alike s t Cx used)) two.beside.outside.ip)
op-used cpu (Table r offset) at number s t good two spares m n used =
    jump-used _ s t two s.regs t.regs _ _
    (word_at-alike s t (code_segment s) (code_segment t) ((word_in s r + offset) % 65536)
    ((word_in t r + offset) % 65536)
    two.beside.memory (ap (λ (l : List ℕ). slice_index l CS) two.beside.outside.segs)
    (ap (λ k. (k + offset) % 65536) (word-alike s t r used)))
op-used cpu (Call target) at number s t good two spares m n used =
    let o = two.beside.outside in
    quiet _ s t _ _ (record { segs = o.segs; ip = refl; input = o.input; events = o.events; end = o.end })
    (push-memory s.ip t.ip s t two o.ip)
op-used cpu (Ret count) at number s t good two spares m n used =
    jump-used _ s t two _ _ (top_word s) (top_word t)
    (top-alike s t two.beside.outside.segs two.beside.memory two.beside.sp)
op-used cpu Int21 at number s t good two spares m n used =
    let is : word_in s Ax / 256 ≡ word_in t Ax / 256 = cc (m, n) in
    let outside = dos-outside (word_in s Ax / 256) at s t two (subst (λ k. AgreeWhere (dos_uses k) s t) m used) in
    quiet Int21 s t (dos_step (word_in s Ax / 256) at s) (dos_step (word_in t Ax / 256) at t)
    (subst (λ k. AgreeOutside (dos_step (word_in s Ax / 256) at s) (dos_step k at t)) is outside)
    (dos-memory (word_in s Ax / 256) at s ∙ two.beside.memory ∙ sym (dos-memory (word_in t Ax / 256) at t))

pub used-alike : WhatIsUsedAlikeShowsAlike
used-alike cpu op at number s t good first second spares beside m n used =
    op-used cpu op at number s t good (record { first = first; second = second; beside = beside }) spares m n used
