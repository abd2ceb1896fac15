-- What SP is after a step.
use Rattle.std.proofs.Common.{◌≡◌, ℕ, suc, ◌+◌, ◌-◌, ◌%◌, ◌<◌, ◌≤◌, Bool, true, false, Option, Some, None, length, refl, sym, ap, ap₂, ◌∙◌, subst, arith}
use Rattle.std.proofs.lemmas.Bool.{lt-leb, ltb-true, and_parts}
use Rattle.std.proofs.lemmas.Int.{ints}
use Rattle.std.proofs.lemmas.List.{length-set}
use Rattle.std.specs.Prelude.{ℤ, pos, negsuc, neg_ℤ, ◌+ℤ◌, ◌-ℤ◌, ◌||◌, ◌&&◌, not, is_none, if◌then◌else◌}
use Rattle.dcc_num.specs.declared.Width.TheVariants.{Word as word_width}
use Rattle.dcc_num.specs.declared.Reg.{Reg}
use Rattle.dcc_num.specs.declared.Reg.TheVariants.{Sp, Bp}
use Rattle.dcc_num.specs.declared.Half.TheVariants.{Low, High}
use Rattle.dcc_num.specs.Numbers.{limit_of, has_sign, signed_of, wrapped_of}
use Rattle.dcc_num.specs.Sum.{sum_of, difference_of, increment_of, decrement_of}
use Rattle.dcc_machine.specs.declared.cpu.Cpu.{Cpu}
use Rattle.dcc_prog.specs.declared.procedure.Layout.{Layout}
use Rattle.dcc_machine.specs.declared.instr.Alu.TheVariants.{Add, Sub}
use Rattle.dcc_machine.specs.declared.instr.Unary.TheVariants.{Inc, Dec}
use Rattle.dcc_machine.specs.declared.instr.Ea.{Ea}
use Rattle.dcc_machine.specs.declared.instr.Operand.{Operand}
use Rattle.dcc_machine.specs.declared.instr.Operand.TheVariants.{Word, Const}
use Rattle.dcc_machine.specs.declared.instr.Op.{Op}
use Rattle.dcc_machine.specs.declared.instr.Op.TheVariants.{Alu as AluOp, Unary as UnaryOp, Mov, Lea, Push, Pop, Enter, Leave, Call, Ret}
use Rattle.dcc_machine.specs.Machine.{State, word_in, with_word_in, part_of, is_bp, offset_of, operand_width}
use Rattle.dcc_machine.specs.Machine.{with_operand}
use Rattle.dcc_machine.specs.Operations.{lea_step, pop_step, top_word, with_sp_raised, after_push, enter_step}
use Rattle.dcc_machine.specs.Operations.{leave_step}
use Rattle.dcc_machine.specs.Step.{op_step}
use Rattle.dcc_machine.specs.WellFormed.{IsWordOperand, IsOperation}
use Rattle.dcc_machine.specs.Writes.{is_half_of, writes_half}
use Rattle.dcc_machine.specs.StateForm.{IsState}
use Rattle.dcc_machine.specs.LocationLaws.{half_in}
use Rattle.dcc_machine.specs.Access.{is_direct}
use Rattle.dcc_prog.specs.Clean.{top_in, sp_after, is_low}
use Rattle.dcc_prog.specs.CleanLaws.{SpIsAsTold}
use Rattle.dcc_machine.proofs.StateKept.{top-below}
use Rattle.dcc_machine.proofs.LocationKept.{word-other, word-taken, operand-half, op-half}

-- an operation that doesn't write SP leaves it
sp-unwritten : (op : Op) (s : State) → writes_half op Sp Low ≡ false → sp_after op s ≡ (pos (word_in s Sp) -ℤ pos 0)
sp-unwritten (Push a) s clear = cc
sp-unwritten (Pop a) s clear = cc
sp-unwritten (Call target) s clear = cc
sp-unwritten (Ret count) s clear = cc
sp-unwritten (Enter count) s clear = cc
sp-unwritten Leave s clear = cc
sp-unwritten (Mov (Word Sp) from) s clear = cc
sp-unwritten (Lea Sp ea) s clear = cc
sp-unwritten (AluOp Add (Word Sp) b) s clear = cc
sp-unwritten (AluOp Sub (Word Sp) b) s clear = cc
sp-unwritten (UnaryOp Inc (Word Sp)) s clear = cc
sp-unwritten (UnaryOp Dec (Word Sp)) s clear = cc
sp-unwritten op s clear = refl

-- SP within its bounds
bounded : (layout : Layout) (sp : ℕ) → layout.lo ≤ sp + layout.delta → is_low layout (pos sp -ℤ pos 0) ≡ false
bounded layout sp low =
    let same : sp + 0 ≡ sp = omega arith in
    let above : layout.lo < suc (sp + layout.delta) = omega (arith, low) in
    ap (λ n. is_low layout (pos n)) same
    ∙ ap₂ (λ a b. a || b) (lt-leb (suc sp) 0 (omega arith)) (lt-leb (suc (sp + layout.delta)) layout.lo above)

-- an operation that doesn't write SP leaves it in its bounds, where it lies in them
pub unwritten-bounds : (layout : Layout) (op : Op) (s : State) → writes_half op Sp Low ≡ false
    → layout.lo ≤ top_in layout s
    → is_low layout (sp_after op s) ≡ false
unwritten-bounds layout op s clear low =
    ap (is_low layout) (sp-unwritten op s clear) ∙ bounded layout (word_in s Sp) low

-- Numbers modulo 65,536.

wrapped-is : (z : ℤ) (n : ℕ) → (z +ℤ pos 131072) ≡ pos n → wrapped_of word_width z ≡ n % 65536
wrapped-is (pos m) n e = omega (arith, ints, e)
wrapped-is (negsuc m) n e = omega (arith, ints, e)

-- a constant, taken as a signed word, that is added or taken away
added : (sp c : ℕ) → wrapped_of word_width (pos sp -ℤ neg_ℤ (signed_of word_width c)) ≡ (sp + c) % 65536
unfolding signed_of
added sp c =
    elim (has_sign word_width c) as (λ b. wrapped_of word_width (pos sp -ℤ neg_ℤ (if b then pos c -ℤ pos 65536 else pos c)) ≡ (sp + c) % 65536) [
      | true ↦
          let e : ((pos sp -ℤ neg_ℤ (pos c -ℤ pos 65536)) +ℤ pos 131072) ≡ pos (sp + c + 65536) = omega (arith, ints) in
          wrapped-is (pos sp -ℤ neg_ℤ (pos c -ℤ pos 65536)) (sp + c + 65536) e ∙ omega arith
      | false ↦
          let e : ((pos sp -ℤ neg_ℤ (pos c)) +ℤ pos 131072) ≡ pos (sp + c + 131072) = omega (arith, ints) in
          wrapped-is (pos sp -ℤ neg_ℤ (pos c)) (sp + c + 131072) e ∙ omega arith
    ]

taken : (sp c : ℕ) → c < 65536 → wrapped_of word_width (pos sp -ℤ signed_of word_width c) ≡ (sp + 65536 - c) % 65536
unfolding signed_of
taken sp c fits =
    elim (has_sign word_width c) as (λ b. wrapped_of word_width (pos sp -ℤ (if b then pos c -ℤ pos 65536 else pos c)) ≡ (sp + 65536 - c) % 65536) [
      | true ↦
          let e : ((pos sp -ℤ (pos c -ℤ pos 65536)) +ℤ pos 131072) ≡ pos (sp + 65536 - c + 131072) = omega (arith, ints, fits) in
          wrapped-is (pos sp -ℤ (pos c -ℤ pos 65536)) (sp + 65536 - c + 131072) e ∙ omega arith
      | false ↦
          let e : ((pos sp -ℤ pos c) +ℤ pos 131072) ≡ pos (sp + 65536 - c + 65536) = omega (arith, ints, fits) in
          wrapped-is (pos sp -ℤ pos c) (sp + 65536 - c + 65536) e ∙ omega arith
    ]

lowered : (sp bytes : ℕ) → bytes ≤ 65536 → wrapped_of word_width (pos sp -ℤ pos bytes) ≡ (sp + (65536 - bytes)) % 65536
lowered sp bytes few =
    let e : ((pos sp -ℤ pos bytes) +ℤ pos 131072) ≡ pos (sp + (65536 - bytes) + 65536) = omega (arith, ints, few) in
    wrapped-is (pos sp -ℤ pos bytes) (sp + (65536 - bytes) + 65536) e ∙ omega arith

entered : (sp count : ℕ) → count < 65536
    → wrapped_of word_width (pos sp -ℤ pos (2 + count)) ≡ ((sp + 65534) % 65536 + (65536 - count)) % 65536
entered sp count few =
    let e : ((pos sp -ℤ pos (2 + count)) +ℤ pos 131072) ≡ pos (sp + 65534 + (65536 - count)) = omega (arith, ints, few) in
    wrapped-is (pos sp -ℤ pos (2 + count)) (sp + 65534 + (65536 - count)) e ∙ omega arith

-- SP takes a word
sp-taken : (s : State) (v : ℕ) → IsState s → word_in (with_word_in s Sp v) Sp ≡ v
sp-taken s v form = word-taken s Sp Sp v form.registers.count refl

-- a word is as its halves
pub by_halves : (s t : State) (r : Reg) → half_in t r Low ≡ half_in s r Low → half_in t r High ≡ half_in s r High
    → word_in t r ≡ word_in s r
by_halves s t r low high = omega (arith, low, high)

-- an operation that doesn't write SP, by the table of writes
sp-stays : (cpu : Cpu) (op : Op) (at : ℕ) (s : State) → IsOperation op → IsState s → writes_half op Sp Low ≡ false
    → writes_half op Sp High ≡ false
    → word_in (op_step cpu op at s) Sp ≡ wrapped_of word_width (sp_after op s)
sp-stays cpu op at s good form low high =
    let below = form.registers.words Sp in
    by_halves s (op_step cpu op at s) Sp (op-half cpu op at s Sp Low good form low) (op-half cpu op at s Sp High good form high)
    ∙ omega (arith, below)
    ∙ ap (wrapped_of word_width) (sym (sp-unwritten op s low))

clear-low : (b c : Bool) → (not b && not c) ≡ true → b ≡ false
clear-low false c e = refl
clear-low true c e = cc

clear-high : (b c : Bool) → (not b && not c) ≡ true → c ≡ false
clear-high false false e = refl
clear-high false true e = cc
clear-high true c e = cc

pub part-bp : (s : State) (base : Option Reg) → is_bp base ≡ true → part_of s base ≡ word_in s Bp
part-bp s (Some Bp) is = refl
part-bp s _ is = cc

part-none : (s : State) (index : Option Reg) → is_none index ≡ true → part_of s index ≡ 0
part-none s None is = refl
part-none s (Some r) is = cc

-- BP plus a displacement
summed : (bp disp : ℕ) → wrapped_of word_width (pos bp +ℤ signed_of word_width disp) ≡ (bp + 0 + disp) % 65536
unfolding signed_of
summed bp disp =
    elim (has_sign word_width disp) as (λ b. wrapped_of word_width (pos bp +ℤ (if b then pos disp -ℤ pos 65536 else pos disp)) ≡ (bp + 0 + disp) % 65536) [
      | true ↦
          let e : ((pos bp +ℤ (pos disp -ℤ pos 65536)) +ℤ pos 131072) ≡ pos (bp + disp + 65536) = omega (arith, ints) in
          wrapped-is (pos bp +ℤ (pos disp -ℤ pos 65536)) (bp + disp + 65536) e ∙ omega arith
      | false ↦
          let e : ((pos bp +ℤ pos disp) +ℤ pos 131072) ≡ pos (bp + disp + 131072) = omega (arith, ints) in
          wrapped-is (pos bp +ℤ pos disp) (bp + disp + 131072) e ∙ omega arith
    ]

lea-told : (s : State) (ea : Ea) → IsState s → is_direct ea ≡ true
    → word_in (lea_step Sp ea s) Sp ≡ wrapped_of word_width (pos (word_in s Bp) +ℤ signed_of word_width ea.disp)
lea-told s ea form direct =
    let both = and_parts (is_bp ea.base) (is_none ea.index) direct in
    sp-taken s (offset_of s ea) form
    ∙ ap₂ (λ b i. (b + i + ea.disp) % 65536) (part-bp s ea.base both.0) (part-none s ea.index both.1)
    ∙ sym (summed (word_in s Bp) ea.disp)

pop-told : (a : Operand) (s : State) → IsWordOperand a → IsState s → is_half_of Sp Low a ≡ false
    → is_half_of Sp High a ≡ false
    → word_in (pop_step a s) Sp ≡ wrapped_of word_width (pos (word_in s Sp + 2))
pop-told a s good form low high =
    let t = with_sp_raised 2 s in
    let count : length t.regs ≡ 8 = length-set s.regs 4 ((word_in s Sp + 2) % 65536) ∙ form.registers.count in
    let fits : top_word s < limit_of (operand_width a) = subst (λ w. top_word s < limit_of w) (sym good.width) (top-below s form) in
    by_halves t (with_operand t a (top_word s)) Sp (operand-half a (top_word s) t Sp Low count fits low) (operand-half a (top_word s) t Sp High count fits high)
    ∙ sp-taken s ((word_in s Sp + 2) % 65536) form

enter-told : (count : ℕ) (s : State) → IsState s → count < 65536
    → word_in (enter_step count s) Sp ≡ wrapped_of word_width (pos (word_in s Sp) -ℤ pos (2 + count))
enter-told count s form few =
    let t = after_push (word_in s Bp) s in
    let u = with_word_in t Bp (word_in t Sp) in
    let pushed : word_in t Sp ≡ (word_in s Sp + 65534) % 65536 = sp-taken s ((word_in s Sp + 65534) % 65536) form in
    let eight : length u.regs ≡ 8 =
    length-set t.regs 5 (word_in t Sp) ∙ length-set s.regs 4 ((word_in s Sp + 65534) % 65536) ∙ form.registers.count in
    word-taken u Sp Sp ((word_in u Sp + (65536 - count)) % 65536) eight refl
    ∙ ap (λ n. (n + (65536 - count)) % 65536) (word-other t Bp Sp (word_in t Sp) refl ∙ pushed)
    ∙ sym (entered (word_in s Sp) count few)

leave-told : (s : State) → IsState s → word_in (leave_step s) Sp ≡ wrapped_of word_width (pos (word_in s Bp + 2))
leave-told s form =
    let t = with_word_in s Sp (word_in s Bp) in
    let u = with_sp_raised 2 t in
    let eight : length t.regs ≡ 8 = length-set s.regs 4 (word_in s Bp) ∙ form.registers.count in
    word-other u Bp Sp (top_word t) refl
    ∙ word-taken t Sp Sp ((word_in t Sp + 2) % 65536) eight refl
    ∙ ap (λ n. (n + 2) % 65536) (sp-taken s (word_in s Bp) form)

pub sp-told : SpIsAsTold
unfolding sum_of difference_of increment_of decrement_of
sp-told cpu (Push a) at s good form told =
    sp-taken s ((word_in s Sp + 65534) % 65536) form ∙ sym (lowered (word_in s Sp) 2 (omega arith))
sp-told cpu (Pop a) at s good form told =
    pop-told a s good form (clear-low (is_half_of Sp Low a) (is_half_of Sp High a) told) (clear-high (is_half_of Sp Low a) (is_half_of Sp High a) told)
sp-told cpu (Call target) at s good form told =
    sp-taken s ((word_in s Sp + 65534) % 65536) form ∙ sym (lowered (word_in s Sp) 2 (omega arith))
sp-told cpu (Ret count) at s good form told = sp-taken s ((word_in s Sp + (2 + count)) % 65536) form ∙ omega arith
sp-told cpu (Enter count) at s good form told = enter-told count s form (ltb-true count 65536 told)
sp-told cpu Leave at s good form told = leave-told s form
sp-told cpu (Mov (Word Sp) (Word Bp)) at s good form told =
    let below = form.registers.words Bp in sp-taken s (word_in s Bp) form ∙ omega (arith, below)
sp-told cpu (Lea Sp ea) at s good form told = lea-told s ea form told
sp-told cpu (AluOp Add (Word Sp) (Const width c)) at s good form told =
    sp-taken s ((word_in s Sp + c + 0) % 65536) form ∙ omega arith ∙ sym (added (word_in s Sp) c)
sp-told cpu (AluOp Sub (Word Sp) (Const width c)) at s good form told =
    let fits : c < 65536 = subst (λ w. c < limit_of w) (sym good.widths) good.second in
    sp-taken s ((word_in s Sp + 65536 - (c + 0)) % 65536) form ∙ omega arith ∙ sym (taken (word_in s Sp) c fits)
sp-told cpu (UnaryOp Inc (Word Sp)) at s good form told =
    sp-taken s ((word_in s Sp + 1 + 0) % 65536) form ∙ omega (arith, ints)
sp-told cpu (UnaryOp Dec (Word Sp)) at s good form told =
    sp-taken s ((word_in s Sp + 65536 - (1 + 0)) % 65536) form ∙ omega arith
    ∙ sym (lowered (word_in s Sp) 1 (omega arith))
sp-told cpu op at s good form told =
    sp-stays cpu op at s good form (clear-low (writes_half op Sp Low) (writes_half op Sp High) told) (clear-high (writes_half op Sp Low) (writes_half op Sp High) told)
