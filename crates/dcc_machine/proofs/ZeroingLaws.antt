-- XOR and SUB of a register with itself: the result is 0 and the flags are constants, whatever the register holds.
use Rattle.std.proofs.Common.{◌≡◌, ℕ, ◌+◌, ◌-◌, ◌%◌, ◌^◌, Bool, true, false, refl, ap, ◌∙◌, eqb-true, arith}
use Rattle.std.specs.Prelude.{ℤ, pos, ◌-ℤ◌, nat_lt, ◌&&◌, slice_index}
use Rattle.std.specs.Int.Bits.{xor_self}
use Rattle.std.proofs.Math.IntN.{+ℤ_idr, +ℤ_invr}
use Rattle.dcc_num.specs.declared.Width.{Width}
use Rattle.dcc_num.specs.declared.Width.TheVariants.{Byte as byte_width, Word as word_width}
use Rattle.dcc_num.specs.declared.Reg.{Reg}
use Rattle.dcc_num.specs.declared.Half.{Half}
use Rattle.dcc_num.specs.declared.Half.TheVariants.{Low, High}
use Rattle.dcc_num.specs.declared.Flags.{Flags}
use Rattle.dcc_num.specs.Numbers.{signed_of, fits_signed, result_flags}
use Rattle.dcc_num.specs.Sum.{difference_of}
use Rattle.dcc_num.specs.Logic.{exclusive_of}
use Rattle.dcc_machine.specs.declared.instr.Alu.{Alu as AluName}
use Rattle.dcc_machine.specs.declared.instr.Alu.TheVariants.{Xor, Sub}
use Rattle.dcc_machine.specs.declared.instr.Operand.{Operand}
use Rattle.dcc_machine.specs.declared.instr.Operand.TheVariants.{Word, Byte}
use Rattle.dcc_machine.specs.Machine.{State, reg_number, word_in, half_of_word, operand_value, is_general}
use Rattle.dcc_machine.specs.Writes.{is_same_register, is_same_half}
use Rattle.dcc_machine.specs.Wanted.{is_same_general, is_zeroing}
use Rattle.dcc_machine.proofs.OperationForms.{alu_result}
use Rattle.dcc_machine.proofs.AlikeValues.{and-parts}

-- 0 and its flags
abbrev pub zeroed : ℕ × Flags
zeroed = (0, record { cf = false; zf = true; sf = false; of = false })

no-difference : (z : ℤ) → z -ℤ z -ℤ pos 0 ≡ pos 0
no-difference z = +ℤ_idr (z -ℤ z) ∙ +ℤ_invr z

pub difference-self : (w : Width) (n : ℕ) → difference_of w n n false ≡ zeroed
unfolding difference_of result_flags fits_signed
difference-self byte_width n =
    let r : (n + 2 ^ 8 - (n + 0)) % 2 ^ 8 ≡ 0 = omega arith in
    let less : nat_lt n (n + 0) ≡ false = grind arith in
    let exact = no-difference (signed_of byte_width n) in
    cc
difference-self word_width n =
    let r : (n + 2 ^ 16 - (n + 0)) % 2 ^ 16 ≡ 0 = omega arith in
    let less : nat_lt n (n + 0) ≡ false = grind arith in
    let exact = no-difference (signed_of word_width n) in
    cc

pub exclusive-self : (w : Width) (n : ℕ) → exclusive_of w n n ≡ zeroed
unfolding exclusive_of result_flags
exclusive-self byte_width n = ap (λ r. (r, result_flags byte_width r false false)) (xor_self n)
exclusive-self word_width n = ap (λ r. (r, result_flags word_width r false false)) (xor_self n)

same-word : (s : State) (r q : Reg) → is_same_register r q ≡ true → word_in s r ≡ word_in s q
same-word s r q e = ap (slice_index s.regs) (eqb-true (reg_number r) (reg_number q) e)

same-half : (half other : Half) (n : ℕ) → is_same_half half other ≡ true → half_of_word half n ≡ half_of_word other n
same-half Low Low n e = refl
same-half Low High n e = cc
same-half High Low n e = cc
same-half High High n e = refl

same-value : (s : State) (a b : Operand) → is_same_general a b ≡ true → operand_value s a ≡ operand_value s b
same-value s (Word r) (Word q) e = same-word s r q (and-parts (is_general r) (is_same_register r q) e).1
same-value s (Byte r half) (Byte q other) e =
    let parts = and-parts (is_same_register r q) (is_same_half half other)
    (and-parts (is_general r) (is_same_register r q && is_same_half half other) e).1 in
    ap (half_of_word half) (same-word s r q parts.0) ∙ same-half half other (word_in s q) parts.1
same-value s a b e = cc

pub zeroed-result : (operation : AluName) (a b : Operand) (w : Width) (s : State) (carry : Bool)
    → is_zeroing operation a b ≡ true
    → alu_result operation w (operand_value s a) (operand_value s b) carry ≡ zeroed
zeroed-result Xor a b w s carry e =
    ap (λ n. exclusive_of w n (operand_value s b)) (same-value s a b e) ∙ exclusive-self w (operand_value s b)
zeroed-result Sub a b w s carry e =
    ap (λ n. difference_of w n (operand_value s b) false) (same-value s a b e) ∙ difference-self w (operand_value s b)
zeroed-result operation a b w s carry e = cc
