-- An operation is read back from its spelling. So two operations of one spelling are one.
use Rattle.std.proofs.Common.{◌≡◌, ℕ, zero, suc, ◌+◌, ◌-◌, ◌*◌, ◌/◌, ◌%◌, ◌<◌, Bool, true, false, List, [], ◌∷◌, ◌++◌, length, take, drop, codes, refl, sym, ap, ◌∙◌, subst, add-one, arith}
use Rattle.std.specs.Prelude.{Option, Some, None, ◌==◌, if◌then◌else◌}
use Rattle.std.specs.Fmt.{digit_glyph}
use Rattle.std.specs.List.{join_with_byte}
use Rattle.std.proofs.lemmas.Bool.Decides.{nat_tests}
use Rattle.dcc_num.specs.declared.Reg.{Reg}
use Rattle.dcc_num.specs.declared.Reg.TheVariants.{Ax, Cx, Dx, Bx, Sp, Bp, Si, Di}
use Rattle.dcc_num.specs.declared.Half.{Half}
use Rattle.dcc_num.specs.declared.Half.TheVariants.{Low, High}
use Rattle.dcc_num.specs.declared.Width.{Width}
use Rattle.dcc_num.specs.declared.Width.TheVariants.{Byte as byte_width, Word as word_width}
use Rattle.dcc_machine.specs.declared.instr.Alu.{Alu}
use Rattle.dcc_machine.specs.declared.instr.Alu.TheVariants.{Add, Or, Adc, Sbb, And, Sub, Xor, Cmp, Test}
use Rattle.dcc_machine.specs.declared.instr.Shift.{Shift}
use Rattle.dcc_machine.specs.declared.instr.Shift.TheVariants.{Rol, Ror, Rcl, Rcr, Shl, Shr, Sar}
use Rattle.dcc_machine.specs.declared.instr.Count.{Count}
use Rattle.dcc_machine.specs.declared.instr.Count.TheVariants.{One, Cl, Const as ConstCount}
use Rattle.dcc_machine.specs.declared.instr.Unary.{Unary}
use Rattle.dcc_machine.specs.declared.instr.Unary.TheVariants.{Inc, Dec, Neg, Not, Mul, Imul, Div, Idiv}
use Rattle.dcc_machine.specs.declared.instr.Cond.{Cond}
use Rattle.dcc_machine.specs.declared.instr.Cond.TheVariants.{O, No, B, Ae, Z, Nz, Be, A, S, Ns, L, Ge, Le, G}
use Rattle.dcc_machine.specs.declared.instr.Plain.{Plain}
use Rattle.dcc_machine.specs.declared.instr.Plain.TheVariants.{Nop, Cbw, Cwd, Xlat, Clc, Stc, Cmc, Cli, Sti, Cld}
use Rattle.dcc_machine.specs.declared.instr.Ea.{Ea}
use Rattle.dcc_machine.specs.declared.instr.Operand.{Operand}
use Rattle.dcc_machine.specs.declared.instr.Operand.TheVariants.{Word, Byte, Seg, Mem, Const}
use Rattle.dcc_machine.specs.declared.instr.Op.{Op}
use Rattle.dcc_machine.specs.declared.instr.Op.TheVariants.{Alu as AluOp, Unary as UnaryOp, Shift as ShiftOp, Mov, Xchg}
use Rattle.dcc_machine.specs.declared.instr.Op.TheVariants.{Lea, Imul3, Push, Pop, Enter, Leave, Plain as PlainOp, Jump}
use Rattle.dcc_machine.specs.declared.instr.Op.TheVariants.{Branch, Loop, LoopE, LoopNe, Jcxz, Table, Call, Ret, Int21}
use Rattle.dcc_machine.specs.WellFormed.{IsOperand, IsOperation}
use Rattle.dcc_reread.specs.declared.mnemonic.Mnemonic.{Mnemonic}
use Rattle.dcc_reread.specs.declared.mnemonic.Mnemonic.TheVariants as name
use Rattle.dcc_spelled.specs.Hex.{hex_byte, hex_word}
use Rattle.dcc_spelled.specs.Spelling.{register_name, half_name, word_constant, brackets, operand, count_name, table_word, spelling}
use Rattle.dcc_reread.specs.Mnemonics.{mnemonic_name}
use Rattle.dcc_reread.specs.Reading.{byte_of, digit_value, byte_value, word_value, word_register_of, address_of, brackets_length, operand_of, first_length, first_of, behind_first, second_of, count_of, operation_of, operation_in, word_register_at}
use Rattle.dcc_reread.proofs.Forms.{AreRegisters, none, bx, bp, si, di, bx_si, bx_di, bp_si, bp_di, IsAddress, HasHalves, IsPlace, IsValue, IsCount, IsInForm, value-of}

-- Numbers ------------------------------------------------------------------------------------

pub digit-back : (d : ℕ) → d < 16 → digit_value (digit_glyph true d) ≡ d
digit-back d l = grind (arith, nat_tests)

pub byte-back : (n : ℕ) → digit_value (digit_glyph true (n / 16 % 16)) * 16 + digit_value (digit_glyph true (n % 16)) ≡ n % 256
byte-back n =
    let high = digit-back (n / 16 % 16) (omega arith) in
    let low = digit-back (n % 16) (omega arith) in
    omega (arith, high, low)

pub word-back : (n : ℕ) → n < 65536
    → (digit_value (digit_glyph true (n / 256 / 16 % 16)) * 16 + digit_value (digit_glyph true (n / 256 % 16))) * 256
    + (digit_value (digit_glyph true (n / 16 % 16)) * 16 + digit_value (digit_glyph true (n % 16))) ≡ n
word-back n l = omega (arith, byte-back (n / 256), byte-back n)

-- Lists --------------------------------------------------------------------------------------

pub take-all : (xs ys : List ℕ) → take (length xs) (xs ++ ys) ≡ xs
take-all [] ys = refl
take-all (x ∷ xs) ys = ap (λ (r : List ℕ). x ∷ r) (take-all xs ys)

drop-more : (xs : List ℕ) (y : ℕ) (ys : List ℕ) → drop (suc (length xs)) (xs ++ (y ∷ ys)) ≡ ys
drop-more [] y ys = refl
drop-more (x ∷ xs) y ys = drop-more xs y ys

pub drop-all : (xs : List ℕ) (y : ℕ) (ys : List ℕ) → drop (length xs + 1) (xs ++ (y ∷ ys)) ≡ ys
drop-all xs y ys = ap (λ n. drop n (xs ++ (y ∷ ys))) (add-one (length xs)) ∙ drop-more xs y ys

pub append-none : (xs : List ℕ) → xs ++ [] ≡ xs
append-none [] = refl
append-none (x ∷ xs) = ap (λ (r : List ℕ). x ∷ r) (append-none xs)

-- Registers and addresses --------------------------------------------------------------------

register-back : (r : Reg) (rest : List ℕ) → word_register_of (byte_of (register_name r ++ rest) 0) (byte_of (register_name r ++ rest) 1) ≡ r
register-back Ax rest = refl
register-back Cx rest = refl
register-back Dx rest = refl
register-back Bx rest = refl
register-back Sp rest = refl
register-back Bp rest = refl
register-back Si rest = refl
register-back Di rest = refl

record IsReadBack (base index : Option Reg) (disp : ℕ) (rest : List ℕ) : Type 0 where
  address : address_of (brackets (record { base = base; index = index; disp = disp }) ++ rest) ≡ record { base = base; index = index; disp = disp }
  size : brackets_length (brackets (record { base = base; index = index; disp = disp }) ++ rest) ≡ length (brackets (record { base = base; index = index; disp = disp }))

with_displacement : (base index : Option Reg) {m n : ℕ} → m ≡ n
    → ◌≡◌ {A = Ea} (record { base = base; index = index; disp = m }) (record { base = base; index = index; disp = n })
with_displacement base index e = ap (λ d. record { base = base; index = index; disp = d }) e

registers-back : {base index : Option Reg} → AreRegisters base index → (disp : ℕ) (rest : List ℕ) → disp < 65536 → IsReadBack base index disp rest
registers-back none zero rest l = record { address = refl; size = refl }
registers-back none (suc n) rest l = record { address = with_displacement None None (word-back (suc n) l); size = refl }
registers-back bx zero rest l = record { address = refl; size = refl }
registers-back bx (suc n) rest l = record { address = with_displacement (Some Bx) None (word-back (suc n) l); size = refl }
registers-back bp zero rest l = record { address = refl; size = refl }
registers-back bp (suc n) rest l = record { address = with_displacement (Some Bp) None (word-back (suc n) l); size = refl }
registers-back si zero rest l = record { address = refl; size = refl }
registers-back si (suc n) rest l = record { address = with_displacement None (Some Si) (word-back (suc n) l); size = refl }
registers-back di zero rest l = record { address = refl; size = refl }
registers-back di (suc n) rest l = record { address = with_displacement None (Some Di) (word-back (suc n) l); size = refl }
registers-back bx_si zero rest l = record { address = refl; size = refl }
registers-back bx_si (suc n) rest l = record { address = with_displacement (Some Bx) (Some Si) (word-back (suc n) l); size = refl }
registers-back bx_di zero rest l = record { address = refl; size = refl }
registers-back bx_di (suc n) rest l = record { address = with_displacement (Some Bx) (Some Di) (word-back (suc n) l); size = refl }
registers-back bp_si zero rest l = record { address = refl; size = refl }
registers-back bp_si (suc n) rest l = record { address = with_displacement (Some Bp) (Some Si) (word-back (suc n) l); size = refl }
registers-back bp_di zero rest l = record { address = refl; size = refl }
registers-back bp_di (suc n) rest l = record { address = with_displacement (Some Bp) (Some Di) (word-back (suc n) l); size = refl }

brackets-back : (ea : Ea) (rest : List ℕ) → IsAddress ea → IsReadBack ea.base ea.index ea.disp rest
brackets-back ea rest h = registers-back h.registers ea.disp rest h.small

address-alone : (ea : Ea) → IsAddress ea → address_of (brackets ea) ≡ ea
address-alone ea h = subst (λ (t : List ℕ). address_of t ≡ ea) (append-none (brackets ea)) (brackets-back ea [] h).address

-- Operands -----------------------------------------------------------------------------------

operand-back : (a : Operand) → IsOperand a → IsValue a → operand_of (operand a) ≡ a
operand-back (Word Ax) is h = refl
operand-back (Word Cx) is h = refl
operand-back (Word Dx) is h = refl
operand-back (Word Bx) is h = refl
operand-back (Word Sp) is h = refl
operand-back (Word Bp) is h = refl
operand-back (Word Si) is h = refl
operand-back (Word Di) is h = refl
operand-back (Byte Ax Low) is h = refl
operand-back (Byte Ax High) is h = refl
operand-back (Byte Cx Low) is h = refl
operand-back (Byte Cx High) is h = refl
operand-back (Byte Dx Low) is h = refl
operand-back (Byte Dx High) is h = refl
operand-back (Byte Bx Low) is h = refl
operand-back (Byte Bx High) is h = refl
operand-back (Byte Sp half) is h = absurd h
operand-back (Byte Bp half) is h = absurd h
operand-back (Byte Si half) is h = absurd h
operand-back (Byte Di half) is h = absurd h
operand-back (Seg zero) is h = refl
operand-back (Seg (suc zero)) is h = refl
operand-back (Seg (suc (suc zero))) is h = refl
operand-back (Seg (suc (suc (suc zero)))) is h = refl
operand-back (Seg (suc (suc (suc (suc n))))) is h = absurd (omega arith)
operand-back (Mem byte_width ea) is h = ap (λ (a : Ea). Mem byte_width a) (address-alone ea h)
operand-back (Mem word_width ea) is h = ap (λ (a : Ea). Mem word_width a) (address-alone ea h)
operand-back (Const byte_width n) is h = let e : n % 256 ≡ n = omega arith in ap (λ (m : ℕ). Const byte_width m) (byte-back n ∙ e)
operand-back (Const word_width n) is h = ap (λ (m : ℕ). Const word_width m) (word-back n is)

first-length : (a : Operand) (rest : List ℕ) → IsOperand a → IsPlace a → first_length (operand a ++ (44 ∷ rest)) ≡ length (operand a)
first-length (Word Ax) rest is h = refl
first-length (Word Cx) rest is h = refl
first-length (Word Dx) rest is h = refl
first-length (Word Bx) rest is h = refl
first-length (Word Sp) rest is h = refl
first-length (Word Bp) rest is h = refl
first-length (Word Si) rest is h = refl
first-length (Word Di) rest is h = refl
first-length (Byte Ax Low) rest is h = refl
first-length (Byte Ax High) rest is h = refl
first-length (Byte Cx Low) rest is h = refl
first-length (Byte Cx High) rest is h = refl
first-length (Byte Dx Low) rest is h = refl
first-length (Byte Dx High) rest is h = refl
first-length (Byte Bx Low) rest is h = refl
first-length (Byte Bx High) rest is h = refl
first-length (Byte Sp half) rest is h = absurd h
first-length (Byte Bp half) rest is h = absurd h
first-length (Byte Si half) rest is h = absurd h
first-length (Byte Di half) rest is h = absurd h
first-length (Seg zero) rest is h = refl
first-length (Seg (suc zero)) rest is h = refl
first-length (Seg (suc (suc zero))) rest is h = refl
first-length (Seg (suc (suc (suc zero)))) rest is h = refl
first-length (Seg (suc (suc (suc (suc n))))) rest is h = absurd (omega arith)
first-length (Mem byte_width ea) rest is h = let e = (brackets-back ea (44 ∷ rest) h).size in omega arith
first-length (Mem word_width ea) rest is h = let e = (brackets-back ea (44 ∷ rest) h).size in omega arith
first-length (Const width n) rest is h = absurd h

first-back : (a : Operand) (rest : List ℕ) → IsOperand a → IsPlace a → first_of (operand a ++ (44 ∷ rest)) ≡ a
first-back a rest is h =
    let cut : take (first_length (operand a ++ (44 ∷ rest))) (operand a ++ (44 ∷ rest)) ≡ operand a =
    ap (λ n. take n (operand a ++ (44 ∷ rest))) (first-length a rest is h) ∙ take-all (operand a) (44 ∷ rest) in
    ap operand_of cut ∙ operand-back a is (value-of a h)

behind-back : (a : Operand) (rest : List ℕ) → IsOperand a → IsPlace a → behind_first (operand a ++ (44 ∷ rest)) ≡ rest
behind-back a rest is h =
    ap (λ n. drop (n + 1) (operand a ++ (44 ∷ rest))) (first-length a rest is h) ∙ drop-all (operand a) 44 rest

second-back : (a b : Operand) → IsOperand a → IsPlace a → IsOperand b → IsValue b → second_of (operand a ++ (44 ∷ operand b)) ≡ b
second-back a b is h also k = ap operand_of (behind-back a (operand b) is h) ∙ operand-back b also k

count-back : (count : Count) → IsCount count → count_of (count_name count) ≡ count
count-back One h = refl
count-back Cl h = refl
count-back (ConstCount n) h = let e : n % 256 ≡ n = omega arith in ap (λ (m : ℕ). ConstCount m) (byte-back n ∙ e)

-- Mnemonics ----------------------------------------------------------------------------------

named : (m : Mnemonic) (rest : List ℕ) → operation_in (mnemonic_name m ++ (codes " " ++ rest)) ≡ Some (operation_of m rest)
named (name.Alu Add) rest = refl
named (name.Alu Or) rest = refl
named (name.Alu Adc) rest = refl
named (name.Alu Sbb) rest = refl
named (name.Alu And) rest = refl
named (name.Alu Sub) rest = refl
named (name.Alu Xor) rest = refl
named (name.Alu Cmp) rest = refl
named (name.Alu Test) rest = refl
named (name.Unary Inc) rest = refl
named (name.Unary Dec) rest = refl
named (name.Unary Neg) rest = refl
named (name.Unary Not) rest = refl
named (name.Unary Mul) rest = refl
named (name.Unary Imul) rest = refl
named (name.Unary Div) rest = refl
named (name.Unary Idiv) rest = refl
named (name.Shift Rol) rest = refl
named (name.Shift Ror) rest = refl
named (name.Shift Rcl) rest = refl
named (name.Shift Rcr) rest = refl
named (name.Shift Shl) rest = refl
named (name.Shift Shr) rest = refl
named (name.Shift Sar) rest = refl
named name.Mov rest = refl
named name.Xchg rest = refl
named name.Lea rest = refl
named name.Push rest = refl
named name.Pop rest = refl
named name.Enter rest = refl
named name.Leave rest = refl
named (name.Plain Nop) rest = refl
named (name.Plain Cbw) rest = refl
named (name.Plain Cwd) rest = refl
named (name.Plain Xlat) rest = refl
named (name.Plain Clc) rest = refl
named (name.Plain Stc) rest = refl
named (name.Plain Cmc) rest = refl
named (name.Plain Cli) rest = refl
named (name.Plain Sti) rest = refl
named (name.Plain Cld) rest = refl
named name.Jmp rest = refl
named (name.Branch O) rest = refl
named (name.Branch No) rest = refl
named (name.Branch B) rest = refl
named (name.Branch Ae) rest = refl
named (name.Branch Z) rest = refl
named (name.Branch Nz) rest = refl
named (name.Branch Be) rest = refl
named (name.Branch A) rest = refl
named (name.Branch S) rest = refl
named (name.Branch Ns) rest = refl
named (name.Branch L) rest = refl
named (name.Branch Ge) rest = refl
named (name.Branch Le) rest = refl
named (name.Branch G) rest = refl
named name.Loop rest = refl
named name.LoopE rest = refl
named name.LoopNe rest = refl
named name.Jcxz rest = refl
named name.Call rest = refl
named name.Ret rest = refl
named name.Int rest = refl

alone : (m : Mnemonic) → operation_in (mnemonic_name m) ≡ Some (operation_of m [])
alone (name.Alu Add) = refl
alone (name.Alu Or) = refl
alone (name.Alu Adc) = refl
alone (name.Alu Sbb) = refl
alone (name.Alu And) = refl
alone (name.Alu Sub) = refl
alone (name.Alu Xor) = refl
alone (name.Alu Cmp) = refl
alone (name.Alu Test) = refl
alone (name.Unary Inc) = refl
alone (name.Unary Dec) = refl
alone (name.Unary Neg) = refl
alone (name.Unary Not) = refl
alone (name.Unary Mul) = refl
alone (name.Unary Imul) = refl
alone (name.Unary Div) = refl
alone (name.Unary Idiv) = refl
alone (name.Shift Rol) = refl
alone (name.Shift Ror) = refl
alone (name.Shift Rcl) = refl
alone (name.Shift Rcr) = refl
alone (name.Shift Shl) = refl
alone (name.Shift Shr) = refl
alone (name.Shift Sar) = refl
alone name.Mov = refl
alone name.Xchg = refl
alone name.Lea = refl
alone name.Push = refl
alone name.Pop = refl
alone name.Enter = refl
alone name.Leave = refl
alone (name.Plain Nop) = refl
alone (name.Plain Cbw) = refl
alone (name.Plain Cwd) = refl
alone (name.Plain Xlat) = refl
alone (name.Plain Clc) = refl
alone (name.Plain Stc) = refl
alone (name.Plain Cmc) = refl
alone (name.Plain Cli) = refl
alone (name.Plain Sti) = refl
alone (name.Plain Cld) = refl
alone name.Jmp = refl
alone (name.Branch O) = refl
alone (name.Branch No) = refl
alone (name.Branch B) = refl
alone (name.Branch Ae) = refl
alone (name.Branch Z) = refl
alone (name.Branch Nz) = refl
alone (name.Branch Be) = refl
alone (name.Branch A) = refl
alone (name.Branch S) = refl
alone (name.Branch Ns) = refl
alone (name.Branch L) = refl
alone (name.Branch Ge) = refl
alone (name.Branch Le) = refl
alone (name.Branch G) = refl
alone name.Loop = refl
alone name.LoopE = refl
alone name.LoopNe = refl
alone name.Jcxz = refl
alone name.Call = refl
alone name.Ret = refl
alone name.Int = refl

-- Operations ---------------------------------------------------------------------------------

both : {X Y : Type 0} (make : X → Y → Op) {a c : X} {b d : Y} → a ≡ c → b ≡ d → make a b ≡ make c d
both make {c = c} {b = b} e f = ap (λ x. make x b) e ∙ ap (make c) f

with-two : (m : Mnemonic) (make : Operand → Operand → Op) (a b : Operand)
    → ((text : List ℕ) → operation_of m text ≡ make (first_of text) (second_of text))
    → IsOperand a → IsPlace a → IsOperand b → IsValue b
    → operation_in (mnemonic_name m ++ (codes " " ++ (operand a ++ (44 ∷ operand b)))) ≡ Some (make a b)
with-two m make a b is p q r s =
    named m (operand a ++ (44 ∷ operand b))
    ∙ ap Some (is (operand a ++ (44 ∷ operand b)) ∙ both make (first-back a (operand b) p q) (second-back a b p q r s))

-- the third byte of an operand is no comma
no_comma : (a : Operand) → IsOperand a → IsPlace a → byte_of (operand a) 2 == 44 ≡ false
no_comma (Word Ax) is h = refl
no_comma (Word Cx) is h = refl
no_comma (Word Dx) is h = refl
no_comma (Word Bx) is h = refl
no_comma (Word Sp) is h = refl
no_comma (Word Bp) is h = refl
no_comma (Word Si) is h = refl
no_comma (Word Di) is h = refl
no_comma (Byte Ax Low) is h = refl
no_comma (Byte Ax High) is h = refl
no_comma (Byte Cx Low) is h = refl
no_comma (Byte Cx High) is h = refl
no_comma (Byte Dx Low) is h = refl
no_comma (Byte Dx High) is h = refl
no_comma (Byte Bx Low) is h = refl
no_comma (Byte Bx High) is h = refl
no_comma (Byte Sp half) is h = absurd h
no_comma (Byte Bp half) is h = absurd h
no_comma (Byte Si half) is h = absurd h
no_comma (Byte Di half) is h = absurd h
no_comma (Seg zero) is h = refl
no_comma (Seg (suc zero)) is h = refl
no_comma (Seg (suc (suc zero))) is h = refl
no_comma (Seg (suc (suc (suc zero)))) is h = refl
no_comma (Seg (suc (suc (suc (suc n))))) is h = absurd (omega arith)
no_comma (Mem byte_width ea) is h = refl
no_comma (Mem word_width ea) is h = refl
no_comma (Const width n) is h = absurd h

imul-alone : (a : Operand) → IsOperand a → IsPlace a → operation_of (name.Unary Imul) (operand a) ≡ UnaryOp Imul (operand_of (operand a))
imul-alone a is h =
    ap (λ b. if b
    then Imul3 (word_register_at (operand a) 0) (first_of (drop 3 (operand a))) (word_value (behind_first (drop 3 (operand a))) 2)
    else UnaryOp Imul (operand_of (operand a))) (no_comma a is h)

unary-back : (operation : Unary) (a : Operand) → IsOperand a → IsPlace a → operation_in (spelling (UnaryOp operation a)) ≡ Some (UnaryOp operation a)
unary-back Imul a is h = named (name.Unary Imul) (operand a) ∙ ap Some (imul-alone a is h ∙ ap (UnaryOp Imul) (operand-back a is (value-of a h)))
unary-back Inc a is h = named (name.Unary Inc) (operand a) ∙ ap (λ x. Some (UnaryOp Inc x)) (operand-back a is (value-of a h))
unary-back Dec a is h = named (name.Unary Dec) (operand a) ∙ ap (λ x. Some (UnaryOp Dec x)) (operand-back a is (value-of a h))
unary-back Neg a is h = named (name.Unary Neg) (operand a) ∙ ap (λ x. Some (UnaryOp Neg x)) (operand-back a is (value-of a h))
unary-back Not a is h = named (name.Unary Not) (operand a) ∙ ap (λ x. Some (UnaryOp Not x)) (operand-back a is (value-of a h))
unary-back Mul a is h = named (name.Unary Mul) (operand a) ∙ ap (λ x. Some (UnaryOp Mul x)) (operand-back a is (value-of a h))
unary-back Div a is h = named (name.Unary Div) (operand a) ∙ ap (λ x. Some (UnaryOp Div x)) (operand-back a is (value-of a h))
unary-back Idiv a is h = named (name.Unary Idiv) (operand a) ∙ ap (λ x. Some (UnaryOp Idiv x)) (operand-back a is (value-of a h))

lea-at : (r : Reg) (rest : List ℕ) → operation_of name.Lea (register_name r ++ (44 ∷ rest)) ≡ Lea r (address_of rest)
lea-at Ax rest = refl
lea-at Cx rest = refl
lea-at Dx rest = refl
lea-at Bx rest = refl
lea-at Sp rest = refl
lea-at Bp rest = refl
lea-at Si rest = refl
lea-at Di rest = refl

product-at : (r : Reg) (rest : List ℕ) → operation_of (name.Unary Imul) (register_name r ++ (44 ∷ rest)) ≡ Imul3 r (first_of rest) (word_value (behind_first rest) 2)
product-at Ax rest = refl
product-at Cx rest = refl
product-at Dx rest = refl
product-at Bx rest = refl
product-at Sp rest = refl
product-at Bp rest = refl
product-at Si rest = refl
product-at Di rest = refl

table-at : (r : Reg) (n : ℕ) → n < 65536 → operation_of name.Jmp (table_word r n) ≡ Table r n
table-at Ax n l = ap (Table Ax) (word-back n l)
table-at Cx n l = ap (Table Cx) (word-back n l)
table-at Dx n l = ap (Table Dx) (word-back n l)
table-at Bx n l = ap (Table Bx) (word-back n l)
table-at Sp n l = ap (Table Sp) (word-back n l)
table-at Bp n l = ap (Table Bp) (word-back n l)
table-at Si n l = ap (Table Si) (word-back n l)
table-at Di n l = ap (Table Di) (word-back n l)

-- an operation whose operands are in form is read back from its spelling
pub read-back : (op : Op) → IsOperation op → IsInForm op → operation_in (spelling op) ≡ Some op
read-back (AluOp operation a b) is h = with-two (name.Alu operation) (AluOp operation) a b (λ text. refl) is.first h.0 is.second h.1
read-back (UnaryOp operation a) is h = unary-back operation a is h
read-back (ShiftOp operation a count) is h =
    named (name.Shift operation) (operand a ++ (44 ∷ count_name count))
    ∙ ap Some (both (ShiftOp operation) (first-back a (count_name count) is.operand h.0)
    (ap count_of (behind-back a (count_name count) is.operand h.0) ∙ count-back count h.1))
read-back (Mov to from) is h = with-two name.Mov Mov to from (λ text. refl) is.first h.0 is.second h.1
read-back (Xchg a b) is h = with-two name.Xchg Xchg a b (λ text. refl) is.first h.0 is.second h.1
read-back (Lea r ea) is h =
    named name.Lea (register_name r ++ (44 ∷ brackets ea)) ∙ ap Some (lea-at r (brackets ea) ∙ ap (Lea r) (address-alone ea h))
read-back (Imul3 r a constant) is h =
    let rest : List ℕ = operand a ++ (44 ∷ word_constant constant) in
    named (name.Unary Imul) (register_name r ++ (44 ∷ rest))
    ∙ ap Some (product-at r rest ∙ both (Imul3 r) (first-back a (word_constant constant) is.operand h)
    (ap (λ (t : List ℕ). word_value t 2) (behind-back a (word_constant constant) is.operand h) ∙ word-back constant is.fits))
read-back (Push a) is h = named name.Push (operand a) ∙ ap (λ x. Some (Push x)) (operand-back a is.operand h)
read-back (Pop a) is h = named name.Pop (operand a) ∙ ap (λ x. Some (Pop x)) (operand-back a is.operand h)
read-back Leave is h = alone name.Leave
read-back (PlainOp operation) is h = alone (name.Plain operation)
read-back (Table r offset) is h = named name.Jmp (table_word r offset) ∙ ap Some (table-at r offset h)
read-back (Ret zero) is h = alone name.Ret
read-back (Ret (suc n)) is h = named name.Ret (word_constant (suc n)) ∙ ap (λ m. Some (Ret m)) (word-back (suc n) h)
read-back Int21 is h = named name.Int (codes "0x21")
read-back (Enter n) is h = named name.Enter (word_constant n) ∙ ap (λ k. Some (Enter k)) (word-back n h)
read-back (Jump n) is h = named name.Jmp (word_constant n) ∙ ap (λ k. Some (Jump k)) (word-back n h)
read-back (Branch condition n) is h = named (name.Branch condition) (word_constant n) ∙ ap (λ k. Some (Branch condition k)) (word-back n h)
read-back (Loop n) is h = named name.Loop (word_constant n) ∙ ap (λ k. Some (Loop k)) (word-back n h)
read-back (LoopE n) is h = named name.LoopE (word_constant n) ∙ ap (λ k. Some (LoopE k)) (word-back n h)
read-back (LoopNe n) is h = named name.LoopNe (word_constant n) ∙ ap (λ k. Some (LoopNe k)) (word-back n h)
read-back (Jcxz n) is h = named name.Jcxz (word_constant n) ∙ ap (λ k. Some (Jcxz k)) (word-back n h)
read-back (Call n) is h = named name.Call (word_constant n) ∙ ap (λ k. Some (Call k)) (word-back n h)
