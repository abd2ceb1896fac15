-- No line of a listing has a line feed.
use Rattle.std.proofs.Common.{◌≡◌, ℕ, zero, suc, ◌/◌, ◌%◌, ◌<◌, Bool, true, false, not, ◌==◌, if◌then◌else◌, List, [], ◌∷◌, ◌++◌, length, Option, Some, None, slice_index_or, codes, refl, subst, arith}
use Rattle.std.specs.List.{list_all, join_with_byte, AllByRecursion}
use Rattle.std.specs.Fmt.{digit_glyph, digits_onto, digits, decimal}
use Rattle.std.proofs.lemmas.Bool.Decides.{nat_tests}
use Rattle.dcc_num.specs.declared.Reg.{Reg}
use Rattle.dcc_num.specs.declared.Reg.TheVariants.{Ax, Cx, Dx, Bx, Sp, Bp, Si, Di}
use Rattle.dcc_num.specs.declared.Half.{Half}
use Rattle.dcc_num.specs.declared.Half.TheVariants.{Low, High}
use Rattle.dcc_num.specs.declared.Width.TheVariants.{Byte as byte_width, Word as word_width}
use Rattle.dcc_machine.specs.declared.instr.Alu.{Alu}
use Rattle.dcc_machine.specs.declared.instr.Alu.TheVariants.{Add, Or, Adc, Sbb, And, Sub, Xor, Cmp, Test}
use Rattle.dcc_machine.specs.declared.instr.Shift.{Shift}
use Rattle.dcc_machine.specs.declared.instr.Shift.TheVariants.{Rol, Ror, Rcl, Rcr, Shl, Shr, Sar}
use Rattle.dcc_machine.specs.declared.instr.Count.{Count}
use Rattle.dcc_machine.specs.declared.instr.Count.TheVariants.{One, Cl, Const as ConstCount}
use Rattle.dcc_machine.specs.declared.instr.Unary.{Unary}
use Rattle.dcc_machine.specs.declared.instr.Unary.TheVariants.{Inc, Dec, Neg, Not, Mul, Imul, Div, Idiv}
use Rattle.dcc_machine.specs.declared.instr.Cond.{Cond}
use Rattle.dcc_machine.specs.declared.instr.Cond.TheVariants.{O, No, B, Ae, Z, Nz, Be, A, S, Ns, L, Ge, Le, G}
use Rattle.dcc_machine.specs.declared.instr.Plain.{Plain}
use Rattle.dcc_machine.specs.declared.instr.Plain.TheVariants.{Nop, Cbw, Cwd, Xlat, Clc, Stc, Cmc, Cli, Sti, Cld}
use Rattle.dcc_machine.specs.declared.instr.Ea.{Ea}
use Rattle.dcc_machine.specs.declared.instr.Operand.{Operand}
use Rattle.dcc_machine.specs.declared.instr.Operand.TheVariants.{Word, Byte, Seg, Mem, Const}
use Rattle.dcc_machine.specs.declared.instr.Op.{Op}
use Rattle.dcc_machine.specs.declared.instr.Op.TheVariants.{Alu as AluOp, Unary as UnaryOp, Shift as ShiftOp, Mov, Xchg}
use Rattle.dcc_machine.specs.declared.instr.Op.TheVariants.{Lea, Imul3, Push, Pop, Enter, Leave, Plain as PlainOp, Jump}
use Rattle.dcc_machine.specs.declared.instr.Op.TheVariants.{Branch, Loop, LoopE, LoopNe, Jcxz, Table, Call, Ret, Int21}
use Rattle.dcc_machine.proofs.TableLaws.{and_left, and_right, and_both}
use Rattle.dcc_spelled.specs.Hex.{hex_byte, hex_word, hex_bytes}
use Rattle.dcc_spelled.specs.Spelling.{alu_name, unary_name, shift_name, plain_name, branch_name, mnemonic, register_name, half_name, segment_name, byte_constant, word_constant, displacement_parts, register_part, registers_of, brackets, operand, count_name, table_word, operands, with_operands, spelling}
use Rattle.dcc_list.specs.Text.{IsLine}

-- the byte is no line feed
abbrev pub no_feed : ℕ → Bool
no_feed byte = not (byte == 10)

-- the bytes have no line feed
abbrev pub Unbroken : List ℕ → Type 0
Unbroken bytes = list_all no_feed bytes ≡ true

pub joined : (xs ys : List ℕ) → Unbroken xs → Unbroken ys → Unbroken (xs ++ ys)
joined [] ys h k = k
joined (x ∷ xs) ys h k = and_both (no_feed x) _ (and_left (no_feed x) _ h) (joined xs ys (and_right (no_feed x) _ h) k)

no_feed_at : (xs : List ℕ) (k d : ℕ) → Unbroken xs → k < length xs → no_feed (slice_index_or xs k d) ≡ true
no_feed_at [] k d h l = absurd (omega arith)
no_feed_at (x ∷ xs) zero d h l = and_left (no_feed x) _ h
no_feed_at (x ∷ xs) (suc k) d h l = no_feed_at xs k d (and_right (no_feed x) _ h) (omega arith)

pub is_line : (xs : List ℕ) → Unbroken xs → IsLine xs
is_line xs h contains =
    let none : no_feed 10 ≡ true = subst (λ b. no_feed b ≡ true) contains.2 (no_feed_at xs contains.0 10 h contains.1) in
    let f : ⊥ = cc in f

-- Numbers -----------------------------------------------------------------------------------

digit-unbroken : (n : ℕ) → no_feed (digit_glyph true n) ≡ true
digit-unbroken n = grind (arith, nat_tests)

pub byte-unbroken : (n : ℕ) → Unbroken (hex_byte n)
byte-unbroken n = and_both _ _ (digit-unbroken (n / 16 % 16)) (and_both _ _ (digit-unbroken (n % 16)) refl)

pub word-unbroken : (n : ℕ) → Unbroken (hex_word n)
word-unbroken n = joined (hex_byte (n / 256)) (hex_byte n) (byte-unbroken (n / 256)) (byte-unbroken n)

pub bytes-unbroken : (bytes : List ℕ) → Unbroken (hex_bytes bytes)
bytes-unbroken [] = refl
bytes-unbroken (byte ∷ bytes) = joined (32 ∷ hex_byte byte) (hex_bytes bytes) (byte-unbroken byte) (bytes-unbroken bytes)

pub glyph-unbroken : (n : ℕ) → no_feed (digit_glyph false n) ≡ true
glyph-unbroken n = grind (arith, nat_tests)

onto-unbroken : (most n : ℕ) (rest : List ℕ) → Unbroken rest → Unbroken (digits_onto most 10 false n rest)
onto-unbroken zero n rest h = h
onto-unbroken (suc most) n rest h =
    let more : Unbroken (digit_glyph false (n % 10) ∷ rest) = and_both _ _ (glyph-unbroken (n % 10)) h in
    let Holds : Bool → Type 0 = λ b. Unbroken (if b then digit_glyph false (n % 10) ∷ rest else digits_onto most 10 false (n / 10) (digit_glyph false (n % 10) ∷ rest)) in
    elim (n / 10 == 0) as Holds [ true ↦ more | false ↦ onto-unbroken most (n / 10) (digit_glyph false (n % 10) ∷ rest) more ]

pub decimal-unbroken : (n : ℕ) → Unbroken (decimal n)
unfolding digits
decimal-unbroken n = onto-unbroken 64 n [] refl

-- Spellings ---------------------------------------------------------------------------------

alu_name-unbroken : (x : Alu) → Unbroken (alu_name x)
alu_name-unbroken Add = refl
alu_name-unbroken Or = refl
alu_name-unbroken Adc = refl
alu_name-unbroken Sbb = refl
alu_name-unbroken And = refl
alu_name-unbroken Sub = refl
alu_name-unbroken Xor = refl
alu_name-unbroken Cmp = refl
alu_name-unbroken Test = refl

unary_name-unbroken : (x : Unary) → Unbroken (unary_name x)
unary_name-unbroken Inc = refl
unary_name-unbroken Dec = refl
unary_name-unbroken Neg = refl
unary_name-unbroken Not = refl
unary_name-unbroken Mul = refl
unary_name-unbroken Imul = refl
unary_name-unbroken Div = refl
unary_name-unbroken Idiv = refl

shift_name-unbroken : (x : Shift) → Unbroken (shift_name x)
shift_name-unbroken Rol = refl
shift_name-unbroken Ror = refl
shift_name-unbroken Rcl = refl
shift_name-unbroken Rcr = refl
shift_name-unbroken Shl = refl
shift_name-unbroken Shr = refl
shift_name-unbroken Sar = refl

plain_name-unbroken : (x : Plain) → Unbroken (plain_name x)
plain_name-unbroken Nop = refl
plain_name-unbroken Cbw = refl
plain_name-unbroken Cwd = refl
plain_name-unbroken Xlat = refl
plain_name-unbroken Clc = refl
plain_name-unbroken Stc = refl
plain_name-unbroken Cmc = refl
plain_name-unbroken Cli = refl
plain_name-unbroken Sti = refl
plain_name-unbroken Cld = refl

branch_name-unbroken : (x : Cond) → Unbroken (branch_name x)
branch_name-unbroken O = refl
branch_name-unbroken No = refl
branch_name-unbroken B = refl
branch_name-unbroken Ae = refl
branch_name-unbroken Z = refl
branch_name-unbroken Nz = refl
branch_name-unbroken Be = refl
branch_name-unbroken A = refl
branch_name-unbroken S = refl
branch_name-unbroken Ns = refl
branch_name-unbroken L = refl
branch_name-unbroken Ge = refl
branch_name-unbroken Le = refl
branch_name-unbroken G = refl

mnemonic-unbroken : (op : Op) → Unbroken (mnemonic op)
mnemonic-unbroken (AluOp o a b) = alu_name-unbroken o
mnemonic-unbroken (UnaryOp o a) = unary_name-unbroken o
mnemonic-unbroken (ShiftOp o a count) = shift_name-unbroken o
mnemonic-unbroken (Mov a b) = refl
mnemonic-unbroken (Xchg a b) = refl
mnemonic-unbroken (Lea r ea) = refl
mnemonic-unbroken (Imul3 r a n) = refl
mnemonic-unbroken (Push a) = refl
mnemonic-unbroken (Pop a) = refl
mnemonic-unbroken (Enter n) = refl
mnemonic-unbroken Leave = refl
mnemonic-unbroken (PlainOp o) = plain_name-unbroken o
mnemonic-unbroken (Jump n) = refl
mnemonic-unbroken (Branch o n) = branch_name-unbroken o
mnemonic-unbroken (Loop n) = refl
mnemonic-unbroken (LoopE n) = refl
mnemonic-unbroken (LoopNe n) = refl
mnemonic-unbroken (Jcxz n) = refl
mnemonic-unbroken (Table r n) = refl
mnemonic-unbroken (Call n) = refl
mnemonic-unbroken (Ret n) = refl
mnemonic-unbroken Int21 = refl

register_name-unbroken : (x : Reg) → Unbroken (register_name x)
register_name-unbroken Ax = refl
register_name-unbroken Cx = refl
register_name-unbroken Dx = refl
register_name-unbroken Bx = refl
register_name-unbroken Sp = refl
register_name-unbroken Bp = refl
register_name-unbroken Si = refl
register_name-unbroken Di = refl

half_name-unbroken : (r : Reg) (half : Half) → Unbroken (half_name r half)
half_name-unbroken Ax Low = refl
half_name-unbroken Ax High = refl
half_name-unbroken Cx Low = refl
half_name-unbroken Cx High = refl
half_name-unbroken Dx Low = refl
half_name-unbroken Dx High = refl
half_name-unbroken Bx Low = refl
half_name-unbroken Bx High = refl
half_name-unbroken Sp Low = refl
half_name-unbroken Sp High = refl
half_name-unbroken Bp Low = refl
half_name-unbroken Bp High = refl
half_name-unbroken Si Low = refl
half_name-unbroken Si High = refl
half_name-unbroken Di Low = refl
half_name-unbroken Di High = refl

segment_name-unbroken : (number : ℕ) → Unbroken (segment_name number)
segment_name-unbroken zero = refl
segment_name-unbroken (suc zero) = refl
segment_name-unbroken (suc (suc zero)) = refl
segment_name-unbroken (suc (suc (suc number))) = refl

small-unbroken : (number : ℕ) → Unbroken (byte_constant number)
small-unbroken number = joined (codes "0x") (hex_byte number) refl (byte-unbroken number)

constant-unbroken : (number : ℕ) → Unbroken (word_constant number)
constant-unbroken number = joined (codes "0x") (hex_word number) refl (word-unbroken number)

all-joined : (xs ys : List (List ℕ)) → AllByRecursion Unbroken xs → AllByRecursion Unbroken ys → AllByRecursion Unbroken (xs ++ ys)
all-joined [] ys h k = k
all-joined (x ∷ xs) ys h k = (h.0, all-joined xs ys h.1 k)

join-unbroken : (c : ℕ) (parts : List (List ℕ)) → no_feed c ≡ true → AllByRecursion Unbroken parts → Unbroken (join_with_byte c parts)
join-unbroken c [] n h = refl
join-unbroken c (x ∷ []) n h = h.0
join-unbroken c (x ∷ y ∷ parts) n h =
    joined x (c ∷ join_with_byte c (y ∷ parts)) h.0 (and_both (no_feed c) _ n (join-unbroken c (y ∷ parts) n h.1))

part-unbroken : (r : Option Reg) → AllByRecursion Unbroken (register_part r)
part-unbroken None = tt
part-unbroken (Some r) = (register_name-unbroken r, tt)

displacement-unbroken : (registers : List (List ℕ)) (n : ℕ) → AllByRecursion Unbroken (displacement_parts registers n)
displacement-unbroken [] zero = (constant-unbroken 0, tt)
displacement-unbroken [] (suc n) = (constant-unbroken (suc n), tt)
displacement-unbroken (r ∷ registers) zero = tt
displacement-unbroken (r ∷ registers) (suc n) = (constant-unbroken (suc n), tt)

brackets-unbroken : (ea : Ea) → Unbroken (brackets ea)
brackets-unbroken ea =
    let registers = all-joined (register_part ea.base) (register_part ea.index) (part-unbroken ea.base) (part-unbroken ea.index) in
    let parts = all-joined (registers_of ea) (displacement_parts (registers_of ea) ea.disp) registers (displacement-unbroken (registers_of ea) ea.disp) in
    let inside : List ℕ = join_with_byte 43 (registers_of ea ++ displacement_parts (registers_of ea) ea.disp) in
    let inside-unbroken = join-unbroken 43 (registers_of ea ++ displacement_parts (registers_of ea) ea.disp) refl parts in
    joined (codes "[") (inside ++ codes "]") refl (joined inside (codes "]") inside-unbroken refl)

operand-unbroken : (a : Operand) → Unbroken (operand a)
operand-unbroken (Word r) = register_name-unbroken r
operand-unbroken (Byte r half) = half_name-unbroken r half
operand-unbroken (Seg number) = segment_name-unbroken number
operand-unbroken (Mem byte_width ea) = joined (codes "byte") (codes " " ++ brackets ea) refl (joined (codes " ") (brackets ea) refl (brackets-unbroken ea))
operand-unbroken (Mem word_width ea) = joined (codes "word") (codes " " ++ brackets ea) refl (joined (codes " ") (brackets ea) refl (brackets-unbroken ea))
operand-unbroken (Const byte_width number) = small-unbroken number
operand-unbroken (Const word_width number) = constant-unbroken number

count_name-unbroken : (count : Count) → Unbroken (count_name count)
count_name-unbroken One = refl
count_name-unbroken Cl = refl
count_name-unbroken (ConstCount number) = small-unbroken number

table_word-unbroken : (r : Reg) (n : ℕ) → Unbroken (table_word r n)
table_word-unbroken r n =
    let last : List ℕ = word_constant n ++ codes "]" in
    let sum : List ℕ = codes "+" ++ last in
    joined (codes "cs:[") (register_name r ++ sum) refl (joined (register_name r) sum (register_name-unbroken r)
    (joined (codes "+") last refl (joined (word_constant n) (codes "]") (constant-unbroken n) refl)))

one : (a : Operand) → AllByRecursion Unbroken (operand a ∷ [])
one a = (operand-unbroken a, tt)

two : (a b : Operand) → AllByRecursion Unbroken (operand a ∷ operand b ∷ [])
two a b = (operand-unbroken a, (operand-unbroken b, tt))

operands-unbroken : (op : Op) → AllByRecursion Unbroken (operands op)
operands-unbroken (AluOp o a b) = two a b
operands-unbroken (UnaryOp o a) = one a
operands-unbroken (ShiftOp o a count) = (operand-unbroken a, (count_name-unbroken count, tt))
operands-unbroken (Mov a b) = two a b
operands-unbroken (Xchg a b) = two a b
operands-unbroken (Lea r ea) = (register_name-unbroken r, (brackets-unbroken ea, tt))
operands-unbroken (Imul3 r a n) = (register_name-unbroken r, (operand-unbroken a, (constant-unbroken n, tt)))
operands-unbroken (Push a) = one a
operands-unbroken (Pop a) = one a
operands-unbroken (Enter n) = (constant-unbroken n, tt)
operands-unbroken Leave = tt
operands-unbroken (PlainOp o) = tt
operands-unbroken (Jump n) = (constant-unbroken n, tt)
operands-unbroken (Branch o n) = (constant-unbroken n, tt)
operands-unbroken (Loop n) = (constant-unbroken n, tt)
operands-unbroken (LoopE n) = (constant-unbroken n, tt)
operands-unbroken (LoopNe n) = (constant-unbroken n, tt)
operands-unbroken (Jcxz n) = (constant-unbroken n, tt)
operands-unbroken (Table r n) = (table_word-unbroken r n, tt)
operands-unbroken (Call n) = (constant-unbroken n, tt)
operands-unbroken (Ret zero) = tt
operands-unbroken (Ret (suc n)) = (constant-unbroken (suc n), tt)
operands-unbroken Int21 = (refl, tt)

with_operands-unbroken : (name : List ℕ) (parts : List (List ℕ)) → Unbroken name → AllByRecursion Unbroken parts → Unbroken (with_operands name parts)
with_operands-unbroken name [] n h = n
with_operands-unbroken name (x ∷ parts) n h =
    joined name (codes " " ++ join_with_byte 44 (x ∷ parts)) n
    (joined (codes " ") (join_with_byte 44 (x ∷ parts)) refl (join-unbroken 44 (x ∷ parts) refl h))

pub spelling-unbroken : (op : Op) → Unbroken (spelling op)
spelling-unbroken op = with_operands-unbroken (mnemonic op) (operands op) (mnemonic-unbroken op) (operands-unbroken op)
