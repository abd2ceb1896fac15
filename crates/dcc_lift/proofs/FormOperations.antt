-- The statements of operations are sound where their operands stand at good places of their widths.
use Rattle.std.proofs.Common.{◌≡◌, ℕ, ◌<◌, Bool, true, false, ◌||◌, ◌==◌, if◌then◌else◌, List, [], ◌∷◌, ◌++◌, Option, Some, None, refl, sym, ◌∙◌, subst, eqb-true, arith}
use Rattle.std.specs.Prelude.{◌/◌, ◌%◌}
use Rattle.dcc_num.specs.declared.Width.{Width}
use Rattle.dcc_num.specs.declared.Width.TheVariants.{Byte as byte_width, Word as word_width}
use Rattle.dcc_num.specs.declared.Reg.{Reg}
use Rattle.dcc_num.specs.declared.Reg.TheVariants.{Ax, Dx}
use Rattle.dcc_num.specs.declared.Half.TheVariants.{Low}
use Rattle.dcc_num.specs.Numbers.{bits_of, limit_of}
use Rattle.dcc_machine.specs.declared.cpu.Cpu.{Cpu}
use Rattle.dcc_machine.specs.declared.cpu.Cpu.TheVariants.{I8086, I186}
use Rattle.dcc_machine.specs.declared.instr.Alu.{Alu}
use Rattle.dcc_machine.specs.declared.instr.Alu.TheVariants.{Add, Or, Adc, Sbb, And, Sub, Xor, Cmp, Test}
use Rattle.dcc_machine.specs.declared.instr.Shift.{Shift}
use Rattle.dcc_machine.specs.declared.instr.Shift.TheVariants.{Rol}
use Rattle.dcc_machine.specs.declared.instr.Count.{Count}
use Rattle.dcc_machine.specs.declared.instr.Count.TheVariants.{One, Cl, Const as ConstCount}
use Rattle.dcc_machine.specs.declared.instr.Unary.{Unary}
use Rattle.dcc_machine.specs.declared.instr.Unary.TheVariants.{Inc, Dec, Neg, Not, Mul, Imul, Div as DivOf, Idiv}
use Rattle.dcc_machine.specs.declared.instr.Plain.{Plain}
use Rattle.dcc_machine.specs.declared.instr.Plain.TheVariants.{Nop, Cbw, Cwd, Xlat, Clc, Stc, Cmc, Cli, Sti, Cld}
use Rattle.dcc_machine.specs.declared.instr.Cond.{Cond}
use Rattle.dcc_machine.specs.declared.instr.Cond.TheVariants.{O, No, B, Ae, Z, Nz, Be, A, S, Ns, L, Ge, Le, G}
use Rattle.dcc_machine.specs.declared.instr.Op.{Op}
use Rattle.dcc_machine.specs.declared.instr.Op.TheVariants.{Alu as AluOp, Unary as UnaryOp, Shift as ShiftOp, Mov, Xchg, Imul3, Plain as PlainOp, Branch, Loop, LoopE, LoopNe, Jcxz, Int21}
use Rattle.dcc_machine.specs.Machine.{operand_width}
use Rattle.dcc_machine.specs.Writes.{never_shifts}
use Rattle.dcc_machine.specs.Wanted.{is_zeroing}
use Rattle.dcc_ir.specs.declared.syntax.Loc.{Loc}
use Rattle.dcc_ir.specs.declared.syntax.Loc.TheVariants.{Half}
use Rattle.dcc_ir.specs.declared.syntax.BinOp.TheVariants.{DivU, DivS, RemU, RemS}
use Rattle.dcc_ir.specs.Tree.{Expr, Const, Get, Stmt, Set, Dos}
use Rattle.dcc_ops.specs.Temporaries.{left_place, right_place, result_place}
use Rattle.dcc_ops.specs.OperandPlace.{OperandPlace, constant, byte, word, taking, storing}
use Rattle.dcc_ops.specs.Registers.{register_place}
use Rattle.dcc_ops.specs.Expressions.{word_of, left, right, result, product, count_expr, sum, difference, condition}
use Rattle.dcc_ops.specs.Statements.{operands_taking, word_taking, result_taking, sum_flags, difference_flags, subtracting, alu_working, alu_storing, alu_stmts, zeroing, product_storing, product_working, triple_product, division_storing, division_working, accumulator, complementing, unary_stmts, shift_working, shifting, staying, shift_stmts, mov_stmts, exchanging, xchg_stmts, plain_stmts, dos_stmts, op_stmts, op_test}
use Rattle.dcc_ops.proofs.ShiftCounts.{HoldsByEach, holds_by_count}
use Rattle.dcc_lift.proofs.FormPlaces.{is_sound_expr, are_sound, sound-cons, sound-append, IsLocationOf, half-location, left-location, right-location, result-location, set-sound, get-sound, constant-sound, IsGoodPlace, taken, halves-set, stored, halves-located}

-- Operands.

both-taken : (w : Width) (p q : OperandPlace) → IsGoodPlace w p → IsGoodPlace w q
    → are_sound (operands_taking w p q) ≡ true
both-taken w p q one other =
    sound-cons (taking (left_place w) p) (taking (right_place w) q ∷ [])
    (taken w (left_place w) p one (left-location w))
    (sound-cons (taking (right_place w) q) [] (taken w (right_place w) q other (right-location w)) refl)

-- the operands, the work, and what is stored
worked : (w : Width) (p q : OperandPlace) (work store : List Stmt) → IsGoodPlace w p → IsGoodPlace w q
    → are_sound work ≡ true → are_sound store ≡ true → are_sound (operands_taking w p q ++ (work ++ store)) ≡ true
worked w p q work store one other e f =
    sound-append (operands_taking w p q) (work ++ store) (both-taken w p q one other) (sound-append work store e f)

small-constant : (w : Width) (n : ℕ) → n < 256 → IsGoodPlace w (constant w n)
small-constant byte_width n small = record { width = refl; sound = refl; value = small }
small-constant word_width n small = record { width = refl; sound = refl; value = omega (arith, small) }

accumulator-good : (w : Width) → IsGoodPlace w (register_place (accumulator w))
accumulator-good byte_width = record { width = refl; sound = refl; value = tt }
accumulator-good word_width = record { width = refl; sound = refl; value = tt }

-- Operations on two operands.

alu-sound : (operation : Alu) (w : Width) → are_sound (alu_working operation w) ≡ true
alu-sound Add byte_width = refl
alu-sound Add word_width = refl
alu-sound Or byte_width = refl
alu-sound Or word_width = refl
alu-sound Adc byte_width = refl
alu-sound Adc word_width = refl
alu-sound Sbb byte_width = refl
alu-sound Sbb word_width = refl
alu-sound And byte_width = refl
alu-sound And word_width = refl
alu-sound Sub byte_width = refl
alu-sound Sub word_width = refl
alu-sound Xor byte_width = refl
alu-sound Xor word_width = refl
alu-sound Cmp byte_width = refl
alu-sound Cmp word_width = refl
alu-sound Test byte_width = refl
alu-sound Test word_width = refl

result-stored : (w : Width) (p : OperandPlace) → IsGoodPlace w p → are_sound (storing p (result w)) ≡ true
result-stored w p good = stored w p (result_place w) good (result-location w)

alu-stored : (operation : Alu) (w : Width) (p : OperandPlace) → IsGoodPlace w p → are_sound (alu_storing operation w p)
    ≡ true
alu-stored Cmp w p good = refl
alu-stored Test w p good = refl
alu-stored operation w p good = result-stored w p good

-- Operations on one operand.

counted : (w : Width)
    → (are_sound (result_taking w (sum w) ++ sum_flags w) ≡ true)
    × (are_sound (result_taking w (difference w) ++ difference_flags w) ≡ true)
counted byte_width = (refl, refl)
counted word_width = (refl, refl)

complemented : (w : Width) → are_sound (complementing w) ≡ true
complemented byte_width = refl
complemented word_width = refl

multiplied : (w : Width) (signed : Bool) → are_sound (product_working w signed) ≡ true
multiplied byte_width true = refl
multiplied byte_width false = refl
multiplied word_width true = refl
multiplied word_width false = refl

product-stored : (w : Width) → are_sound (product_storing w) ≡ true
product-stored byte_width = refl
product-stored word_width = refl

divided : (w : Width)
    → (are_sound (division_working w DivU RemU) ≡ true) × (are_sound (division_working w DivS RemS) ≡ true)
divided byte_width = (refl, refl)
divided word_width = (refl, refl)

division-stored : (w : Width) → are_sound (division_storing w) ≡ true
division-stored byte_width = refl
division-stored word_width = refl

unary-sound : (operation : Unary) (w : Width) (p : OperandPlace) → IsGoodPlace w p
    → are_sound (unary_stmts operation w p) ≡ true
unary-sound Inc w p good =
    worked w p (constant w 1) (result_taking w (sum w) ++ sum_flags w) (storing p (result w)) good
    (small-constant w 1 (omega arith)) (counted w).0 (result-stored w p good)
unary-sound Dec w p good =
    worked w p (constant w 1) (result_taking w (difference w) ++ difference_flags w) (storing p (result w)) good
    (small-constant w 1 (omega arith)) (counted w).1 (result-stored w p good)
unary-sound Neg w p good =
    worked w (constant w 0) p (subtracting w) (storing p (result w)) (small-constant w 0 (omega arith)) good
    (alu-sound Sub w) (result-stored w p good)
unary-sound Not w p good =
    sound-cons (taking (left_place w) p) (complementing w ++ storing p (result w))
    (taken w (left_place w) p good (left-location w))
    (sound-append (complementing w) (storing p (result w)) (complemented w) (result-stored w p good))
unary-sound Mul w p good =
    worked w (register_place (accumulator w)) p (product_working w false) (product_storing w) (accumulator-good w) good
    (multiplied w false) (product-stored w)
unary-sound Imul w p good =
    worked w (register_place (accumulator w)) p (product_working w true) (product_storing w) (accumulator-good w) good
    (multiplied w true) (product-stored w)
unary-sound DivOf w p good =
    worked w (register_place (accumulator w)) p (division_working w DivU RemU) (division_storing w) (accumulator-good w)
    good (divided w).0 (division-stored w)
unary-sound Idiv w p good =
    worked w (register_place (accumulator w)) p (division_working w DivS RemS) (division_storing w) (accumulator-good w)
    good (divided w).1 (division-stored w)

-- Shifts.

shift-worked : (w : Width) (count : Count) (operation : Shift) → are_sound (shift_working operation w count) ≡ true
shift-worked w count operation = holds_by_count are_sound operation w count (each w operation)
  where
    each : (w : Width) (operation : Shift) → HoldsByEach are_sound operation w
    each byte_width Rol = record { one = refl; cl = refl; other = refl }
    each word_width Rol = record { one = refl; cl = refl; other = refl }
    each _ _ = record { one = refl; cl = refl; other = refl }

count-sound : (cpu : Cpu) (w : Width) (count : Count) → is_sound_expr (bits_of w) (count_expr cpu w count) ≡ true
count-sound I8086 byte_width Cl = refl
count-sound I8086 word_width Cl = refl
count-sound I186 byte_width Cl = refl
count-sound I186 word_width Cl = refl
count-sound cpu byte_width One = refl
count-sound cpu word_width One = refl
count-sound cpu byte_width (ConstCount n) = constant-sound byte_width (n % 32) (omega arith)
count-sound cpu word_width (ConstCount n) = constant-sound word_width (n % 32) (omega arith)

shifting-sound : (cpu : Cpu) (operation : Shift) (w : Width) (p : OperandPlace) (count : Count) → IsGoodPlace w p
    → are_sound (shifting cpu operation w p count) ≡ true
shifting-sound cpu operation w p count good =
    let counting = Set (right_place w) (count_expr cpu w count) in
    let rest = shift_working operation w count ++ storing p (result w) in
    sound-cons (taking (left_place w) p) (counting ∷ rest) (taken w (left_place w) p good (left-location w))
    (sound-cons counting rest
    (set-sound (bits_of w) (right_place w) (count_expr cpu w count) (right-location w) (count-sound cpu w count))
    (sound-append (shift_working operation w count) (storing p (result w)) (shift-worked w count operation)
    (result-stored w p good)))

shift-sound : (cpu : Cpu) (operation : Shift) (w : Width) (p : OperandPlace) (count : Count) → IsGoodPlace w p
    → are_sound (shift_stmts cpu operation w p count) ≡ true
shift-sound cpu operation w p count good = go (never_shifts count)
  where
    go : (never : Bool) → are_sound (if never then staying w p else shifting cpu operation w p count) ≡ true
    go true =
        sound-cons (taking (result_place w) p) (storing p (result w))
        (taken w (result_place w) p good (result-location w)) (result-stored w p good)
    go false = shifting-sound cpu operation w p count good

-- Moves.

pub mov-sound : (w : Width) (p q : OperandPlace) → IsGoodPlace w p → IsGoodPlace w q → are_sound (mov_stmts w p q)
    ≡ true
mov-sound w (byte to) (byte from) good other =
    sound-cons (Set to (Get from)) []
    (set-sound 8 to (Get from) (half-location to good.sound) (get-sound 8 from (half-location from other.sound))) refl
mov-sound w (byte to) (constant v n) good other =
    let same : v ≡ byte_width = other.width ∙ sym good.width in
    sound-cons (Set to (Const (bits_of v) n)) []
    (set-sound 8 to (Const (bits_of v) n) (half-location to good.sound)
    (subst (λ u. is_sound_expr (bits_of u) (Const (bits_of v) n) ≡ true) same (constant-sound v n other.value))) refl
mov-sound w (word low high) (word l h) good other =
    let there = halves-located l h other.sound in
    halves-set low high (Get l) (Get h) good.sound (get-sound 8 l there.0) (get-sound 8 h there.1)
mov-sound w (word low high) (constant v n) good other =
    let same : v ≡ word_width = other.width ∙ sym good.width in
    let fits : n < 65536 = subst (λ u. n < limit_of u) same other.value in
    halves-set low high (Const 8 (n % 256)) (Const 8 (n / 256)) good.sound
    (constant-sound byte_width (n % 256) (omega arith)) (constant-sound byte_width (n / 256) (omega (arith, fits)))
mov-sound w p q good other =
    sound-cons (taking (left_place w) q) (storing p (left w)) (taken w (left_place w) q other (left-location w))
    (stored w p (left_place w) good (left-location w))

exchanged : (a b : Loc) → IsLocationOf 8 a → IsLocationOf 8 b → are_sound (exchanging a b) ≡ true
exchanged a b one other =
    sound-cons (Set (left_place byte_width) (Get a)) (Set a (Get b) ∷ Set b (left byte_width) ∷ [])
    (set-sound 8 (left_place byte_width) (Get a) (left-location byte_width) (get-sound 8 a one))
    (sound-cons (Set a (Get b)) (Set b (left byte_width) ∷ []) (set-sound 8 a (Get b) one (get-sound 8 b other))
    (sound-cons (Set b (left byte_width)) []
    (set-sound 8 b (left byte_width) other (get-sound 8 (left_place byte_width) (left-location byte_width))) refl))

xchg-sound : (w : Width) (p q : OperandPlace) → IsGoodPlace w p → IsGoodPlace w q → are_sound (xchg_stmts w p q) ≡ true
xchg-sound w (byte a) (byte b) good other = exchanged a b (half-location a good.sound) (half-location b other.sound)
xchg-sound w (word low high) (word l h) good other =
    let one = halves-located low high good.sound in
    let two = halves-located l h other.sound in
    sound-append (exchanging low l) (exchanging high h) (exchanged low l one.0 two.0) (exchanged high h one.1 two.1)
xchg-sound w p q good other =
    worked w p q (storing p (right w)) (storing q (left w)) good other
    (stored w p (right_place w) good (right-location w)) (stored w q (left_place w) other (left-location w))

-- Operations without operands, and DOS calls.

plain-sound : (operation : Plain) → are_sound (plain_stmts operation) ≡ true
plain-sound Nop = refl
plain-sound Cbw = refl
plain-sound Cwd = refl
plain-sound Xlat = refl
plain-sound Clc = refl
plain-sound Stc = refl
plain-sound Cmc = refl
plain-sound Cli = refl
plain-sound Sti = refl
plain-sound Cld = refl

-- one of two lists, by a test
pub by-test : (P : List Stmt → Type 0) (b : Bool) (stmts others : List Stmt) → (b ≡ true → P stmts) → P others
    → P (if b then stmts else others)
by-test P true stmts others p q = p refl
by-test P false stmts others p q = q

-- a test of a number tells it
pub at-number : (P : List Stmt → Type 0) (n m : ℕ) (stmts : ℕ → List Stmt) → P (stmts m) → (n == m) ≡ true
    → P (stmts n)
at-number P n m stmts p e = subst (λ k. P (stmts k)) (sym (eqb-true n m e)) p

pub at-either : (P : List Stmt → Type 0) (n m k : ℕ) (stmts : ℕ → List Stmt) → P (stmts m) → P (stmts k)
    → ((n == m) || (n == k)) ≡ true
    → P (stmts n)
at-either P n m k stmts p q e = go (n == m) refl e
  where
    go : (b : Bool) → (n == m) ≡ b → (b || (n == k)) ≡ true → P (stmts n)
    go true here rest = at-number P n m stmts p here
    go false here rest = at-number P n k stmts q rest

abbrev AreSound : List Stmt → Type 0
AreSound stmts = are_sound stmts ≡ true

dos-sound : (number : Option ℕ) → are_sound (dos_stmts number) ≡ true
dos-sound None = refl
dos-sound (Some n) =
    let writes : ℕ → List Stmt = λ k. Dos k None (Some (Get (Half Dx Low))) ∷ [] in
    let ends : ℕ → List Stmt = λ k. Dos k None (Some (Get (Half Ax Low))) ∷ [] in
    let shows : ℕ → List Stmt = λ k. Dos k None (Some (word_of Dx)) ∷ [] in
    let reads : ℕ → List Stmt = λ k. Dos k (Some (Half Ax Low)) None ∷ [] in
    let reading =
    by-test AreSound ((n == 0x01) || (n == 0x08)) (reads n) [] (at-either AreSound n 0x01 0x08 reads refl refl)
    refl in
    let showing = by-test AreSound (n == 0x09) (shows n) _ (at-number AreSound n 0x09 shows refl) reading in
    let ending = by-test AreSound (n == 0x4C) (ends n) _ (at-number AreSound n 0x4C ends refl) showing in
    by-test AreSound (n == 0x02) (writes n) _ (at-number AreSound n 0x02 writes refl) ending

-- All operations.

-- the operands stand at good places of their widths
abbrev pub HasGoodPlaces : Op → OperandPlace → OperandPlace → Type 0
HasGoodPlaces (AluOp operation a b) p q = IsGoodPlace (operand_width a) p × IsGoodPlace (operand_width a) q
HasGoodPlaces (UnaryOp operation a) p q = IsGoodPlace (operand_width a) p
HasGoodPlaces (ShiftOp operation a count) p q = IsGoodPlace (operand_width a) p
HasGoodPlaces (Mov to from) p q = IsGoodPlace (operand_width to) p × IsGoodPlace (operand_width to) q
HasGoodPlaces (Xchg a b) p q = IsGoodPlace (operand_width a) p × IsGoodPlace (operand_width a) q
HasGoodPlaces (Imul3 r a factor) p q = IsGoodPlace word_width p × (factor < 65536)
HasGoodPlaces op p q = Unit {0}

triple-sound : (r : Reg) (p : OperandPlace) (factor : ℕ) → IsGoodPlace word_width p → factor < 65536
    → are_sound (triple_product r p factor) ≡ true
triple-sound r p factor good fits =
    worked word_width p (constant word_width factor) (product_working word_width true)
    (word_taking r 0 (product word_width)) good (record { width = refl; sound = refl; value = fits }) refl refl

pub op-sound : (cpu : Cpu) (op : Op) (number : Option ℕ) (p q : OperandPlace) → HasGoodPlaces op p q
    → are_sound (op_stmts cpu op number p q) ≡ true
op-sound cpu (AluOp operation a b) number p q good = go (is_zeroing operation a b)
  where
    w : Width
    w = operand_width a

    go : (zero : Bool) → are_sound (if zero then zeroing w p else alu_stmts operation w p q) ≡ true
    go true = mov-sound w p (constant w 0) good.0 (small-constant w 0 (omega arith))
    go false =
        worked w p q (alu_working operation w) (alu_storing operation w p) good.0 good.1 (alu-sound operation w)
        (alu-stored operation w p good.0)
op-sound cpu (UnaryOp operation a) number p q good = unary-sound operation (operand_width a) p good
op-sound cpu (ShiftOp operation a count) number p q good = shift-sound cpu operation (operand_width a) p count good
op-sound cpu (Mov to from) number p q good = mov-sound (operand_width to) p q good.0 good.1
op-sound cpu (Xchg a b) number p q good = xchg-sound (operand_width a) p q good.0 good.1
op-sound cpu (Imul3 r a factor) number p q good = triple-sound r p factor good.0 good.1
op-sound cpu (PlainOp operation) number p q good = plain-sound operation
op-sound cpu Int21 number p q good = dos-sound number
op-sound cpu op number p q good = refl

-- Tests.

condition-sound : (tested : Cond) → is_sound_expr 1 (condition tested) ≡ true
condition-sound O = refl
condition-sound No = refl
condition-sound B = refl
condition-sound Ae = refl
condition-sound Z = refl
condition-sound Nz = refl
condition-sound Be = refl
condition-sound A = refl
condition-sound S = refl
condition-sound Ns = refl
condition-sound L = refl
condition-sound Ge = refl
condition-sound Le = refl
condition-sound G = refl

-- the test of an operation with two successors
abbrev pub IsSoundTest : Option Expr → Type 0
IsSoundTest None = Unit {0}
IsSoundTest (Some test) = is_sound_expr 1 test ≡ true

pub test-good : (op : Op) → IsSoundTest (op_test op)
test-good (Branch tested target) = condition-sound tested
test-good (Loop target) = refl
test-good (LoopE target) = refl
test-good (LoopNe target) = refl
test-good (Jcxz target) = refl
test-good op = tt

pub test-sound : (op : Op) (test : Expr) → op_test op ≡ Some test → is_sound_expr 1 test ≡ true
test-sound op test e = subst IsSoundTest e (test-good op)
