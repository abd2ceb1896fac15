-- How the statements of operations read flags where they set one.
use Rattle.std.proofs.Common.{◌≡◌, ◌∙◌, ℕ, Bool, true, false, ◌&&◌, if◌then◌else◌, List, [], ◌∷◌, ◌++◌, Option, refl, sym, true≢false}
use Rattle.std.specs.Prelude.{◌/◌, ◌%◌}
use Rattle.std.specs.List.{list_all}
use Rattle.std.proofs.lemmas.Bool.{and_parts}
use Rattle.std.proofs.lemmas.List.Folds.{list_all-append}
use Rattle.dcc_num.specs.declared.Width.{Width}
use Rattle.dcc_num.specs.declared.Width.TheVariants.{Byte as byte_width, Word as word_width}
use Rattle.dcc_num.specs.Numbers.{bits_of}
use Rattle.dcc_machine.specs.declared.cpu.Cpu.{Cpu}
use Rattle.dcc_machine.specs.declared.instr.Alu.{Alu}
use Rattle.dcc_machine.specs.declared.instr.Alu.TheVariants.{Add, Or, Adc, Sbb, And, Sub, Xor, Cmp, Test}
use Rattle.dcc_machine.specs.declared.instr.Shift.{Shift}
use Rattle.dcc_machine.specs.declared.instr.Shift.TheVariants.{Rol}
use Rattle.dcc_machine.specs.declared.instr.Count.{Count}
use Rattle.dcc_machine.specs.declared.instr.Unary.{Unary}
use Rattle.dcc_machine.specs.declared.instr.Unary.TheVariants.{Inc, Dec, Neg, Not, Mul, Imul, Div as DivOf, Idiv}
use Rattle.dcc_machine.specs.declared.instr.Plain.{Plain}
use Rattle.dcc_machine.specs.declared.instr.Plain.TheVariants.{Nop, Cbw, Cwd, Xlat, Clc, Stc, Cmc, Cli, Sti, Cld}
use Rattle.dcc_machine.specs.declared.instr.Op.TheVariants.{Alu as AluOp, Unary as UnaryOp, Shift as ShiftOp, Mov, Xchg, Imul3, Plain as PlainOp, Int21}
use Rattle.dcc_machine.specs.Machine.{operand_width}
use Rattle.dcc_machine.specs.Writes.{never_shifts}
use Rattle.dcc_machine.specs.Wanted.{is_zeroing}
use Rattle.dcc_ir.specs.declared.syntax.Loc.{Loc}
use Rattle.dcc_ir.specs.declared.syntax.Loc.TheVariants.{Half, Flag, Temp, Cell}
use Rattle.dcc_ir.specs.declared.syntax.BinOp.{BinOp}
use Rattle.dcc_ir.specs.declared.syntax.BinOp.TheVariants.{DivU, DivS, RemU, RemS}
use Rattle.dcc_ir.specs.Tree.{Expr, Const, Get, Part, Stmt, Set}
use Rattle.dcc_ir.specs.FlagReads.{is_flag_place}
use Rattle.dcc_ops.proofs.DosStatements.{dos_all}
use Rattle.dcc_ops.proofs.ShiftCounts.{HoldsByEach, holds_by_count}
use Rattle.dcc_ops.specs.Temporaries.{left_place, right_place, result_place}
use Rattle.dcc_ops.specs.OperandPlace.{OperandPlace, constant, byte, word, memory, address, computed, place_value, taking, storing, is_half, is_low, is_high, is_sound_place}
use Rattle.dcc_ops.specs.Registers.{register_place}
use Rattle.dcc_ops.specs.Expressions.{left, right, result, product, count_expr, sum, difference}
use Rattle.dcc_ops.specs.Statements.{operands_taking, word_taking, result_taking, sum_flags, difference_flags, subtracting, alu_working, alu_storing, alu_stmts, zeroing, product_storing, product_working, division_storing, division_working, accumulator, complementing, unary_stmts, shift_working, shifting, staying, shift_stmts, mov_stmts, exchanging, xchg_stmts, plain_stmts, dos_stmts}
use Rattle.dcc_ops.specs.FlagReading.{sets_flags_plainly, OperationsSetFlagsPlainly}

abbrev are_plain : List Stmt → Bool
are_plain stmts = list_all sets_flags_plainly stmts

both : (a b : Bool) → a ≡ true → b ≡ true → (a && b) ≡ true
both true b e f = f
both false b e f = e

appended : (stmts others : List Stmt) → are_plain stmts ≡ true → are_plain others ≡ true
    → are_plain (stmts ++ others) ≡ true
appended stmts others p q = list_all-append sets_flags_plainly stmts others
    ∙ both (are_plain stmts) (are_plain others) p q

-- Locations that are no flags.

no_flag_set : (location : Loc) (e : Expr) → is_flag_place location ≡ false → sets_flags_plainly (Set location e) ≡ true
no_flag_set (Half r half) e apart = refl
no_flag_set (Flag f) e apart = absurd (true≢false apart)
no_flag_set (Temp n) e apart = refl
no_flag_set (Cell n half) e apart = refl

half_no_flag : (location : Loc) → is_half location ≡ true → is_flag_place location ≡ false
half_no_flag (Half r half) is = refl
half_no_flag (Flag f) is = absurd (true≢false (sym is))
half_no_flag (Temp n) is = refl
half_no_flag (Cell n half) is = refl

low_no_flag : (location : Loc) → is_low location ≡ true → is_flag_place location ≡ false
low_no_flag (Half r half) is = refl
low_no_flag (Flag f) is = absurd (true≢false (sym is))
low_no_flag (Temp n) is = refl
low_no_flag (Cell n half) is = refl

high_no_flag : (location : Loc) → is_high location ≡ true → is_flag_place location ≡ false
high_no_flag (Half r half) is = refl
high_no_flag (Flag f) is = absurd (true≢false (sym is))
high_no_flag (Temp n) is = refl
high_no_flag (Cell n half) is = refl

left_no_flag : (w : Width) → is_flag_place (left_place w) ≡ false
left_no_flag byte_width = refl
left_no_flag word_width = refl

right_no_flag : (w : Width) → is_flag_place (right_place w) ≡ false
right_no_flag byte_width = refl
right_no_flag word_width = refl

result_no_flag : (w : Width) → is_flag_place (result_place w) ≡ false
result_no_flag byte_width = refl
result_no_flag word_width = refl

-- Operands.

half_set : (location : Loc) (e : Expr) → is_half location ≡ true → are_plain (Set location e ∷ []) ≡ true
half_set location e is =
    both (sets_flags_plainly (Set location e)) true (no_flag_set location e (half_no_flag location is)) refl

halves_set : (low high : Loc) (e e' : Expr) → (is_low low && is_high high) ≡ true
    → are_plain (Set low e ∷ Set high e' ∷ []) ≡ true
halves_set low high e e' is =
    let halves = and_parts (is_low low) (is_high high) is in
    both (sets_flags_plainly (Set low e)) (sets_flags_plainly (Set high e') && true)
    (no_flag_set low e (low_no_flag low halves.0))
    (both (sets_flags_plainly (Set high e')) true (no_flag_set high e' (high_no_flag high halves.1)) refl)

taken : (to : Loc) (p : OperandPlace) → is_flag_place to ≡ false → sets_flags_plainly (taking to p) ≡ true
taken to (memory w at) apart = refl
taken to p apart = no_flag_set to (place_value p) apart

stored : (p : OperandPlace) (e : Expr) → is_sound_place p ≡ true → are_plain (storing p e) ≡ true
stored (constant w n) e sound = refl
stored (byte location) e sound = half_set location e sound
stored (word low high) e sound = halves_set low high (Part 8 0 e) (Part 8 8 e) sound
stored (memory w at) e sound = refl
stored (address distance) e sound = refl
stored (computed sum) e sound = refl

both_taken : (w : Width) (p q : OperandPlace) → are_plain (operands_taking w p q) ≡ true
both_taken w p q =
    both (sets_flags_plainly (taking (left_place w) p)) (sets_flags_plainly (taking (right_place w) q) && true)
    (taken (left_place w) p (left_no_flag w))
    (both (sets_flags_plainly (taking (right_place w) q)) true (taken (right_place w) q (right_no_flag w)) refl)

-- the operands, the work, and what is stored
worked : (w : Width) (p q : OperandPlace) (work store : List Stmt) → are_plain work ≡ true → are_plain store ≡ true
    → are_plain (operands_taking w p q ++ (work ++ store)) ≡ true
worked w p q work store e f =
    appended (operands_taking w p q) (work ++ store) (both_taken w p q) (appended work store e f)

-- the one operand, the work, and what is stored
taken_first : (to : Loc) (p : OperandPlace) (rest : List Stmt) → is_flag_place to ≡ false → are_plain rest ≡ true
    → are_plain (taking to p ∷ rest) ≡ true
taken_first to p rest apart e = both (sets_flags_plainly (taking to p)) (are_plain rest) (taken to p apart) e

-- Operations on two operands.

alu_plain : (operation : Alu) (w : Width) → are_plain (alu_working operation w) ≡ true
alu_plain Add byte_width = refl
alu_plain Add word_width = refl
alu_plain Or byte_width = refl
alu_plain Or word_width = refl
alu_plain Adc byte_width = refl
alu_plain Adc word_width = refl
alu_plain Sbb byte_width = refl
alu_plain Sbb word_width = refl
alu_plain And byte_width = refl
alu_plain And word_width = refl
alu_plain Sub byte_width = refl
alu_plain Sub word_width = refl
alu_plain Xor byte_width = refl
alu_plain Xor word_width = refl
alu_plain Cmp byte_width = refl
alu_plain Cmp word_width = refl
alu_plain Test byte_width = refl
alu_plain Test word_width = refl

alu_stored : (operation : Alu) (w : Width) (p : OperandPlace) → is_sound_place p ≡ true
    → are_plain (alu_storing operation w p) ≡ true
alu_stored Cmp w p sound = refl
alu_stored Test w p sound = refl
alu_stored operation w p sound = stored p (result w) sound

-- Operations on one operand.

counted : (w : Width) → (are_plain (result_taking w (sum w) ++ sum_flags w) ≡ true)
    × (are_plain (result_taking w (difference w) ++ difference_flags w) ≡ true)
counted byte_width = (refl, refl)
counted word_width = (refl, refl)

complemented : (w : Width) → are_plain (complementing w) ≡ true
complemented byte_width = refl
complemented word_width = refl

multiplied : (w : Width) (signed : Bool) → are_plain (product_working w signed) ≡ true
multiplied byte_width true = refl
multiplied byte_width false = refl
multiplied word_width true = refl
multiplied word_width false = refl

product_stored : (w : Width) → are_plain (product_storing w) ≡ true
product_stored byte_width = refl
product_stored word_width = refl

divided : (w : Width) (quotient remainder : BinOp) → are_plain (division_working w quotient remainder) ≡ true
divided byte_width quotient remainder = refl
divided word_width quotient remainder = refl

division_stored : (w : Width) → are_plain (division_storing w) ≡ true
division_stored byte_width = refl
division_stored word_width = refl

unary_plain : (operation : Unary) (w : Width) (p : OperandPlace) → is_sound_place p ≡ true
    → are_plain (unary_stmts operation w p) ≡ true
unary_plain Inc w p sound =
    worked w p (constant w 1) (result_taking w (sum w) ++ sum_flags w) (storing p (result w)) (counted w).0
    (stored p (result w) sound)
unary_plain Dec w p sound =
    worked w p (constant w 1) (result_taking w (difference w) ++ difference_flags w) (storing p (result w))
    (counted w).1 (stored p (result w) sound)
unary_plain Neg w p sound =
    worked w (constant w 0) p (subtracting w) (storing p (result w)) (alu_plain Sub w) (stored p (result w) sound)
unary_plain Not w p sound =
    taken_first (left_place w) p (complementing w ++ storing p (result w)) (left_no_flag w)
    (appended (complementing w) (storing p (result w)) (complemented w) (stored p (result w) sound))
unary_plain Mul w p sound =
    worked w (register_place (accumulator w)) p (product_working w false) (product_storing w) (multiplied w false)
    (product_stored w)
unary_plain Imul w p sound =
    worked w (register_place (accumulator w)) p (product_working w true) (product_storing w) (multiplied w true)
    (product_stored w)
unary_plain DivOf w p sound =
    worked w (register_place (accumulator w)) p (division_working w DivU RemU) (division_storing w)
    (divided w DivU RemU) (division_stored w)
unary_plain Idiv w p sound =
    worked w (register_place (accumulator w)) p (division_working w DivS RemS) (division_storing w)
    (divided w DivS RemS) (division_stored w)

-- Shifts.

shift_worked : (w : Width) (count : Count) (operation : Shift) → are_plain (shift_working operation w count) ≡ true
shift_worked w count operation = holds_by_count are_plain operation w count (each w operation)
  where
    each : (w : Width) (operation : Shift) → HoldsByEach are_plain operation w
    each byte_width Rol = record { one = refl; cl = refl; other = refl }
    each word_width Rol = record { one = refl; cl = refl; other = refl }
    each _ _ = record { one = refl; cl = refl; other = refl }

shifting_plain : (cpu : Cpu) (operation : Shift) (w : Width) (p : OperandPlace) (count : Count) → is_sound_place p
    ≡ true
    → are_plain (shifting cpu operation w p count) ≡ true
shifting_plain cpu operation w p count sound =
    let counting = Set (right_place w) (count_expr cpu w count) in
    let rest = shift_working operation w count ++ storing p (result w) in
    taken_first (left_place w) p (counting ∷ rest) (left_no_flag w)
    (both (sets_flags_plainly counting) (are_plain rest)
    (no_flag_set (right_place w) (count_expr cpu w count) (right_no_flag w))
    (appended (shift_working operation w count) (storing p (result w)) (shift_worked w count operation)
    (stored p (result w) sound)))

shift_plain : (cpu : Cpu) (operation : Shift) (w : Width) (p : OperandPlace) (count : Count) → is_sound_place p ≡ true
    → are_plain (shift_stmts cpu operation w p count) ≡ true
shift_plain cpu operation w p count sound = go (never_shifts count)
  where
    go : (never : Bool) → are_plain (if never then staying w p else shifting cpu operation w p count) ≡ true
    go true = taken_first (result_place w) p (storing p (result w)) (result_no_flag w) (stored p (result w) sound)
    go false = shifting_plain cpu operation w p count sound

-- Moves.

mov_plain : (w : Width) (p q : OperandPlace) → is_sound_place p ≡ true → are_plain (mov_stmts w p q) ≡ true
mov_plain w (byte to) (byte from) sound = half_set to (Get from) sound
mov_plain w (byte to) (constant v n) sound = half_set to (Const (bits_of v) n) sound
mov_plain w (word low high) (word l h) sound = halves_set low high (Get l) (Get h) sound
mov_plain w (word low high) (constant v n) sound = halves_set low high (Const 8 (n % 256)) (Const 8 (n / 256)) sound
mov_plain w p q sound = taken_first (left_place w) q (storing p (left w)) (left_no_flag w) (stored p (left w) sound)

exchanged : (a b : Loc) → is_flag_place a ≡ false → is_flag_place b ≡ false → are_plain (exchanging a b) ≡ true
exchanged a b apart none =
    both (sets_flags_plainly (Set a (Get b))) (sets_flags_plainly (Set b (left byte_width)) && true)
    (no_flag_set a (Get b) apart)
    (both (sets_flags_plainly (Set b (left byte_width))) true (no_flag_set b (left byte_width) none) refl)

xchg_plain : (w : Width) (p q : OperandPlace) → is_sound_place p ≡ true → is_sound_place q ≡ true
    → are_plain (xchg_stmts w p q) ≡ true
xchg_plain w (byte a) (byte b) sound other = exchanged a b (half_no_flag a sound) (half_no_flag b other)
xchg_plain w (word low high) (word l h) sound other =
    let one = and_parts (is_low low) (is_high high) sound in
    let two = and_parts (is_low l) (is_high h) other in
    appended (exchanging low l) (exchanging high h) (exchanged low l (low_no_flag low one.0) (low_no_flag l two.0))
    (exchanged high h (high_no_flag high one.1) (high_no_flag h two.1))
xchg_plain w p q sound other =
    worked w p q (storing p (right w)) (storing q (left w)) (stored p (right w) sound) (stored q (left w) other)

-- Operations without operands, and calls.

plain_plain : (operation : Plain) → are_plain (plain_stmts operation) ≡ true
plain_plain Nop = refl
plain_plain Cbw = refl
plain_plain Cwd = refl
plain_plain Xlat = refl
plain_plain Clc = refl
plain_plain Stc = refl
plain_plain Cmc = refl
plain_plain Cli = refl
plain_plain Sti = refl
plain_plain Cld = refl

dos_plain : (number : Option ℕ) → are_plain (dos_stmts number) ≡ true
dos_plain = dos_all (λ l. are_plain l ≡ true) refl (λ n. refl) (λ n. refl) (λ n. refl) (λ n. refl)

-- All operations.
pub op_plain : OperationsSetFlagsPlainly
op_plain cpu (AluOp operation a b) number p q sound other = go (is_zeroing operation a b)
  where
    w : Width
    w = operand_width a

    go : (zero : Bool) → are_plain (if zero then zeroing w p else alu_stmts operation w p q) ≡ true
    go true = mov_plain w p (constant w 0) sound
    go false =
        worked w p q (alu_working operation w) (alu_storing operation w p) (alu_plain operation w)
        (alu_stored operation w p sound)
op_plain cpu (UnaryOp operation a) number p q sound other = unary_plain operation (operand_width a) p sound
op_plain cpu (ShiftOp operation a count) number p q sound other =
    shift_plain cpu operation (operand_width a) p count sound
op_plain cpu (Mov to from) number p q sound other = mov_plain (operand_width to) p q sound
op_plain cpu (Xchg a b) number p q sound other = xchg_plain (operand_width a) p q sound other
op_plain cpu (Imul3 r a factor) number p q sound other =
    worked word_width p (constant word_width factor) (product_working word_width true)
    (word_taking r 0 (product word_width)) refl refl
op_plain cpu (PlainOp operation) number p q sound other = plain_plain operation
op_plain cpu Int21 number p q sound other = dos_plain number
op_plain cpu op number p q sound other = refl
