-- Whatever places its operands have, an operation has few statements on flags.
use Rattle.std.proofs.Common.{◌≡◌, ℕ, Bool, true, false, not, ◌&&◌, ◌||◌, if◌then◌else◌, List, [], ◌∷◌, ◌++◌, Option, refl, ap}
use Rattle.dcc_num.specs.declared.Width.{Width}
use Rattle.dcc_num.specs.declared.Width.TheVariants.{Byte as byte_width, Word as word_width}
use Rattle.dcc_num.specs.declared.Reg.{Reg}
use Rattle.dcc_num.specs.declared.FlagName.{FlagName}
use Rattle.dcc_machine.specs.declared.cpu.Cpu.{Cpu}
use Rattle.dcc_machine.specs.declared.cpu.Cpu.TheVariants.{I8086, I186}
use Rattle.dcc_machine.specs.declared.instr.Alu.{Alu}
use Rattle.dcc_machine.specs.declared.instr.Alu.TheVariants.{Add, Cmp, Test}
use Rattle.dcc_machine.specs.declared.instr.Shift.{Shift}
use Rattle.dcc_machine.specs.declared.instr.Shift.TheVariants.{Rol}
use Rattle.dcc_machine.specs.declared.instr.Count.{Count}
use Rattle.dcc_machine.specs.declared.instr.Count.TheVariants.{One, Cl, Const as ConstCount}
use Rattle.dcc_machine.specs.declared.instr.Unary.{Unary}
use Rattle.dcc_machine.specs.declared.instr.Unary.TheVariants.{Inc, Dec, Neg, Not, Mul, Imul, Div as DivOf, Idiv}
use Rattle.dcc_machine.specs.declared.instr.Plain.{Plain}
use Rattle.dcc_machine.specs.declared.instr.Plain.TheVariants.{Nop, Cbw, Cwd, Xlat, Clc, Stc, Cmc, Cli, Sti, Cld}
use Rattle.dcc_machine.specs.declared.instr.Operand.{Operand}
use Rattle.dcc_machine.specs.declared.instr.Op.{Op}
use Rattle.dcc_machine.specs.declared.instr.Op.TheVariants.{Alu as AluOp, Unary as UnaryOp, Shift as ShiftOp, Mov, Xchg, Imul3, Plain as PlainOp, Loop, LoopE, LoopNe, Int21}
use Rattle.dcc_machine.specs.Machine.{operand_width}
use Rattle.dcc_machine.specs.Writes.{shift_writes_flag, never_shifts, writes_flag}
use Rattle.dcc_machine.specs.Wanted.{is_through_carry, is_zeroing}
use Rattle.dcc_ir.specs.declared.syntax.Loc.{Loc}
use Rattle.dcc_ir.specs.declared.syntax.BinOp.TheVariants.{DivS, DivU, RemS, RemU}
use Rattle.dcc_ir.specs.Tree.{Expr, Get, Stmt, Set}
use Rattle.dcc_ir.specs.Measure.{is_truth}
use Rattle.dcc_ir.proofs.PathLaws.{or_left, or_right}
use Rattle.dcc_ops.specs.Temporaries.{left_place, right_place, result_place}
use Rattle.dcc_ops.specs.Expressions.{left, right, result, product, sum, difference, count_expr}
use Rattle.dcc_ops.specs.Registers.{register_place}
use Rattle.dcc_ops.specs.OperandPlace.{OperandPlace, constant, byte, word, place_value, taking, storing}
use Rattle.dcc_ops.specs.Statements.{operands_taking, word_taking, result_taking, sum_flags, difference_flags, subtracting, alu_working, alu_storing, alu_stmts, zeroing, product_storing, accumulator, product_working, triple_product, division_storing, division_working, complementing, unary_stmts, shift_working, count_taking, shifting, staying, shift_stmts, mov_stmts, exchanging, xchg_stmts, plain_stmts, counting, dos_stmts, op_stmts}
use Rattle.dcc_lift.specs.FlagStmts.{is_flag_read, is_on_flags, has_carry_in}
use Rattle.dcc_ops.proofs.DosStatements.{dos_all}
use Rattle.dcc_ops.proofs.ShiftCounts.{HoldsByEach, holds_by_count}
use Rattle.dcc_lift.proofs.ListTests.{not_true}
use Rattle.dcc_lift.proofs.FlagCounts.{AreWithin, AreFew, are_within, are_few, within-by, are_off_flags, off-cons, off-append, off-within, off-before, off-after, is_apart, left-apart, right-apart, result-apart, taking-off, storing-off, operands-off}

-- Operations on two operands.

alu-working : (a b : Operand) (w : Width) (operation : Alu)
    → are_few (AluOp operation a b) (alu_working operation w) ≡ true
alu-working a b byte_width Add = refl
alu-working a b word_width Add = refl
alu-working a b _ _ = refl

alu-storing : (operation : Alu) (w : Width) (p : OperandPlace) → are_off_flags (alu_storing operation w p) ≡ true
alu-storing Cmp w p = refl
alu-storing Test w p = refl
alu-storing operation w p = storing-off p (result w) (result-apart w)

-- after operands are taken, and before the result is stored
between : (op : Op) (first stmts last : List Stmt) → are_off_flags first ≡ true → are_few op stmts ≡ true
    → are_off_flags last ≡ true → AreFew op (first ++ (stmts ++ last))
between op first stmts last taken few stored =
    off-before (writes_flag op) (has_carry_in op) first (stmts ++ last) taken
    (off-after (writes_flag op) (has_carry_in op) stmts last
    (within-by (writes_flag op) (has_carry_in op) stmts few) stored)

-- after operands are taken
afterwards : (op : Op) (first stmts : List Stmt) → are_off_flags first ≡ true → are_few op stmts ≡ true
    → AreFew op (first ++ stmts)
afterwards op first stmts taken few =
    off-before (writes_flag op) (has_carry_in op) first stmts taken
    (within-by (writes_flag op) (has_carry_in op) stmts few)

-- statements that are on no flags are few for any operation
pub nothing : (op : Op) (stmts : List Stmt) → are_off_flags stmts ≡ true → AreFew op stmts
nothing op stmts off = off-within (writes_flag op) (has_carry_in op) stmts off

alu-few : (operation : Alu) (a b : Operand) (w : Width) (p q : OperandPlace) → is_apart p ≡ true → is_apart q ≡ true
    → AreFew (AluOp operation a b) (alu_stmts operation w p q)
alu-few operation a b w p q one other =
    between (AluOp operation a b) (operands_taking w p q) (alu_working operation w) (alu_storing operation w p)
    (operands-off w p q one other) (alu-working a b w operation) (alu-storing operation w p)

-- Operations on one operand.

counted-up : (a : Operand) (w : Width) → are_few (UnaryOp Inc a) (result_taking w (sum w) ++ sum_flags w) ≡ true
counted-up a byte_width = refl
counted-up a word_width = refl

counted-down : (a : Operand) (w : Width)
    → are_few (UnaryOp Dec a) (result_taking w (difference w) ++ difference_flags w) ≡ true
counted-down a byte_width = refl
counted-down a word_width = refl

negating : (a : Operand) (w : Width) → are_few (UnaryOp Neg a) (subtracting w) ≡ true
negating a byte_width = refl
negating a word_width = refl

complementing-off : (w : Width) → are_off_flags (complementing w) ≡ true
complementing-off byte_width = refl
complementing-off word_width = refl

product-few : (a : Operand) (w : Width) → are_few (UnaryOp Mul a) (product_working w false ++ product_storing w) ≡ true
product-few a byte_width = refl
product-few a word_width = refl

signed_product-few : (a : Operand) (w : Width)
    → are_few (UnaryOp Imul a) (product_working w true ++ product_storing w) ≡ true
signed_product-few a byte_width = refl
signed_product-few a word_width = refl

quotient-few : (a : Operand) (w : Width)
    → are_few (UnaryOp DivOf a) (division_working w DivU RemU ++ division_storing w) ≡ true
quotient-few a byte_width = refl
quotient-few a word_width = refl

signed_quotient-few : (a : Operand) (w : Width)
    → are_few (UnaryOp Idiv a) (division_working w DivS RemS ++ division_storing w) ≡ true
signed_quotient-few a byte_width = refl
signed_quotient-few a word_width = refl

accumulator-apart : (w : Width) → is_apart (register_place (accumulator w)) ≡ true
accumulator-apart byte_width = refl
accumulator-apart word_width = refl

unary-few : (operation : Unary) (a : Operand) (w : Width) (p : OperandPlace) → is_apart p ≡ true
    → AreFew (UnaryOp operation a) (unary_stmts operation w p)
unary-few Inc a w p apart =
    between (UnaryOp Inc a) (operands_taking w p (constant w 1)) (result_taking w (sum w) ++ sum_flags w)
    (storing p (result w)) (operands-off w p (constant w 1) apart refl) (counted-up a w)
    (storing-off p (result w) (result-apart w))
unary-few Dec a w p apart =
    between (UnaryOp Dec a) (operands_taking w p (constant w 1))
    (result_taking w (difference w) ++ difference_flags w)
    (storing p (result w)) (operands-off w p (constant w 1) apart refl) (counted-down a w)
    (storing-off p (result w) (result-apart w))
unary-few Neg a w p apart =
    between (UnaryOp Neg a) (operands_taking w (constant w 0) p) (subtracting w) (storing p (result w))
    (operands-off w (constant w 0) p refl apart) (negating a w) (storing-off p (result w) (result-apart w))
unary-few Not a w p apart =
    nothing (UnaryOp Not a) (unary_stmts Not w p)
    (off-cons (taking (left_place w) p) (complementing w ++ storing p (result w)) (taking-off (left_place w) p apart)
    (off-append (complementing w) (storing p (result w)) (complementing-off w)
    (storing-off p (result w) (result-apart w))))
unary-few Mul a w p apart =
    afterwards (UnaryOp Mul a) (operands_taking w (register_place (accumulator w)) p)
    (product_working w false ++ product_storing w)
    (operands-off w (register_place (accumulator w)) p (accumulator-apart w) apart) (product-few a w)
unary-few Imul a w p apart =
    afterwards (UnaryOp Imul a) (operands_taking w (register_place (accumulator w)) p)
    (product_working w true ++ product_storing w)
    (operands-off w (register_place (accumulator w)) p (accumulator-apart w) apart) (signed_product-few a w)
unary-few DivOf a w p apart =
    afterwards (UnaryOp DivOf a) (operands_taking w (register_place (accumulator w)) p)
    (division_working w DivU RemU ++ division_storing w)
    (operands-off w (register_place (accumulator w)) p (accumulator-apart w) apart) (quotient-few a w)
unary-few Idiv a w p apart =
    afterwards (UnaryOp Idiv a) (operands_taking w (register_place (accumulator w)) p)
    (division_working w DivS RemS ++ division_storing w)
    (operands-off w (register_place (accumulator w)) p (accumulator-apart w) apart) (signed_quotient-few a w)

triple-few : (r : Reg) (a : Operand) (factor : ℕ) (p : OperandPlace) → is_apart p ≡ true
    → AreFew (Imul3 r a factor) (triple_product r p factor)
triple-few r a factor p apart =
    afterwards (Imul3 r a factor) (operands_taking word_width p (constant word_width factor))
    (product_working word_width true ++ word_taking r 0 (product word_width))
    (operands-off word_width p (constant word_width factor) apart refl) refl

-- Shifts and rotates.

-- the flags that a shift or rotate writes; one that never shifts writes none
abbrev shift_flags_written : Shift → Bool → FlagName → Bool
shift_flags_written operation never flag = shift_writes_flag operation flag && not never

shift-working : (count : Count) (w : Width) (operation : Shift)
    → are_within (shift_flags_written operation false) (is_through_carry operation) (shift_working operation w count)
    ≡ true
shift-working count w operation = holds_by_count (within operation) operation w count (each w operation)
  where
    within : Shift → List Stmt → Bool
    within operation = are_within (shift_flags_written operation false) (is_through_carry operation)

    each : (w : Width) (operation : Shift) → HoldsByEach (within operation) operation w
    each byte_width Rol = record { one = refl; cl = refl; other = refl }
    each word_width Rol = record { one = refl; cl = refl; other = refl }
    each _ _ = record { one = refl; cl = refl; other = refl }

count-apart : (cpu : Cpu) (w : Width) (count : Count) → is_on_flags (count_expr cpu w count) ≡ false
count-apart I8086 byte_width Cl = refl
count-apart I8086 word_width Cl = refl
count-apart I186 byte_width Cl = refl
count-apart I186 word_width Cl = refl
count-apart cpu w One = refl
count-apart cpu w (ConstCount n) = refl

shift-few : (cpu : Cpu) (operation : Shift) (a : Operand) (w : Width) (p : OperandPlace) (count : Count) → is_apart p
    ≡ true
    → AreFew (ShiftOp operation a count) (shift_stmts cpu operation w p count)
shift-few cpu operation a w p count apart = by (never_shifts count)
  where
    stored : are_off_flags (storing p (result w)) ≡ true
    stored = storing-off p (result w) (result-apart w)

    taken : are_off_flags (count_taking cpu w p count) ≡ true
    taken =
        off-cons (taking (left_place w) p) (Set (right_place w) (count_expr cpu w count) ∷ [])
        (taking-off (left_place w) p apart)
        (off-cons (Set (right_place w) (count_expr cpu w count)) [] (count-apart cpu w count) refl)

    by : (b : Bool) → AreWithin (shift_flags_written operation b) (is_through_carry operation)
        (if b then staying w p else shifting cpu operation w p count)
    by true =
        off-within (shift_flags_written operation true) (is_through_carry operation) (staying w p)
        (off-cons (taking (result_place w) p) (storing p (result w)) (taking-off (result_place w) p apart) stored)
    by false =
        off-before (shift_flags_written operation false) (is_through_carry operation) (count_taking cpu w p count)
        (shift_working operation w count ++ storing p (result w)) taken
        (off-after (shift_flags_written operation false) (is_through_carry operation) (shift_working operation w count)
        (storing p (result w))
        (within-by (shift_flags_written operation false) (is_through_carry operation) (shift_working operation w count)
        (shift-working count w operation)) stored)

-- Moves.

-- a part that is on flags
abbrev pub is_flag_part : Expr → Bool
is_flag_part part = is_flag_read part || is_truth part

-- both halves of a word are on no flags where it is on none
halves-apart : (low high : Loc) → is_apart (word low high) ≡ true
    → (is_on_flags (Get low) ≡ false) × (is_on_flags (Get high) ≡ false)
halves-apart low high apart =
    let none : (is_flag_part (Get high) || (is_flag_part (Get low) || false)) ≡ false =
    not_true (is_on_flags (place_value (word low high))) apart in (
      or_right (is_flag_part (Get high)) (is_flag_part (Get low) || false) none,
      ap (λ b. b || false) (or_left (is_flag_part (Get high)) (is_flag_part (Get low) || false) none),
    )

pub mov-off : (w : Width) (p q : OperandPlace) → is_apart q ≡ true → are_off_flags (mov_stmts w p q) ≡ true
mov-off w (byte to) (byte from) apart = off-cons (Set to (Get from)) [] (not_true (is_on_flags (Get from)) apart) refl
mov-off w (byte to) (constant v n) apart = refl
mov-off w (word low high) (word l h) apart =
    let both = halves-apart l h apart in
    off-cons (Set low (Get l)) (Set high (Get h) ∷ []) both.0 (off-cons (Set high (Get h)) [] both.1 refl)
mov-off w (word low high) (constant v n) apart = refl
mov-off w p q apart =
    off-cons (taking (left_place w) q) (storing p (left w)) (taking-off (left_place w) q apart)
    (storing-off p (left w) (left-apart w))

exchanging-off : (a b : Loc) → is_on_flags (Get a) ≡ false → is_on_flags (Get b) ≡ false
    → are_off_flags (exchanging a b) ≡ true
exchanging-off a b one other =
    off-cons (Set (left_place byte_width) (Get a)) (Set a (Get b) ∷ Set b (left byte_width) ∷ []) one
    (off-cons (Set a (Get b)) (Set b (left byte_width) ∷ []) other refl)

xchg-off : (w : Width) (p q : OperandPlace) → is_apart p ≡ true → is_apart q ≡ true → are_off_flags (xchg_stmts w p q)
    ≡ true
xchg-off w (byte a) (byte b) one other =
    exchanging-off a b (not_true (is_on_flags (Get a)) one) (not_true (is_on_flags (Get b)) other)
xchg-off w (word low high) (word l h) one other =
    let here = halves-apart low high one in
    let there = halves-apart l h other in
    off-append (exchanging low l) (exchanging high h) (exchanging-off low l here.0 there.0)
    (exchanging-off high h here.1 there.1)
xchg-off w p q one other =
    off-append (operands_taking w p q) (storing p (right w) ++ storing q (left w)) (operands-off w p q one other)
    (off-append (storing p (right w)) (storing q (left w)) (storing-off p (right w) (right-apart w))
    (storing-off q (left w) (left-apart w)))

-- Operations without operands.

plain-few : (operation : Plain) → are_few (PlainOp operation) (plain_stmts operation) ≡ true
plain-few Nop = refl
plain-few Cbw = refl
plain-few Cwd = refl
plain-few Xlat = refl
plain-few Clc = refl
plain-few Stc = refl
plain-few Cmc = refl
plain-few Cli = refl
plain-few Sti = refl
plain-few Cld = refl

dos-off : (number : Option ℕ) → are_off_flags (dos_stmts number) ≡ true
dos-off = dos_all (λ l. are_off_flags l ≡ true) refl (λ n. refl) (λ n. refl) (λ n. refl) (λ n. refl)

-- All operations.

pub op-few : (cpu : Cpu) (op : Op) (number : Option ℕ) (p q : OperandPlace) → is_apart p ≡ true → is_apart q ≡ true
    → AreFew op (op_stmts cpu op number p q)
op-few cpu (AluOp operation a b) number p q one other = go (is_zeroing operation a b)
  where
    w : Width
    w = operand_width a

    go : (zero : Bool) → AreFew (AluOp operation a b) (if zero then zeroing w p else alu_stmts operation w p q)
    go true = nothing (AluOp operation a b) (zeroing w p) (mov-off w p (constant w 0) refl)
    go false = alu-few operation a b w p q one other
op-few cpu (UnaryOp operation a) number p q one other = unary-few operation a (operand_width a) p one
op-few cpu (ShiftOp operation a count) number p q one other = shift-few cpu operation a (operand_width a) p count one
op-few cpu (Mov to from) number p q one other =
    nothing (Mov to from) (mov_stmts (operand_width to) p q) (mov-off (operand_width to) p q other)
op-few cpu (Xchg a b) number p q one other =
    nothing (Xchg a b) (xchg_stmts (operand_width a) p q) (xchg-off (operand_width a) p q one other)
op-few cpu (Imul3 r a factor) number p q one other = triple-few r a factor p one
op-few cpu (PlainOp operation) number p q one other =
    within-by (writes_flag (PlainOp operation)) (has_carry_in (PlainOp operation)) (plain_stmts operation)
    (plain-few operation)
op-few cpu (Loop target) number p q one other = nothing (Loop target) counting refl
op-few cpu (LoopE target) number p q one other = nothing (LoopE target) counting refl
op-few cpu (LoopNe target) number p q one other = nothing (LoopNe target) counting refl
op-few cpu Int21 number p q one other = nothing Int21 (dos_stmts number) (dos-off number)
op-few cpu op number p q one other = nothing op [] refl
