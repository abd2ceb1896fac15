-- The statements that stand for an instruction, and how its block ends. Each instruction takes every operand once into
-- a temporary, makes the result and the flags of temporaries, and stores last; moves between halves go without
-- temporaries, and so do XOR and SUB of a register with itself, which take no operand.
use Rattle.std.specs.Prelude.{ℕ, ◌+◌, ◌/◌, ◌%◌, ◌==◌, Bool, true, false, ◌||◌, if◌then◌else◌, List, [], ◌∷◌, ◌++◌}
use Rattle.std.specs.Prelude.{Option, Some, None}
use Rattle.dcc_num.specs.declared.Width.{Width}
use Rattle.dcc_num.specs.declared.Width.TheVariants.{Byte as byte_width, Word as word_width}
use Rattle.dcc_num.specs.declared.Reg.{Reg}
use Rattle.dcc_num.specs.declared.Reg.TheVariants.{Ax, Cx, Dx, Bx}
use Rattle.dcc_num.specs.declared.Half.TheVariants.{Low, High}
use Rattle.dcc_num.specs.declared.FlagName.TheVariants.{Cf, Zf, Sf, Of}
use Rattle.dcc_num.specs.Numbers.{bits_of}
use Rattle.dcc_machine.specs.declared.cpu.Cpu.{Cpu}
use Rattle.dcc_machine.specs.declared.instr.Alu.{Alu}
use Rattle.dcc_machine.specs.declared.instr.Alu.TheVariants.{Add, Or, Adc, Sbb, And, Sub, Xor, Cmp, Test}
use Rattle.dcc_machine.specs.declared.instr.Shift.{Shift}
use Rattle.dcc_machine.specs.declared.instr.Shift.TheVariants.{Rol, Ror, Rcl, Rcr, Shl, Shr, Sar}
use Rattle.dcc_machine.specs.declared.instr.Count.{Count}
use Rattle.dcc_machine.specs.declared.instr.Count.TheVariants.{One}
use Rattle.dcc_machine.specs.declared.instr.Unary.{Unary}
use Rattle.dcc_machine.specs.declared.instr.Unary.TheVariants.{Inc, Dec, Neg, Not, Mul, Imul, Div as DivOf, Idiv}
use Rattle.dcc_machine.specs.declared.instr.Plain.{Plain}
use Rattle.dcc_machine.specs.declared.instr.Plain.TheVariants.{Cbw, Cwd, Xlat, Clc, Stc, Cmc}
use Rattle.dcc_machine.specs.declared.instr.Operand.{Operand}
use Rattle.dcc_machine.specs.declared.instr.Operand.TheVariants.{Word, Byte}
use Rattle.dcc_machine.specs.declared.instr.Op.{Op}
use Rattle.dcc_machine.specs.declared.instr.Op.TheVariants.{Alu as AluOp, Unary as UnaryOp, Shift as ShiftOp, Mov, Xchg}
use Rattle.dcc_machine.specs.declared.instr.Op.TheVariants.{Imul3, Plain as PlainOp, Branch, Loop, LoopE, LoopNe, Jcxz}
use Rattle.dcc_machine.specs.declared.instr.Op.TheVariants.{Int21}
use Rattle.dcc_machine.specs.Machine.{operand_width}
use Rattle.dcc_machine.specs.Writes.{never_shifts}
use Rattle.dcc_machine.specs.Wanted.{is_zeroing}
use Rattle.dcc_ir.specs.declared.syntax.Loc.{Loc}
use Rattle.dcc_ir.specs.declared.syntax.Loc.TheVariants.{Half, Flag}
use Rattle.dcc_ir.specs.declared.syntax.UnOp.TheVariants.{Not as NotOp}
use Rattle.dcc_ir.specs.declared.syntax.BinOp.{BinOp}
use Rattle.dcc_ir.specs.declared.syntax.BinOp.TheVariants.{Add as AddOp, Sub as SubOp, DivS, DivU, RemS, RemU}
use Rattle.dcc_ir.specs.declared.syntax.BinOp.TheVariants.{And as AndOp, Or as OrOp, Xor as XorOp, Shl as ShlOp}
use Rattle.dcc_ir.specs.declared.syntax.BinOp.TheVariants.{Shr as ShrOp, Sar as SarOp, Eq as EqOp}
use Rattle.dcc_ir.specs.Tree.{Expr, Const, Get, Unary as UnaryExpr, Binary, Widen, Part, Stmt, Set, Div, Dos, Exit}
use Rattle.dcc_ir.specs.Tree.{Goto, If, Stop}
use Rattle.dcc_ops.specs.Temporaries.{left_place, right_place, result_place, product_place, carry_place}
use Rattle.dcc_ops.specs.OperandPlace.{OperandPlace, constant, byte, word, memory, taking, storing}
use Rattle.dcc_ops.specs.Registers.{register_place}
use Rattle.dcc_ops.specs.Expressions.{word_of, left, right, result, product, at_width, number, bit, flag, negated}
use Rattle.dcc_ops.specs.Expressions.{is_zero, sign, below_sign, lowest, sum, sum_and_carry, carry_out}
use Rattle.dcc_ops.specs.Expressions.{carry_out_of_both, sum_overflow, difference, difference_and_borrow, borrow_out}
use Rattle.dcc_ops.specs.Expressions.{borrow_out_of_both, difference_overflow, difference_overflow_of_both, count_expr}
use Rattle.dcc_ops.specs.Expressions.{unless_zero, if_one, shifted, nearly_shifted, rol_value, ror_value}
use Rattle.dcc_ops.specs.Expressions.{rcl_value, rcr_value, multiplied, needs_upper_half, condition, goes_round}

-- Pieces.

-- the operands go to their temporaries
abbrev pub operands_taking : Width → OperandPlace → OperandPlace → List Stmt
operands_taking w p q = taking (left_place w) p ∷ taking (right_place w) q ∷ []

-- a word register takes two bytes of an expression
abbrev pub word_taking : Reg → ℕ → Expr → List Stmt
word_taking r first e = Set (Half r Low) (Part 8 first e) ∷ Set (Half r High) (Part 8 (8 + first) e) ∷ []

-- OF, SF and ZF take three expressions
abbrev pub flags_taking : Expr → Expr → Expr → List Stmt
flags_taking overflow negative zero = Set (Flag Of) overflow ∷ Set (Flag Sf) negative ∷ Set (Flag Zf) zero ∷ []

abbrev pub carry_taking : Expr → List Stmt
carry_taking e = Set (Flag Cf) e ∷ []

abbrev pub result_taking : Width → Expr → List Stmt
result_taking w e = Set (result_place w) e ∷ []

-- the temporary of the carry takes CF as it comes in
abbrev pub carry_in : Stmt
carry_in = Set carry_place (flag Cf)

-- the flags of a sum but for CF; `difference_flags`: those of a difference
abbrev pub sum_flags : Width → List Stmt
sum_flags w = flags_taking (sum_overflow w) (sign w (result w)) (is_zero w (result w))

abbrev pub difference_flags : Width → List Stmt
difference_flags w =
    flags_taking (difference_overflow w) (sign w (result w)) (at_width EqOp w (left w) (right w))

-- Operations on two operands.

-- a subtraction without the borrow
abbrev pub subtracting : Width → List Stmt
subtracting w = result_taking w (difference w) ++ (difference_flags w ++ carry_taking (borrow_out w))

abbrev pub combining : Width → BinOp → List Stmt
combining w operator =
    result_taking w (at_width operator w (left w) (right w))
    ++ (flags_taking (bit 0) (sign w (result w)) (is_zero w (result w)) ++ carry_taking (bit 0))

-- what an operation does to the result and the flags
abbrev pub alu_working : Alu → Width → List Stmt
alu_working Add w = result_taking w (sum w) ++ (sum_flags w ++ carry_taking (carry_out w))
alu_working Adc w =
    carry_in ∷ (result_taking w (sum_and_carry w) ++ (sum_flags w ++ carry_taking (carry_out_of_both w)))
alu_working Sbb w =
    carry_in ∷ (result_taking w (difference_and_borrow w)
    ++ (flags_taking (difference_overflow_of_both w) (sign w (result w)) (is_zero w (result w))
    ++ carry_taking (borrow_out_of_both w)))
alu_working Sub w = subtracting w
alu_working Cmp w = subtracting w
alu_working And w = combining w AndOp
alu_working Test w = combining w AndOp
alu_working Or w = combining w OrOp
alu_working Xor w = combining w XorOp

-- the operand takes the result; CMP and TEST store nothing
abbrev pub alu_storing : Alu → Width → OperandPlace → List Stmt
alu_storing Cmp w p = []
alu_storing Test w p = []
alu_storing operation w p = storing p (result w)

abbrev pub alu_stmts : Alu → Width → OperandPlace → OperandPlace → List Stmt
alu_stmts operation w p q = operands_taking w p q ++ (alu_working operation w ++ alu_storing operation w p)

-- Operations on one operand.

-- a product goes to AX, or to DX and AX
abbrev pub product_storing : Width → List Stmt
product_storing byte_width = word_taking Ax 0 (product byte_width)
product_storing word_width = word_taking Ax 0 (product word_width) ++ word_taking Dx 16 (product word_width)

-- what a multiplication does to the product and the flags
abbrev pub product_working : Width → Bool → List Stmt
product_working w signed =
    Set (product_place w) (multiplied w signed)
    ∷ (flags_taking (needs_upper_half w signed) (bit 0) (bit 0) ++ carry_taking (needs_upper_half w signed))

-- the accumulator of a width: AL or AX
abbrev pub accumulator : Width → Operand
accumulator byte_width = Byte Ax Low
accumulator word_width = Word Ax

abbrev pub multiplying : Width → Bool → OperandPlace → List Stmt
multiplying w signed p =
    operands_taking w (register_place (accumulator w)) p ++ (product_working w signed ++ product_storing w)

-- the register takes the lower word of the signed product of an operand and a constant
abbrev pub triple_product : Reg → OperandPlace → ℕ → List Stmt
triple_product r p number =
    operands_taking word_width p (constant word_width number)
    ++ (product_working word_width true ++ word_taking r 0 (product word_width))

-- Divisions. The upper half of what is divided is 0, or repeats the sign of the lower one, so the lower one alone is
-- divided.

-- AL and AH, or AX and DX, take the quotient and the remainder
abbrev pub division_storing : Width → List Stmt
division_storing byte_width = Set (Half Ax Low) (result byte_width) ∷ Set (Half Ax High) (left byte_width) ∷ []
division_storing word_width = word_taking Ax 0 (result word_width) ++ word_taking Dx 0 (left word_width)

-- quotient and remainder of a division, the quotient first; no flag stays set
abbrev pub division_working : Width → BinOp → BinOp → List Stmt
division_working w quotient remainder =
    Div (result_place w) (at_width quotient w (left w) (right w))
    ∷ Div (left_place w) (at_width remainder w (left w) (right w))
    ∷ (flags_taking (bit 0) (bit 0) (bit 0) ++ carry_taking (bit 0))

abbrev pub dividing : Width → BinOp → BinOp → OperandPlace → List Stmt
dividing w quotient remainder p =
    operands_taking w (register_place (accumulator w)) p
    ++ (division_working w quotient remainder ++ division_storing w)

-- what NOT does to the result
abbrev pub complementing : Width → List Stmt
complementing w = result_taking w (UnaryExpr NotOp (bits_of w) (left w))

abbrev pub unary_stmts : Unary → Width → OperandPlace → List Stmt
unary_stmts Inc w p =
    operands_taking w p (constant w 1) ++ ((result_taking w (sum w) ++ sum_flags w) ++ storing p (result w))
unary_stmts Dec w p =
    operands_taking w p (constant w 1)
    ++ ((result_taking w (difference w) ++ difference_flags w) ++ storing p (result w))
unary_stmts Neg w p = operands_taking w (constant w 0) p ++ (subtracting w ++ storing p (result w))
unary_stmts Not w p = taking (left_place w) p ∷ (complementing w ++ storing p (result w))
unary_stmts Mul w p = multiplying w false p
unary_stmts Imul w p = multiplying w true p
unary_stmts DivOf w p = dividing w DivU RemU p
unary_stmts Idiv w p = dividing w DivS RemS p

-- Shifts and rotates.

-- the flags of a shift
abbrev pub shift_flags : Width → Count → Expr → Expr → List Stmt
shift_flags w count overflow carry =
    flags_taking
    (unless_zero w count Of overflow)
    (unless_zero w count Sf (sign w (result w)))
    (unless_zero w count Zf (is_zero w (result w)))
    ++ carry_taking (unless_zero w count Cf carry)

-- the flags of a rotate
abbrev pub rotate_flags : Width → Count → Expr → Expr → List Stmt
rotate_flags w count overflow carry =
    Set (Flag Of) (unless_zero w count Of overflow) ∷ carry_taking (unless_zero w count Cf carry)

abbrev pub shift_working : Shift → Width → Count → List Stmt
shift_working Shl w count =
    result_taking w (shifted ShlOp w)
    ++ shift_flags w count
    (if_one w count (Binary XorOp 1 (sign w (nearly_shifted ShlOp w)) (sign w (result w))))
    (sign w (nearly_shifted ShlOp w))
shift_working Shr w count =
    result_taking w (shifted ShrOp w)
    ++ shift_flags w count (if_one w count (sign w (left w))) (lowest (nearly_shifted ShrOp w))
shift_working Sar w count =
    result_taking w (shifted SarOp w) ++ shift_flags w count (bit 0) (lowest (nearly_shifted SarOp w))
shift_working Rol w count =
    result_taking w (rol_value w)
    ++ rotate_flags w count
    (if_one w count (Binary XorOp 1 (lowest (result w)) (sign w (result w))))
    (lowest (result w))
shift_working Ror w count =
    result_taking w (ror_value w)
    ++ rotate_flags w count
    (if_one w count (Binary XorOp 1 (sign w (result w)) (below_sign w (result w))))
    (sign w (result w))
shift_working Rcl w count =
    carry_in ∷ (result_taking w (rcl_value w)
    ++ rotate_flags w One (Binary XorOp 1 (sign w (left w)) (sign w (result w))) (sign w (left w)))
shift_working Rcr w count =
    carry_in ∷ (result_taking w (rcr_value w)
    ++ rotate_flags w One (Binary XorOp 1 (sign w (result w)) (below_sign w (result w))) (lowest (left w)))

-- the operand and the count go to their temporaries
abbrev pub count_taking : Cpu → Width → OperandPlace → Count → List Stmt
count_taking cpu w p count = taking (left_place w) p ∷ Set (right_place w) (count_expr cpu w count) ∷ []

abbrev pub shifting : Cpu → Shift → Width → OperandPlace → Count → List Stmt
shifting cpu operation w p count =
    count_taking cpu w p count ++ (shift_working operation w count ++ storing p (result w))

-- an operand takes its own value, and the flags stay
abbrev pub staying : Width → OperandPlace → List Stmt
staying w p = taking (result_place w) p ∷ storing p (result w)

-- the statements of a shift or rotate; by a constant that is 0 modulo 32 nothing is shifted
abbrev pub shift_stmts : Cpu → Shift → Width → OperandPlace → Count → List Stmt
shift_stmts cpu operation w p count =
    if never_shifts count then staying w p else shifting cpu operation w p count

-- Moves. Between halves they go half by half, else through a temporary.

abbrev pub mov_stmts : Width → OperandPlace → OperandPlace → List Stmt
mov_stmts w (byte to) (byte from) = Set to (Get from) ∷ []
mov_stmts w (byte to) (constant v n) = Set to (Const (bits_of v) n) ∷ []
mov_stmts w (word low high) (word l h) = Set low (Get l) ∷ Set high (Get h) ∷ []
mov_stmts w (word low high) (constant v n) = Set low (Const 8 (n % 256)) ∷ Set high (Const 8 (n / 256)) ∷ []
mov_stmts w p q = taking (left_place w) q ∷ storing p (left w)

-- XOR and SUB of a place with itself: the flags of 0, and 0 moves there
abbrev pub zeroing : Width → OperandPlace → List Stmt
zeroing w p =
    flags_taking (bit 0) (bit 0) (bit 1) ++ (carry_taking (bit 0) ++ mov_stmts w p (constant w 0))

-- two bytes are exchanged
abbrev pub exchanging : Loc → Loc → List Stmt
exchanging a b = Set (left_place byte_width) (Get a) ∷ Set a (Get b) ∷ Set b (left byte_width) ∷ []

-- the statements of XCHG; the first operand is stored first
abbrev pub xchg_stmts : Width → OperandPlace → OperandPlace → List Stmt
xchg_stmts w (byte a) (byte b) = exchanging a b
xchg_stmts w (word low high) (word l h) = exchanging low l ++ exchanging high h
xchg_stmts w p q = operands_taking w p q ++ (storing p (right w) ++ storing q (left w))

-- Operations without operands.

-- the address of the byte that XLAT loads
abbrev pub xlat_address : Expr
xlat_address = Binary AddOp 16 (word_of Bx) (Widen false 16 (Get (Half Ax Low)))

abbrev pub plain_stmts : Plain → List Stmt
plain_stmts Cbw = Set (Half Ax High) (Part 8 8 (Widen true 16 (Get (Half Ax Low)))) ∷ []
plain_stmts Cwd =
    Set (product_place word_width) (Widen true 32 (word_of Ax)) ∷ word_taking Dx 16 (product word_width)
plain_stmts Clc = carry_taking (bit 0)
plain_stmts Stc = carry_taking (bit 1)
plain_stmts Cmc = carry_taking (negated (flag Cf))
plain_stmts Xlat = mov_stmts byte_width (byte (Half Ax Low)) (memory byte_width xlat_address)
plain_stmts operation = []

-- CX is lowered by 1
abbrev pub counting : List Stmt
counting =
    result_taking word_width (at_width SubOp word_width (word_of Cx) (number word_width 1))
    ++ word_taking Cx 0 (result word_width)

-- the DOS call of that number
abbrev pub dos_stmts : Option ℕ → List Stmt
dos_stmts None = []
dos_stmts (Some number) =
    if number == 0x02 then Dos number None (Some (Get (Half Dx Low))) ∷ []
    else if number == 0x4C then Dos number None (Some (Get (Half Ax Low))) ∷ []
    else if number == 0x09 then Dos number None (Some (word_of Dx)) ∷ []
    else if (number == 0x01) || (number == 0x08) then Dos number (Some (Half Ax Low)) None ∷ []
    else []

-- All operations that are built, with the places of their operands; INT 21h has the number of its call.
abbrev pub op_stmts : Cpu → Op → Option ℕ → OperandPlace → OperandPlace → List Stmt
op_stmts cpu (AluOp operation a b) number p q =
    if is_zeroing operation a b then zeroing (operand_width a) p else alu_stmts operation (operand_width a) p q
op_stmts cpu (UnaryOp operation a) number p q = unary_stmts operation (operand_width a) p
op_stmts cpu (ShiftOp operation a count) number p q = shift_stmts cpu operation (operand_width a) p count
op_stmts cpu (Mov to from) number p q = mov_stmts (operand_width to) p q
op_stmts cpu (Xchg a b) number p q = xchg_stmts (operand_width a) p q
op_stmts cpu (Imul3 r a factor) number p q = triple_product r p factor
op_stmts cpu (PlainOp operation) number p q = plain_stmts operation
op_stmts cpu (Loop target) number p q = counting
op_stmts cpu (LoopE target) number p q = counting
op_stmts cpu (LoopNe target) number p q = counting
op_stmts cpu Int21 number p q = dos_stmts number
op_stmts cpu op number p q = []

-- Ends.

-- the test of an operation with two successors
abbrev pub op_test : Op → Option Expr
op_test (Branch tested target) = Some (condition tested)
op_test (Loop target) = Some goes_round
op_test (LoopE target) = Some (Binary AndOp 1 (flag Zf) goes_round)
op_test (LoopNe target) = Some (Binary AndOp 1 (negated (flag Zf)) goes_round)
op_test (Jcxz target) = Some (is_zero word_width (word_of Cx))
op_test op = None

-- the end of a block by its test and the places of its successors
abbrev pub exit_to : Option Expr → List ℕ → Exit
exit_to (Some test) (target ∷ next ∷ []) = If test target next
exit_to test (next ∷ []) = Goto next
exit_to test places = Stop
