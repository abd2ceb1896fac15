-- The statements of an instruction other than CALL hold no Call.
use Rattle.std.proofs.Common.{◌≡◌, ℕ, suc, ◌+◌, ◌*◌, Bool, true, false, ◌||◌, if◌then◌else◌, List, [], ◌∷◌, ◌++◌, Option, refl, ap, ◌∙◌}
use Rattle.std.specs.Prelude.{pos, ◌+ℤ◌}
use Rattle.std.specs.List.{list_any}
use Rattle.std.proofs.lemmas.List.Folds.{list_any-append}
use Rattle.dcc_num.specs.declared.Width.{Width}
use Rattle.dcc_num.specs.declared.Width.TheVariants.{Byte as byte_width, Word as word_width}
use Rattle.dcc_machine.specs.declared.cpu.Cpu.{Cpu}
use Rattle.dcc_machine.specs.declared.instr.Alu.{Alu}
use Rattle.dcc_machine.specs.declared.instr.Alu.TheVariants.{Add, Or, Adc, Sbb, And, Sub, Xor, Cmp, Test}
use Rattle.dcc_machine.specs.declared.instr.Shift.{Shift}
use Rattle.dcc_machine.specs.declared.instr.Shift.TheVariants.{Rol, Ror, Rcl, Rcr, Shl, Shr, Sar}
use Rattle.dcc_machine.specs.declared.instr.Count.{Count}
use Rattle.dcc_machine.specs.declared.instr.Unary.{Unary}
use Rattle.dcc_machine.specs.declared.instr.Unary.TheVariants.{Inc, Dec, Neg, Not, Mul, Imul, Div as DivOf, Idiv}
use Rattle.dcc_machine.specs.declared.instr.Plain.{Plain}
use Rattle.dcc_machine.specs.declared.instr.Plain.TheVariants.{Cbw, Cwd, Xlat, Clc, Stc, Cmc}
use Rattle.dcc_machine.specs.declared.instr.Operand.TheVariants.{Word}
use Rattle.dcc_machine.specs.declared.instr.Op.{Op}
use Rattle.dcc_machine.specs.declared.instr.Op.TheVariants.{Alu as AluOp, Unary as UnaryOp, Shift as ShiftOp, Mov, Xchg, Imul3, Lea, Push, Pop, Plain as PlainOp, Loop, LoopE, LoopNe, Call as CallOp, Int21}
use Rattle.dcc_prog.specs.declared.procedure.Node.{Node}
use Rattle.dcc_machine.specs.Machine.{operand_width}
use Rattle.dcc_machine.specs.Writes.{never_shifts}
use Rattle.dcc_machine.specs.Wanted.{is_zeroing}
use Rattle.dcc_ir.specs.declared.syntax.Loc.{Loc}
use Rattle.dcc_ir.specs.Tree.{Expr, Get, Stmt}
use Rattle.dcc_ir.specs.Run.{is_call}
use Rattle.dcc_ops.proofs.DosStatements.{dos_all}
use Rattle.dcc_ops.specs.Temporaries.{returned_place, left_place, right_place, result_place}
use Rattle.dcc_ops.specs.OperandPlace.{OperandPlace, constant, byte, word, memory, address, computed, taking, storing}
use Rattle.dcc_ops.specs.Registers.{register_place}
use Rattle.dcc_ops.specs.Expressions.{result, left, right}
use Rattle.dcc_ops.specs.Computed.{computed_expr}
use Rattle.dcc_ops.specs.Statements.{alu_storing, alu_working, alu_stmts, zeroing, unary_stmts, shift_working, shifting, staying, shift_stmts, mov_stmts, xchg_stmts, plain_stmts, dos_stmts, op_stmts}
use Rattle.dcc_simulation.specs.Procedures.{Procedure, frame_place}
use Rattle.dcc_simulation.specs.Operands.{address_of, operand_place, first_place, second_place}
use Rattle.dcc_simulation.specs.Statements.{argument_offset, top_place, place_below_top, taking_all_back, moves_frame}
use Rattle.dcc_simulation.specs.Statements.{working_stmts, node_stmts}
use Rattle.dcc_lift.specs.Blocks.{is_call as is_call_op}

-- no statement is a Call
abbrev pub IsCallFree : List Stmt → Type 0
IsCallFree stmts = list_any is_call stmts ≡ false

pub free-append : (stmts more : List Stmt) → IsCallFree stmts → IsCallFree more → IsCallFree (stmts ++ more)
free-append stmts more e f = list_any-append is_call stmts more ∙ ap (λ b. b || list_any is_call more) e ∙ f

-- Places.

taking-free : (to : Loc) (place : OperandPlace) → is_call (taking to place) ≡ false
taking-free to (constant w n) = refl
taking-free to (byte location) = refl
taking-free to (word low high) = refl
taking-free to (memory w at) = refl
taking-free to (address distance) = refl
taking-free to (computed e) = refl

pub storing-free : (place : OperandPlace) (e : Expr) → IsCallFree (storing place e)
storing-free (constant w n) e = refl
storing-free (byte location) e = refl
storing-free (word low high) e = refl
storing-free (memory w at) e = refl
storing-free (address distance) e = refl
storing-free (computed f) e = refl

-- one that takes a place, and others
taken : (to : Loc) (place : OperandPlace) {b : Bool} → b ≡ false → (is_call (taking to place) || b) ≡ false
taken to place {b} e = ap (λ c. c || b) (taking-free to place) ∙ e

-- Operations.

alu-working-free : (operation : Alu) (w : Width) → IsCallFree (alu_working operation w)
alu-working-free Add w = refl
alu-working-free Or w = refl
alu-working-free Adc w = refl
alu-working-free Sbb w = refl
alu-working-free And w = refl
alu-working-free Sub w = refl
alu-working-free Xor w = refl
alu-working-free Cmp w = refl
alu-working-free Test w = refl

alu-storing-free : (operation : Alu) (w : Width) (p : OperandPlace) → IsCallFree (alu_storing operation w p)
alu-storing-free Cmp w p = refl
alu-storing-free Test w p = refl
alu-storing-free Add w p = storing-free p (result w)
alu-storing-free Or w p = storing-free p (result w)
alu-storing-free Adc w p = storing-free p (result w)
alu-storing-free Sbb w p = storing-free p (result w)
alu-storing-free And w p = storing-free p (result w)
alu-storing-free Sub w p = storing-free p (result w)
alu-storing-free Xor w p = storing-free p (result w)

unary-free : (operation : Unary) (w : Width) (p : OperandPlace) → IsCallFree (unary_stmts operation w p)
unary-free Inc w p = taken (left_place w) p (storing-free p (result w))
unary-free Dec w p = taken (left_place w) p (storing-free p (result w))
unary-free Neg w p = taken (right_place w) p (storing-free p (result w))
unary-free Not w p = taken (left_place w) p (storing-free p (result w))
unary-free Mul byte_width p = taken (right_place byte_width) p refl
unary-free Mul word_width p = taken (right_place word_width) p refl
unary-free Imul byte_width p = taken (right_place byte_width) p refl
unary-free Imul word_width p = taken (right_place word_width) p refl
unary-free DivOf byte_width p = taken (right_place byte_width) p refl
unary-free DivOf word_width p = taken (right_place word_width) p refl
unary-free Idiv byte_width p = taken (right_place byte_width) p refl
unary-free Idiv word_width p = taken (right_place word_width) p refl

shift-working-free : (operation : Shift) (w : Width) (count : Count) → IsCallFree (shift_working operation w count)
shift-working-free Rol w count = refl
shift-working-free Ror w count = refl
shift-working-free Rcl w count = refl
shift-working-free Rcr w count = refl
shift-working-free Shl w count = refl
shift-working-free Shr w count = refl
shift-working-free Sar w count = refl

shift-free : (cpu : Cpu) (operation : Shift) (w : Width) (p : OperandPlace) (count : Count)
    → IsCallFree (shift_stmts cpu operation w p count)
shift-free cpu operation w p count = go (never_shifts count)
  where
    go : (b : Bool) → IsCallFree (if b then staying w p else shifting cpu operation w p count)
    go true = taken (result_place w) p (storing-free p (result w))
    go false =
        taken (left_place w) p
        (free-append (shift_working operation w count) (storing p (result w)) (shift-working-free operation w count)
        (storing-free p (result w)))

pub mov-free : (w : Width) (p q : OperandPlace) → IsCallFree (mov_stmts w p q)
mov-free w (byte to) (byte from) = refl
mov-free w (byte to) (constant v n) = refl
mov-free w (word low high) (word l h) = refl
mov-free w (word low high) (constant v n) = refl
mov-free w p q = taken (left_place w) q (storing-free p (left w))

xchg-free : (w : Width) (p q : OperandPlace) → IsCallFree (xchg_stmts w p q)
xchg-free w (byte a) (byte b) = refl
xchg-free w (word low high) (word l h) = refl
xchg-free w p q =
    taken (left_place w) p
    (taken (right_place w) q
    (free-append (storing p (right w)) (storing q (left w)) (storing-free p (right w)) (storing-free q (left w))))

plain-free : (operation : Plain) → IsCallFree (plain_stmts operation)
plain-free Cbw = refl
plain-free Cwd = refl
plain-free Xlat = refl
plain-free Clc = refl
plain-free Stc = refl
plain-free Cmc = refl
plain-free operation = refl

dos-free : (number : Option ℕ) → IsCallFree (dos_stmts number)
dos-free = dos_all (λ l. IsCallFree l) refl (λ n. refl) (λ n. refl) (λ n. refl) (λ n. refl)

op-free : (cpu : Cpu) (op : Op) (number : Option ℕ) (p q : OperandPlace) → IsCallFree (op_stmts cpu op number p q)
op-free cpu (AluOp operation a b) number p q = go (is_zeroing operation a b)
  where
    w : Width
    w = operand_width a

    go : (zero : Bool) → IsCallFree (if zero then zeroing w p else alu_stmts operation w p q)
    go true = mov-free w p (constant w 0)
    go false =
        taken (left_place w) p
        (taken (right_place w) q
        (free-append (alu_working operation w) (alu_storing operation w p) (alu-working-free operation w)
        (alu-storing-free operation w p)))
op-free cpu (UnaryOp operation a) number p q = unary-free operation (operand_width a) p
op-free cpu (ShiftOp operation a count) number p q = shift-free cpu operation (operand_width a) p count
op-free cpu (Mov to from) number p q = mov-free (operand_width to) p q
op-free cpu (Xchg a b) number p q = xchg-free (operand_width a) p q
op-free cpu (Imul3 r a factor) number p q = taken (left_place word_width) p refl
op-free cpu (PlainOp operation) number p q = plain-free operation
op-free cpu (Loop target) number p q = refl
op-free cpu (LoopE target) number p q = refl
op-free cpu (LoopNe target) number p q = refl
op-free cpu Int21 number p q = dos-free number
op-free cpu op number p q = refl

-- Instructions.

working-free : (cpu : Cpu) (procedures : List Procedure) (p : Procedure) (height : ℕ) (op : Op) (number : Option ℕ)
    → is_call_op op ≡ false → IsCallFree (working_stmts cpu procedures p height op number)
working-free cpu procedures p height (Push a) number other =
    mov-free word_width (place_below_top p height) (operand_place p height a)
working-free cpu procedures p height (Pop a) number other =
    mov-free word_width (operand_place p height a) (top_place p height)
working-free cpu procedures p height (Lea r ea) number other =
    mov-free word_width (register_place (Word r)) (computed (computed_expr (address_of ea)))
working-free cpu procedures p height (CallOp target) number other = cc
working-free cpu procedures p height op number other =
    op-free cpu op number (first_place p height op) (second_place p height op)

pub node-free : (cpu : Cpu) (procedures : List Procedure) (p : Procedure) (height : ℕ) (node : Node)
    → is_call_op node.instr.op ≡ false → IsCallFree (node_stmts cpu procedures p height node)
node-free cpu procedures p height node other = go (moves_frame node.instr.op)
  where
    go : (b : Bool)
        → IsCallFree (if b then [] else working_stmts cpu procedures p height node.instr.op node.number)
    go true = refl
    go false = working-free cpu procedures p height node.instr.op node.number other

-- what a caller takes back
pub back-free : (caller : Procedure) (height index : ℕ) (numbers : List ℕ)
    → IsCallFree (taking_all_back caller height index numbers)
back-free caller height index [] = refl
back-free caller height index (number ∷ numbers) =
    let low = argument_offset height number in
    let first = storing (frame_place caller byte_width low) (Get (returned_place (2 * index))) in
    let second = storing (frame_place caller byte_width (low +ℤ pos 1)) (Get (returned_place (2 * index + 1))) in
    free-append (first ++ second) (taking_all_back caller height (suc index) numbers)
    (free-append first second
    (storing-free (frame_place caller byte_width low) (Get (returned_place (2 * index))))
    (storing-free (frame_place caller byte_width (low +ℤ pos 1)) (Get (returned_place (2 * index + 1)))))
    (back-free caller height (suc index) numbers)
