-- Each instruction of a procedure has few statements on flags: wherever its operands stand, what is there is on none.
use Rattle.std.proofs.Common.{◌≡◌, ℕ, suc, ◌+◌, ◌*◌, ◌==◌, Bool, true, false, not, ◌||◌, if◌then◌else◌, List, [], ◌∷◌, Option, Some, None, refl, ap, ap₂, ◌∙◌}
use Rattle.std.specs.Prelude.{ℤ, pos, ◌+ℤ◌, option_map}
use Rattle.std.proofs.lemmas.List.Folds.{list_any-append}
use Rattle.dcc_num.specs.declared.Width.{Width}
use Rattle.dcc_num.specs.declared.Width.TheVariants.{Byte as byte_width, Word as word_width}
use Rattle.dcc_num.specs.declared.Reg.{Reg}
use Rattle.dcc_num.specs.declared.Reg.TheVariants.{Sp, Bp}
use Rattle.dcc_machine.specs.declared.cpu.Cpu.{Cpu}
use Rattle.dcc_prog.specs.declared.frame.Cell.{Cell}
use Rattle.dcc_prog.specs.declared.procedure.Node.{Node}
use Rattle.dcc_machine.specs.declared.instr.Ea.{Ea}
use Rattle.dcc_machine.specs.declared.instr.Operand.{Operand}
use Rattle.dcc_machine.specs.declared.instr.Operand.TheVariants.{Word, Byte, Seg, Mem, Const as Constant}
use Rattle.dcc_machine.specs.declared.instr.Op.{Op}
use Rattle.dcc_machine.specs.declared.instr.Op.TheVariants.{Alu, Unary, Shift, Mov, Xchg, Lea, Imul3, Push, Pop, Call as CallOp}
use Rattle.dcc_machine.specs.Access.{is_direct}
use Rattle.dcc_prog.specs.Analysed.{bytes_of}
use Rattle.dcc_prog.specs.Frame.{offset_in_frame}
use Rattle.dcc_stack.specs.Slots.{is_within, is_placed}
use Rattle.dcc_ir.specs.declared.syntax.BinOp.TheVariants.{Add}
use Rattle.dcc_ir.specs.Tree.{Expr, Get, Const, Binary, Address, Call}
use Rattle.dcc_ir.specs.Use.{parts_of}
use Rattle.dcc_ops.specs.declared.operand_place.Computed.{Computed}
use Rattle.dcc_ops.specs.Computed.{adding, ending, computed_expr}
use Rattle.dcc_ops.specs.Temporaries.{returned_place}
use Rattle.dcc_ops.specs.Expressions.{word_of}
use Rattle.dcc_ops.specs.Registers.{register_place}
use Rattle.dcc_ops.specs.OperandPlace.{memory, computed, storing}
use Rattle.dcc_ops.specs.Statements.{mov_stmts}
use Rattle.dcc_simulation.specs.Procedures.{Procedure, procedure_at, within_cell, cell_place, cells_of, distance_of}
use Rattle.dcc_simulation.specs.Procedures.{frame_place, given_back}
use Rattle.dcc_simulation.specs.Operands.{address_of, stack_pointer, frame_pointer, memory_place, operand_place}
use Rattle.dcc_simulation.specs.Operands.{first_place, second_place}
use Rattle.dcc_simulation.specs.Statements.{top_place, place_below_top, argument_offset, taking_back, taking_all_back}
use Rattle.dcc_simulation.specs.Statements.{results_of, arguments_of, calling, moves_frame, working_stmts, node_stmts}
use Rattle.dcc_lift.specs.FlagStmts.{is_on_flags}
use Rattle.dcc_lift.proofs.FlagCounts.{AreFew, are_off_flags, off-cons, off-append, is_apart, storing-off}
use Rattle.dcc_lift.proofs.FlagOperations.{is_flag_part, nothing, mov-off, op-few}

-- Sums.

plus-apart : (a b : Expr) → is_on_flags a ≡ false → is_on_flags b ≡ false → is_on_flags (Binary Add 16 a b) ≡ false
plus-apart a b one other =
    list_any-append is_flag_part (parts_of a) (parts_of b)
    ∙ ap₂ (λ x y. x || y) one other

-- a sum so far is on no flags, where there is one
abbrev IsApartSum : Option Expr → Type 0
IsApartSum None = Unit {0}
IsApartSum (Some e) = is_on_flags e ≡ false

adding-apart : (r : Option Reg) (sum : Option Expr) → IsApartSum sum → IsApartSum (adding r sum)
adding-apart None sum apart = apart
adding-apart (Some r) None apart = refl
adding-apart (Some r) (Some e) apart = plus-apart e (word_of r) apart refl

ending-apart : (n : ℕ) (sum : Option Expr) → IsApartSum sum → is_on_flags (ending n sum) ≡ false
ending-apart n None apart = refl
ending-apart n (Some e) apart = go (n == 0)
  where
    go : (b : Bool) → is_on_flags (if b then e else Binary Add 16 e (Const 16 n)) ≡ false
    go true = apart
    go false = plus-apart e (Const 16 n) apart refl

framed-apart : (frame : Option ℕ) → IsApartSum (option_map Address frame)
framed-apart None = tt
framed-apart (Some distance) = refl

computed-apart : (c : Computed) → is_on_flags (computed_expr c) ≡ false
computed-apart c =
    ending-apart c.number (adding c.index (adding c.base (option_map Address c.frame)))
    (adding-apart c.index (adding c.base (option_map Address c.frame))
    (adding-apart c.base (option_map Address c.frame) (framed-apart c.frame)))

-- Places.

within-apart : (w : Width) (number : ℕ) (cell : Cell) (k : ℤ) → is_apart (within_cell number cell w k) ≡ true
within-apart byte_width number cell k = refl
within-apart word_width number cell k = refl

cell-apart : (w : Width) (number : ℕ) (cells : List Cell) (k : ℤ) → is_apart (cell_place number cells w k) ≡ true
cell-apart w number [] k = refl
cell-apart w number (cell ∷ cells) k = go (is_within k (bytes_of cell)) (cell-apart w (suc number) cells k)
  where
    go : (b : Bool) → is_apart (cell_place (suc number) cells w k) ≡ true
        → is_apart (if b then within_cell number cell w k else cell_place (suc number) cells w k) ≡ true
    go true later = within-apart w number cell k
    go false later = later

-- a byte or a word of a frame
frame-apart : (p : Procedure) (w : Width) (k : ℤ) → is_apart (frame_place p w k) ≡ true
frame-apart p w k = go (is_placed p.frame k)
  where
    go : (b : Bool)
        → is_apart (if b then memory w (Address (distance_of k)) else cell_place 0 (cells_of p) w k) ≡ true
    go true = refl
    go false = cell-apart w 0 (cells_of p) k

memory-apart : (p : Procedure) (w : Width) (ea : Ea) → is_apart (memory_place p w ea) ≡ true
memory-apart p w ea = go (is_direct ea)
  where
    go : (b : Bool)
        → is_apart (if b then frame_place p w (offset_in_frame ea) else memory w (computed_expr (address_of ea)))
        ≡ true
    go true = frame-apart p w (offset_in_frame ea)
    go false = ap not (computed-apart (address_of ea))

operand-apart : (p : Procedure) (height : ℕ) (a : Operand) → is_apart (operand_place p height a) ≡ true
operand-apart p height (Word Sp) = ap not (computed-apart (stack_pointer p height))
operand-apart p height (Word Bp) = ap not (computed-apart (frame_pointer height))
operand-apart p height (Word r) = refl
operand-apart p height (Byte r half) = refl
operand-apart p height (Seg number) = refl
operand-apart p height (Mem w ea) = memory-apart p w ea
operand-apart p height (Constant w n) = refl

first-apart : (p : Procedure) (height : ℕ) (op : Op) → is_apart (first_place p height op) ≡ true
first-apart p height (Alu operation a b) = operand-apart p height a
first-apart p height (Unary operation a) = operand-apart p height a
first-apart p height (Shift operation a count) = operand-apart p height a
first-apart p height (Mov to from) = operand-apart p height to
first-apart p height (Xchg a b) = operand-apart p height a
first-apart p height (Imul3 r a factor) = operand-apart p height a
first-apart p height op = refl

second-apart : (p : Procedure) (height : ℕ) (op : Op) → is_apart (second_place p height op) ≡ true
second-apart p height (Alu operation a b) = operand-apart p height b
second-apart p height (Mov to from) = operand-apart p height from
second-apart p height (Xchg a b) = operand-apart p height b
second-apart p height op = refl

-- Calls. A Call sets flags, but is no statement on them.

taking-off : (caller : Procedure) (height index number : ℕ)
    → are_off_flags (taking_back caller height index number) ≡ true
taking-off caller height index number =
    off-append
    (storing (frame_place caller byte_width (argument_offset height number)) (Get (returned_place (2 * index))))
    (storing (frame_place caller byte_width (argument_offset height number +ℤ pos 1))
    (Get (returned_place (2 * index + 1))))
    (storing-off (frame_place caller byte_width (argument_offset height number)) (Get (returned_place (2 * index)))
    refl)
    (storing-off (frame_place caller byte_width (argument_offset height number +ℤ pos 1))
    (Get (returned_place (2 * index + 1))) refl)

taking-all-off : (caller : Procedure) (height index : ℕ) (numbers : List ℕ)
    → are_off_flags (taking_all_back caller height index numbers) ≡ true
taking-all-off caller height index [] = refl
taking-all-off caller height index (number ∷ numbers) =
    off-append (taking_back caller height index number) (taking_all_back caller height (suc index) numbers)
    (taking-off caller height index number) (taking-all-off caller height (suc index) numbers)

calling-off : (caller : Procedure) (height : ℕ) (callee : Option Procedure)
    → are_off_flags (calling caller height callee) ≡ true
calling-off caller height None = refl
calling-off caller height (Some callee) =
    off-cons
    (Call (results_of callee) callee.proc.entry (arguments_of caller height callee) (height + 2))
    (taking_all_back caller height 0 (given_back callee)) refl
    (taking-all-off caller height 0 (given_back callee))

-- Instructions.

working-few : (cpu : Cpu) (procedures : List Procedure) (p : Procedure) (height : ℕ) (op : Op) (number : Option ℕ)
    → AreFew op (working_stmts cpu procedures p height op number)
working-few cpu procedures p height (Push a) number =
    nothing (Push a) (mov_stmts word_width (place_below_top p height) (operand_place p height a))
    (mov-off word_width (place_below_top p height) (operand_place p height a) (operand-apart p height a))
working-few cpu procedures p height (Pop a) number =
    nothing (Pop a) (mov_stmts word_width (operand_place p height a) (top_place p height))
    (mov-off word_width (operand_place p height a) (top_place p height) (frame-apart p word_width _))
working-few cpu procedures p height (Lea r ea) number =
    nothing (Lea r ea) (mov_stmts word_width (register_place (Word r)) (computed (computed_expr (address_of ea))))
    (mov-off word_width (register_place (Word r)) (computed (computed_expr (address_of ea)))
    (ap not (computed-apart (address_of ea))))
working-few cpu procedures p height (CallOp target) number =
    nothing (CallOp target) (calling p height (procedure_at procedures target))
    (calling-off p height (procedure_at procedures target))
working-few cpu procedures p height op number =
    op-few cpu op number (first_place p height op) (second_place p height op) (first-apart p height op)
    (second-apart p height op)

pub node-few : (cpu : Cpu) (procedures : List Procedure) (p : Procedure) (height : ℕ) (node : Node)
    → AreFew node.instr.op (node_stmts cpu procedures p height node)
node-few cpu procedures p height node = go (moves_frame node.instr.op)
  where
    go : (b : Bool)
        → AreFew node.instr.op (if b then [] else working_stmts cpu procedures p height node.instr.op node.number)
    go true = nothing node.instr.op [] refl
    go false = working-few cpu procedures p height node.instr.op node.number
