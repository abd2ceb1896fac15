-- The statements of an instruction read flags, where they set one, as a negation or as an arm of a choice alone.
use Rattle.std.proofs.Common.{◌≡◌, ℕ, Bool, true, false, if◌then◌else◌, List, ◌++◌, Option, None, refl, ◌∙◌}
use Rattle.std.specs.List.{list_all}
use Rattle.std.proofs.lemmas.List.Folds.{list_all-append}
use Rattle.dcc_num.specs.declared.Width.{Width}
use Rattle.dcc_num.specs.declared.Width.TheVariants.{Word as word_width}
use Rattle.dcc_num.specs.declared.Reg.TheVariants.{Ax, Sp, Bp}
use Rattle.dcc_machine.specs.declared.cpu.Cpu.{Cpu}
use Rattle.dcc_machine.specs.declared.instr.Ea.{Ea}
use Rattle.dcc_machine.specs.declared.instr.Operand.{Operand}
use Rattle.dcc_machine.specs.declared.instr.Operand.TheVariants.{Word, Byte, Seg, Mem, Const as Constant}
use Rattle.dcc_machine.specs.declared.instr.Op.{Op}
use Rattle.dcc_machine.specs.declared.instr.Op.TheVariants.{Alu, Unary, Shift, Mov, Xchg, Lea, Imul3, Push, Pop, Call as CallOp}
use Rattle.dcc_machine.specs.Access.{is_direct}
use Rattle.dcc_prog.specs.Frame.{offset_in_frame}
use Rattle.dcc_ir.specs.Tree.{Stmt}
use Rattle.dcc_ops.specs.Computed.{computed_expr}
use Rattle.dcc_ops.specs.Registers.{register_place}
use Rattle.dcc_ops.specs.OperandPlace.{OperandPlace, memory, computed, is_sound_place}
use Rattle.dcc_ops.specs.Statements.{mov_stmts}
use Rattle.dcc_ops.specs.FlagReading.{sets_flags_plainly}
use Rattle.dcc_ops.proofs.FlagReadLaws.{op_plain}
use Rattle.dcc_simulation.specs.Procedures.{Procedure, frame_place}
use Rattle.dcc_simulation.specs.Operands.{address_of, memory_place, operand_place, first_place, second_place}
use Rattle.dcc_simulation.specs.Statements.{top_place, place_below_top, working_stmts}
use Rattle.dcc_lift.proofs.ListTests.{and_both}
use Rattle.dcc_lift.proofs.FormNodes.{frame-good, IsNoCall}

abbrev pub are_plain : List Stmt → Bool
are_plain stmts = list_all sets_flags_plainly stmts

pub plain-append : (stmts others : List Stmt) → are_plain stmts ≡ true → are_plain others ≡ true
    → are_plain (stmts ++ others) ≡ true
plain-append stmts others p q =
    list_all-append sets_flags_plainly stmts others ∙ and_both (are_plain stmts) (are_plain others) p q

memory-sound : (p : Procedure) (w : Width) (ea : Ea) → is_sound_place (memory_place p w ea) ≡ true
memory-sound p w ea = go (is_direct ea)
  where
    go : (b : Bool)
        → is_sound_place (if b then frame_place p w (offset_in_frame ea) else memory w (computed_expr (address_of ea)))
        ≡ true
    go true = (frame-good p w (offset_in_frame ea)).sound
    go false = refl

operand-sound : (p : Procedure) (height : ℕ) (a : Operand) → is_sound_place (operand_place p height a) ≡ true
operand-sound p height (Word Sp) = refl
operand-sound p height (Word Bp) = refl
operand-sound p height (Word r) = refl
operand-sound p height (Byte r half) = refl
operand-sound p height (Seg number) = refl
operand-sound p height (Mem w ea) = memory-sound p w ea
operand-sound p height (Constant w n) = refl

first-sound : (p : Procedure) (height : ℕ) (op : Op) → is_sound_place (first_place p height op) ≡ true
first-sound p height (Alu operation a b) = operand-sound p height a
first-sound p height (Unary operation a) = operand-sound p height a
first-sound p height (Shift operation a count) = operand-sound p height a
first-sound p height (Mov to from) = operand-sound p height to
first-sound p height (Xchg a b) = operand-sound p height a
first-sound p height (Imul3 r a factor) = operand-sound p height a
first-sound p height op = refl

second-sound : (p : Procedure) (height : ℕ) (op : Op) → is_sound_place (second_place p height op) ≡ true
second-sound p height (Alu operation a b) = operand-sound p height b
second-sound p height (Mov to from) = operand-sound p height from
second-sound p height (Xchg a b) = operand-sound p height b
second-sound p height op = refl

mov-plain : (cpu : Cpu) (p q : OperandPlace) → is_sound_place p ≡ true → is_sound_place q ≡ true
    → are_plain (mov_stmts word_width p q) ≡ true
mov-plain cpu p q one other = op_plain cpu (Mov (Word Ax) (Word Ax)) None p q one other

pub working-plain : (cpu : Cpu) (procedures : List Procedure) (p : Procedure) (height : ℕ) (op : Op) (number : Option ℕ)
    → IsNoCall op → are_plain (working_stmts cpu procedures p height op number) ≡ true
working-plain cpu procedures p height (Push a) number other =
    mov-plain cpu (place_below_top p height) (operand_place p height a) (frame-good p word_width _).sound
    (operand-sound p height a)
working-plain cpu procedures p height (Pop a) number other =
    mov-plain cpu (operand_place p height a) (top_place p height) (operand-sound p height a)
    (frame-good p word_width _).sound
working-plain cpu procedures p height (Lea r ea) number other =
    mov-plain cpu (register_place (Word r)) (computed (computed_expr (address_of ea))) refl refl
working-plain cpu procedures p height (CallOp target) number other = absurd other
working-plain cpu procedures p height op number other =
    op_plain cpu op number (first_place p height op) (second_place p height op) (first-sound p height op)
    (second-sound p height op)
