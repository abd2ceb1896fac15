-- The forms in which a procedure may use SP and BP, as far as they don't rest on the height of the stack. Compilers
-- lower SP by SUB, by ADD of a negative number, by DEC and by LEA, and take a frame's address by LEA or from BP.
use Rattle.std.specs.Prelude.{ℕ, ◌==◌, Bool, false, not, ◌&&◌, ◌||◌, Option, Some, None}
use Rattle.dcc_machine.specs.declared.image.Image.{Image}
use Rattle.dcc_prog.specs.declared.procedure.Layout.{Layout}
use Rattle.dcc_machine.specs.declared.instr.Op.{Op}
use Rattle.dcc_machine.specs.declared.instr.Instr.{Instr}
use Rattle.dcc_machine.specs.SpAndBp.{is_push_bp, is_mov_bp_sp, is_enter, names_sp_or_bp, uses_bp_address, is_sp_move}
use Rattle.dcc_machine.specs.SpAndBp.{leaves_frame, copies_bp}
use Rattle.dcc_machine.specs.Successors.{next_of}
use Rattle.dcc_prog.specs.Trail.{instruction_in}

-- Framed procedures.

-- the instruction that was found is `mov bp,sp`
abbrev pub stands_mov_bp_sp : Option Instr → Bool
stands_mov_bp_sp None = false
stands_mov_bp_sp (Some instr) = is_mov_bp_sp instr.op

-- the offset after the first instruction
abbrev pub second_of : ℕ → Option Instr → ℕ
second_of entry None = entry
second_of entry (Some instr) = next_of entry instr

-- the instruction that was found is `push bp`
abbrev pub stands_push_bp : Option Instr → Bool
stands_push_bp None = false
stands_push_bp (Some instr) = is_push_bp instr.op

-- the instruction that was found is ENTER
abbrev pub stands_enter : Option Instr → Bool
stands_enter None = false
stands_enter (Some instr) = is_enter instr.op

-- the procedure's first instructions are `push bp` and `mov bp,sp`
abbrev pub begins_by_push : Image → Layout → ℕ → Bool
begins_by_push image layout entry =
    stands_push_bp (instruction_in image layout entry)
    && stands_mov_bp_sp (instruction_in image layout (second_of entry (instruction_in image layout entry)))

-- the procedure is framed: its first instructions are `push bp` and `mov bp,sp`, or its first instruction is ENTER
abbrev pub is_framed : Image → Layout → ℕ → Bool
is_framed image layout entry =
    begins_by_push image layout entry || stands_enter (instruction_in image layout entry)

-- Uses of SP and BP.

-- the operation, at an offset, is among the first instructions that make the procedure framed
abbrev pub makes_frame : Image → Layout → ℕ → ℕ → Op → Bool
makes_frame image layout entry at op =
    (begins_by_push image layout entry
    && ((is_push_bp op && at == entry)
    || (is_mov_bp_sp op && at == second_of entry (instruction_in image layout entry))))
    || (is_enter op && at == entry)

-- at some height of the stack the operation, at an offset of the procedure, uses SP and BP in a form that is allowed
abbrev pub is_frame_form : Image → Layout → ℕ → ℕ → Op → Bool
is_frame_form image layout entry at op =
    is_sp_move op
    || (not (names_sp_or_bp op) && not (uses_bp_address op))
    || (is_framed image layout entry
    && (leaves_frame op
    || copies_bp op
    || makes_frame image layout entry at op
    || (not (names_sp_or_bp op) && uses_bp_address op)))
