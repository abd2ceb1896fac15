-- Where a procedure keeps the bytes of its frame: those whose address may be computed in memory, all others in cells of
-- its own. Offsets count from the frame's base less 4.
use Rattle.std.specs.Prelude.{ℕ, suc, ◌==◌, ℤ, pos, ◌-ℤ◌, Bool, ◌&&◌, not, if◌then◌else◌, List, [], ◌∷◌, ◌++◌, length}
use Rattle.std.specs.Prelude.{find, filter, Option}
use Rattle.std.specs.List.{range_with_len, list_any}
use Rattle.std.specs.Ordering.{int_eq}
use Rattle.dcc_num.specs.declared.Width.{Width}
use Rattle.dcc_num.specs.declared.Width.TheVariants.{Byte as byte_width, Word as word_width}
use Rattle.dcc_num.specs.declared.Half.TheVariants.{Low, High}
use Rattle.dcc_num.specs.Numbers.{wrapped_of}
use Rattle.dcc_prog.specs.declared.procedure.Layout.{Layout}
use Rattle.dcc_prog.specs.declared.procedure.Node.{Node}
use Rattle.dcc_prog.specs.declared.procedure.Proc.{Proc}
use Rattle.dcc_prog.specs.declared.frame.Cell.{Cell}
use Rattle.dcc_prog.specs.declared.frame.Frame.{Frame}
use Rattle.dcc_prog.specs.Frame.{Span, memory_operand}
use Rattle.dcc_prog.specs.Analysed.{bytes_of}
use Rattle.dcc_stack.specs.Slots.{is_within, is_placed, direct_bytes, overlaps, gives_back}
use Rattle.dcc_ir.specs.declared.syntax.Loc.TheVariants.{Cell as cell_half}
use Rattle.dcc_ir.specs.Tree.{Address}
use Rattle.dcc_ops.specs.OperandPlace.{OperandPlace, constant, byte, word, memory}

-- a procedure with its frame; `delta` is how many bytes the stack segment begins above the data segment
pub record Procedure : Type 0 where
  pub proc : Proc
  pub frame : Frame
  pub delta : ℕ

-- the procedures that are found, with their frames
abbrev pub procedures_of : Layout → List Proc → List Frame → List Procedure
procedures_of layout (proc ∷ procs) (frame ∷ frames) =
    record { proc = proc; frame = frame; delta = layout.delta } ∷ procedures_of layout procs frames
procedures_of layout _ _ = []

-- the procedure with that entry
abbrev pub procedure_at : List Procedure → ℕ → Option Procedure
procedure_at procedures entry = find (λ (p : Procedure). p.proc.entry == entry) procedures

-- Cells.

-- a direct access of the procedure touches a byte of the span
abbrev pub is_accessed : Proc → Frame → Span → Bool
is_accessed proc frame span =
    frame.framed
    && list_any (λ (node : ℕ × Node). overlaps span (direct_bytes (memory_operand node.1.instr.op))) proc.nodes.entries

-- the cells that direct accesses have; `other_cells`: those that pushes, pops and calls alone use
abbrev pub accessed_cells : Proc → Frame → List Cell
accessed_cells proc frame = filter (λ cell. is_accessed proc frame (bytes_of cell)) frame.cells.items

abbrev pub other_cells : Proc → Frame → List Cell
other_cells proc frame = filter (λ cell. not (is_accessed proc frame (bytes_of cell))) frame.cells.items

-- the cells of a procedure that don't stand in memory, in the order of their numbers
abbrev pub cells_of : Procedure → List Cell
cells_of p = accessed_cells p.proc p.frame ++ other_cells p.proc p.frame

-- the number of the first cell that pushes, pops and calls alone use
abbrev pub pushed_of : Procedure → ℕ
pushed_of p = length (accessed_cells p.proc p.frame)

-- where a byte or a word of a cell stands: a word is the cell, and a byte one half of it, the low one where it is the
-- cell's first
abbrev pub within_cell : ℕ → Cell → Width → ℤ → OperandPlace
within_cell number cell byte_width k = byte (cell_half number (if int_eq k cell.first then Low else High))
within_cell number cell word_width k = word (cell_half number Low) (cell_half number High)

-- where a byte or a word stands in the cell that holds the byte at an offset, where cells are numbered from one number
-- on
abbrev pub cell_place : ℕ → List Cell → Width → ℤ → OperandPlace
cell_place number [] width k = constant width 0
cell_place number (cell ∷ cells) width k =
    if is_within k (bytes_of cell) then within_cell number cell width k else cell_place (suc number) cells width k

-- Bytes of the frame.

-- the distance of an offset from the frame's base, as a word
abbrev pub distance_of : ℤ → ℕ
distance_of k = wrapped_of word_width (k -ℤ pos 4)

-- where a byte or a word of the frame stands
abbrev pub frame_place : Procedure → Width → ℤ → OperandPlace
frame_place p width k =
    if is_placed p.frame k then memory width (Address (distance_of k)) else cell_place 0 (cells_of p) width k

-- Arguments.

-- the numbers of the arguments that the procedure gives back, since it may change them
abbrev pub given_back : Procedure → List ℕ
given_back p = filter (gives_back p.proc p.frame) (range_with_len 0 p.frame.args)
