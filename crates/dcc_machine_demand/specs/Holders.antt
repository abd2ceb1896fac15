-- What values stand in: halves of registers, flags, and bytes of the cells of a frame. All other bytes are memory.
use Rattle.std.specs.Prelude.{ℕ, ℤ, pos, ◌+ℤ◌, Bool, true, false, not, ◌&&◌, List, [], ◌∷◌, Option, Some, None}
use Rattle.std.specs.Prelude.{if◌then◌else◌}
use Rattle.std.specs.List.{list_any}
use Rattle.std.specs.Ordering.{int_eq}
use Rattle.dcc_num.specs.declared.Width.{Width}
use Rattle.dcc_num.specs.declared.Width.TheVariants.{Byte as byte_width, Word as word_width}
use Rattle.dcc_num.specs.declared.Reg.{Reg}
use Rattle.dcc_num.specs.declared.Reg.TheVariants.{Ax, Cx, Dx, Bx, Si, Di}
use Rattle.dcc_num.specs.declared.Half.TheVariants.{Low, High}
use Rattle.dcc_num.specs.declared.FlagName.TheVariants.{Cf, Zf, Sf, Of}
use Rattle.dcc_machine.specs.declared.instr.Ea.{Ea}
use Rattle.dcc_machine.specs.declared.instr.Operand.{Operand}
use Rattle.dcc_machine.specs.declared.instr.Operand.TheVariants.{Word, Byte, Seg, Mem, Const}
use Rattle.dcc_machine.specs.declared.instr.Op.{Op}
use Rattle.dcc_prog.specs.declared.procedure.Node.{Node}
use Rattle.dcc_machine.specs.Access.{is_direct}
use Rattle.dcc_prog.specs.Frame.{Span, memory_operand, offset_in_frame}
use Rattle.dcc_prog.specs.Analysed.{bytes_of}
use Rattle.dcc_machine.specs.Machine.{is_general}
use Rattle.dcc_machine.specs.Writes.{is_same_register, is_same_half}
use Rattle.dcc_machine.specs.Wanted.{Location, half_of, flag_of, is_flag, is_in_address_of}
use Rattle.dcc_stack.specs.Slots.{is_within, exposes_of, direct_bytes, overlaps}
use Rattle.dcc_machine_demand.specs.Bodies.{Body, nodes_of}

-- a half of a register or a flag, or the byte of a cell at an offset in the frame
pub data Holder : Type 0 where
  held : Location → Holder
  in_frame : ℤ → Holder

-- the halves and flags that pass between procedures, in their order
abbrev pub passed : List Location
passed =
    half_of Ax Low ∷ half_of Ax High ∷ half_of Cx Low ∷ half_of Cx High ∷ half_of Dx Low ∷ half_of Dx High
    ∷ half_of Bx Low ∷ half_of Bx High ∷ half_of Si Low ∷ half_of Si High ∷ half_of Di Low ∷ half_of Di High
    ∷ flag_of Cf ∷ flag_of Zf ∷ flag_of Sf ∷ flag_of Of ∷ []

-- the place passes between procedures, as all halves and flags do but those of SP and BP; bytes of frames don't
abbrev pub passes : Holder → Bool
passes (held (half_of r half)) = is_general r
passes (held (flag_of flag)) = true
passes (in_frame k) = false

abbrev pub is_same_location : Location → Location → Bool
is_same_location (half_of r half) (half_of q other) = is_same_register r q && is_same_half half other
is_same_location (flag_of flag) (flag_of other) = is_flag flag (flag_of other)
is_same_location location other = false

abbrev pub is_same_holder : Holder → Holder → Bool
is_same_holder (held location) (held other) = is_same_location location other
is_same_holder (in_frame k) (in_frame j) = int_eq k j
is_same_holder place other = false

-- Cells.

abbrev pub is_in_cell : Body → ℤ → Bool
is_in_cell body k = list_any (λ cell. is_within k (bytes_of cell)) body.frame.cells.items

-- the place is one of the procedure's: it passes, or is a byte of one of the procedure's cells
abbrev pub is_holder : Body → Holder → Bool
is_holder body (held location) = passes (held location)
is_holder body (in_frame k) = is_in_cell body k

-- the byte belongs to a cell with a byte whose address may be computed: it may be read at any time
abbrev pub is_exposed_holder : Body → Holder → Bool
is_exposed_holder body (held location) = false
is_exposed_holder body (in_frame k) =
    list_any (λ cell. is_within k (bytes_of cell) && exposes_of body.frame (bytes_of cell)) body.frame.cells.items

-- Operands.

-- what a byte of an operand stands in: a place, memory, or none of these, as a constant's and those of SP and BP
pub data Spot : Type 0 where
  placed : Holder → Spot
  in_memory : Spot
  nowhere : Spot

abbrev pub is_at : Spot → Holder → Bool
is_at (placed place) other = is_same_holder other place
is_at spot other = false

abbrev pub is_memory : Spot → Bool
is_memory in_memory = true
is_memory spot = false

abbrev pub is_placed : Spot → Bool
is_placed (placed place) = true
is_placed spot = false

-- what a byte of the frame stands in: the place of a cell's byte, or memory where no cell has it
abbrev pub frame_spot : Body → ℤ → Spot
frame_spot body k = if is_in_cell body k then placed (in_frame k) else in_memory

-- the list of one thing for each byte of a width
abbrev pub for_bytes : {A : Type 0} → Width → A → A → List A
for_bytes byte_width low high = low ∷ []
for_bytes word_width low high = low ∷ high ∷ []

-- the address is one in the procedure's frame: BP plus a displacement, where the procedure is framed
abbrev pub is_of_frame : Body → Ea → Bool
is_of_frame body ea = body.frame.framed && is_direct ea

abbrev pub memory_spots : Body → Width → Ea → List Spot
memory_spots body width ea =
    if is_of_frame body ea then
    for_bytes width (frame_spot body (offset_in_frame ea)) (frame_spot body (offset_in_frame ea +ℤ pos 1))
    else for_bytes width in_memory in_memory

abbrev pub register_spots : Reg → List Spot
register_spots r =
    if is_general r then placed (held (half_of r Low)) ∷ placed (held (half_of r High)) ∷ [] else nowhere ∷ nowhere ∷ []

-- the bytes of an operand, the low one first
abbrev pub spots_of : Body → Operand → List Spot
spots_of body (Word r) = register_spots r
spots_of body (Byte r half) = placed (held (half_of r half)) ∷ []
spots_of body (Seg number) = nowhere ∷ nowhere ∷ []
spots_of body (Mem width ea) = memory_spots body width ea
spots_of body (Const width constant) = for_bytes width nowhere nowhere

-- the place takes part in the operand's address
abbrev pub is_of_address : Operand → Holder → Bool
is_of_address a (held location) = is_in_address_of location a
is_of_address a (in_frame k) = false

-- the bytes of the memory operand of an operation
abbrev pub spots_of_memory : Body → Option (Width × Ea) → List Spot
spots_of_memory body None = []
spots_of_memory body (Some (width, ea)) = memory_spots body width ea

-- the byte of the frame belongs to the operation's operand in memory
abbrev pub is_accessed_by : Body → Op → ℤ → Bool
is_accessed_by body op k = list_any (λ spot. is_at spot (in_frame k)) (spots_of_memory body (memory_operand op))

-- the operation's operand in memory stands in a cell
abbrev pub is_in_cells : Body → Op → Bool
is_in_cells body op = list_any is_placed (spots_of_memory body (memory_operand op))

-- Words of the stack.

-- a direct access of the procedure touches a byte of the span
abbrev pub is_accessed : Body → Span → Bool
is_accessed body span =
    body.frame.framed
    && list_any (λ (found : ℕ × Node). overlaps span (direct_bytes (memory_operand found.1.instr.op))) (nodes_of body)

-- the byte belongs to a cell that pushes, pops and calls alone reach: no operand and no computed address does
abbrev pub is_private_byte : Body → ℤ → Bool
is_private_byte body k =
    list_any (λ cell.
    is_within k (bytes_of cell)
    && (not (is_accessed body (bytes_of cell)) && not (exposes_of body.frame (bytes_of cell))))
    body.frame.cells.items
