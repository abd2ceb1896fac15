-- The frames of procedures, byte by byte: which bytes belong together, and whose address may be computed. Offsets
-- count from the frame's base less 4, which is BP's value in a framed procedure: argument j is the word at 4 + 2 * j,
-- the return address stands at 2, and at height h SP stands at 2 - h.
use Rattle.std.specs.Prelude.{◌≡◌, ◌≢◌, ◌≤◌, ◌<◌, ◌⊎◌, ℕ, ◌+◌, ◌*◌, ◌/◌, ℤ, pos, ◌+ℤ◌, ◌-ℤ◌, neg_ℤ, ◌<ℤ◌, ◌≤ℤ◌, true}
use Rattle.std.specs.Prelude.{false, if◌then◌else◌, Option, Some, None, is_some}
use Rattle.dcc_num.specs.declared.Width.{Width}
use Rattle.dcc_num.specs.declared.Width.TheVariants.{Word as word_width}
use Rattle.dcc_num.specs.declared.Reg.TheVariants.{Sp, Bp}
use Rattle.dcc_num.specs.Numbers.{signed_of}
use Rattle.dcc_machine.specs.declared.image.Image.{Image}
use Rattle.dcc_prog.specs.declared.procedure.Layout.{Layout}
use Rattle.dcc_prog.specs.declared.refusal.FrameFault.{FrameFault}
use Rattle.dcc_prog.specs.declared.refusal.FrameFault.TheVariants.{AccessOutside, AddressOutside, NoAddress, LongExtent}
use Rattle.dcc_machine.specs.declared.instr.Ea.{Ea}
use Rattle.dcc_machine.specs.declared.instr.Operand.{Operand}
use Rattle.dcc_machine.specs.declared.instr.Operand.TheVariants.{Word, Mem}
use Rattle.dcc_machine.specs.declared.instr.Op.{Op}
use Rattle.dcc_machine.specs.declared.instr.Op.TheVariants.{Alu, Unary, Shift, Mov, Xchg, Lea, Imul3, Push, Pop, Call}
use Rattle.dcc_machine.specs.Access.{bytes_in, is_direct}
use Rattle.dcc_prog.specs.Trail.{StandsAt, IsNode}
use Rattle.dcc_machine.specs.SpAndBp.{copies_bp, address_uses_bp}
use Rattle.dcc_prog.specs.FrameForm.{is_framed}
use Rattle.dcc_prog.specs.Height.{ReachesRet, HasHeight}

-- some bytes of a frame: those from the first offset up to the end, which isn't one of them
pub record Span : Type 0 where
  pub first : ℤ
  pub end : ℤ

-- `size` bytes of a frame from an offset on
abbrev pub span_of : ℤ → ℕ → Span
span_of first size = record { first = first; end = first +ℤ pos size }

-- the word at the top of the stack at a height, and the word that a PUSH puts there
abbrev pub top_of : ℤ → Span
top_of height = span_of (pos 2 -ℤ height) 2

abbrev pub below_top : ℤ → Span
below_top height = span_of (neg_ℤ height) 2

-- the word of an argument
abbrev pub argument_word : ℕ → Span
argument_word number = span_of (pos (4 + 2 * number)) 2

-- Memory operands.

abbrev pub memory_of : Operand → Option (Width × Ea)
memory_of (Mem width ea) = Some (width, ea)
memory_of operand = None

-- the memory operand among two operands, of which one at most lies in memory
abbrev pub memory_of_two : Operand → Operand → Option (Width × Ea)
memory_of_two a b = if is_some (memory_of a) then memory_of a else memory_of b

-- the memory operand of an operation; LEA has none
abbrev pub memory_operand : Op → Option (Width × Ea)
memory_operand (Alu operation a b) = memory_of_two a b
memory_operand (Unary operation a) = memory_of a
memory_operand (Shift operation a count) = memory_of a
memory_operand (Mov to from) = memory_of_two to from
memory_operand (Xchg a b) = memory_of_two a b
memory_operand (Imul3 r a constant) = memory_of a
memory_operand (Push a) = memory_of a
memory_operand (Pop a) = memory_of a
memory_operand op = None

-- the displacement of an address, taken as a signed word
abbrev pub offset_in_frame : Ea → ℤ
offset_in_frame ea = signed_of word_width ea.disp

-- What an instruction uses of its procedure's frame.

-- a direct access of a framed procedure: a memory operand at BP plus a displacement
pub data IsDirectAccess (image : Image) (layout : Layout) (entry at : ℕ) : Span → Type 0 where
  direct :
      {op : Op} {width : Width} {ea : Ea}
      → is_framed image layout entry ≡ true
      → StandsAt image layout at op
      → memory_operand op ≡ Some (width, ea)
      → is_direct ea ≡ true
      → IsDirectAccess image layout entry at (span_of (offset_in_frame ea) (bytes_in width))

-- From this byte on an instruction lets addresses be computed: LEA of another register than SP from an address with
-- BP, an operand with BP and an index, or `mov r,bp`, which exposes all bytes between SP and BP.
pub data StartsExposure (image : Image) (layout : Layout) (entry at : ℕ) : ℤ → Type 0 where
  by_lea :
      {r : _} {ea : Ea}
      → StandsAt image layout at (Lea r ea)
      → r ≢ Sp
      → address_uses_bp ea ≡ true
      → StartsExposure image layout entry at (offset_in_frame ea)
  by_index :
      {op : Op} {width : Width} {ea : Ea}
      → StandsAt image layout at op
      → memory_operand op ≡ Some (width, ea)
      → address_uses_bp ea ≡ true
      → is_direct ea ≡ false
      → StartsExposure image layout entry at (offset_in_frame ea)
  by_copy :
      {op : Op} {height : ℤ}
      → StandsAt image layout at op
      → copies_bp op ≡ true
      → HasHeight image layout entry at height
      → StartsExposure image layout entry at (pos 2 -ℤ height)

-- `push bp` and `pop bp` of a framed procedure save BP and give it back
abbrev pub is_saved_bp : Image → Layout → ℕ → Operand → Type 0
is_saved_bp image layout entry a = (is_framed image layout entry ≡ true) × (a ≡ Word Bp)

-- the word that a PUSH or POP moves, but for the saved BP
pub data IsMovedWord (image : Image) (layout : Layout) (entry at : ℕ) : Span → Type 0 where
  pushed :
      {a : Operand} {height : ℤ}
      → StandsAt image layout at (Push a)
      → ¬ is_saved_bp image layout entry a
      → HasHeight image layout entry at height
      → IsMovedWord image layout entry at (below_top height)
  popped :
      {a : Operand} {height : ℤ}
      → StandsAt image layout at (Pop a)
      → ¬ is_saved_bp image layout entry a
      → HasHeight image layout entry at height
      → IsMovedWord image layout entry at (top_of height)

-- Arguments.

-- `count` argument words have what every RET removes, and every byte from 4 on that a direct access or a start of
-- exposure touches
pub record HasRoom (image : Image) (layout : Layout) (entry count : ℕ) : Type 0 where
  pub removed : (bytes : ℕ) → ReachesRet image layout entry bytes → bytes / 2 ≤ count
  pub accessed :
      (at : ℕ) (span : Span) → IsNode image layout entry at → IsDirectAccess image layout entry at span
      → span.end ≤ℤ pos (4 + 2 * count)
  pub exposed :
      (at : ℕ) (start : ℤ) → IsNode image layout entry at → StartsExposure image layout entry at start
      → start <ℤ pos (4 + 2 * count)

-- the number of a procedure's argument words: the least that has room; the entry procedure has none
pub data HasArguments (image : Image) (layout : Layout) (entry : ℕ) : ℕ → Type 0 where
  of_start : entry ≡ layout.start_ip → HasArguments image layout entry 0
  of_procedure :
      {count : ℕ}
      → entry ≢ layout.start_ip
      → HasRoom image layout entry count
      → ((other : ℕ) → HasRoom image layout entry other → count ≤ other)
      → HasArguments image layout entry count

-- how many bytes of its own a frame has at a height: the saved BP isn't counted
abbrev pub own_bytes : Image → Layout → ℕ → ℤ → ℤ
own_bytes image layout entry height = if is_framed image layout entry then height -ℤ pos 2 else height

-- the word of the frame that is an argument of a CALL, where the frame has it
pub data IsPassedWord (image : Image) (layout : Layout) (entry at : ℕ) : Span → Type 0 where
  passed :
      {target count number : ℕ} {height : ℤ}
      → StandsAt image layout at (Call target)
      → HasHeight image layout entry at height
      → HasArguments image layout target count
      → number < count
      → pos (2 * number + 2) ≤ℤ own_bytes image layout entry height
      → IsPassedWord image layout entry at (span_of (pos (2 + 2 * number) -ℤ height) 2)

-- Extents and cells.

-- bytes that the instruction at a node uses together
pub data IsUsed (image : Image) (layout : Layout) (entry at : ℕ) (span : Span) : Type 0 where
  moved : IsMovedWord image layout entry at span → IsUsed image layout entry at span
  passed : IsPassedWord image layout entry at span → IsUsed image layout entry at span
  accessed : IsDirectAccess image layout entry at span → IsUsed image layout entry at span

-- bytes that belong together: those that an instruction uses together, and the word of each argument
pub data IsPiece (image : Image) (layout : Layout) (entry : ℕ) : Span → Type 0 where
  used :
      {at : ℕ} {span : Span}
      → IsNode image layout entry at
      → IsUsed image layout entry at span
      → IsPiece image layout entry span
  argument :
      {count number : ℕ}
      → HasArguments image layout entry count
      → number < count
      → IsPiece image layout entry (argument_word number)

-- a piece has bytes on both sides of the offset
pub record IsCrossed (image : Image) (layout : Layout) (entry : ℕ) (offset : ℤ) : Type 0 where
  pub span : Span
  pub piece : IsPiece image layout entry span
  pub before : span.first <ℤ offset
  pub after : offset <ℤ span.end

-- an extent: pieces that overlap, joined; a piece begins it, each offset within it is crossed, and none of its ends is
pub record IsExtentOfPieces (image : Image) (layout : Layout) (entry : ℕ) (extent : Span) : Type 0 where
  pub span : Span
  pub piece : IsPiece image layout entry span
  pub begins : span.first ≡ extent.first
  pub ends : extent.first <ℤ extent.end
  pub joined : (offset : ℤ) → extent.first <ℤ offset → offset <ℤ extent.end → IsCrossed image layout entry offset
  pub apart_before : ¬ IsCrossed image layout entry extent.first
  pub apart_after : ¬ IsCrossed image layout entry extent.end

-- an extent of at most two bytes is a cell
pub record IsCell (image : Image) (layout : Layout) (entry : ℕ) (cell : Span) : Type 0 where
  pub extent : IsExtentOfPieces image layout entry cell
  pub small : cell.end ≤ℤ (cell.first +ℤ pos 2)

-- an extent of more than two bytes, which is no cell
pub record IsLongExtent (image : Image) (layout : Layout) (entry : ℕ) (extent : Span) : Type 0 where
  pub is_extent : IsExtentOfPieces image layout entry extent
  pub long : (extent.first +ℤ pos 2) <ℤ extent.end

-- Exposure.

-- the address of this byte and of those after it may be computed: an instruction exposes them from here on, or an
-- extent of more than two bytes begins here
pub data IsExposureStart (image : Image) (layout : Layout) (entry : ℕ) : ℤ → Type 0 where
  by_instruction :
      {at : ℕ} {start : ℤ}
      → IsNode image layout entry at
      → StartsExposure image layout entry at start
      → IsExposureStart image layout entry start
  by_extent : {extent : Span} → IsLongExtent image layout entry extent → IsExposureStart image layout entry extent.first

-- `count` bytes directly below BP are exposed: from the least start of exposure below BP on
pub data HasExposedLocal (image : Image) (layout : Layout) (entry : ℕ) : ℕ → Type 0 where
  no_local :
      ((start : ℤ) → IsExposureStart image layout entry start → pos 0 ≤ℤ start)
      → HasExposedLocal image layout entry 0
  local :
      {count : ℕ}
      → 0 < count
      → IsExposureStart image layout entry (neg_ℤ (pos count))
      → ((start : ℤ) → IsExposureStart image layout entry start → neg_ℤ (pos count) ≤ℤ start)
      → HasExposedLocal image layout entry count

-- the arguments' bytes are exposed from the least start of 4 or more on
pub data HasExposedArguments (image : Image) (layout : Layout) (entry : ℕ) : Option ℕ → Type 0 where
  no_argument :
      ((start : ℤ) → IsExposureStart image layout entry start → start <ℤ pos 4)
      → HasExposedArguments image layout entry None
  from_argument :
      {least : ℕ}
      → 4 ≤ least
      → IsExposureStart image layout entry (pos least)
      → ((start : ℤ) → IsExposureStart image layout entry start → pos 4 ≤ℤ start → pos least ≤ℤ start)
      → HasExposedArguments image layout entry (Some least)

-- a byte of the frame is exposed: below BP, or in the arguments from the least start on
pub data IsExposed (image : Image) (layout : Layout) (entry : ℕ) (offset : ℤ) : Type 0 where
  below_bp :
      {count : ℕ}
      → HasExposedLocal image layout entry count
      → neg_ℤ (pos count) ≤ℤ offset
      → offset <ℤ pos 0
      → IsExposed image layout entry offset
  in_arguments :
      {least count : ℕ}
      → HasExposedArguments image layout entry (Some least)
      → HasArguments image layout entry count
      → pos least ≤ℤ offset
      → offset <ℤ pos (4 + 2 * count)
      → IsExposed image layout entry offset

-- bytes that stand for one value: a cell, or the word of an argument, also where it lies in a longer extent
pub data IsSlot (image : Image) (layout : Layout) (entry : ℕ) : Span → Type 0 where
  cell : {span : Span} → IsCell image layout entry span → IsSlot image layout entry span
  argument :
      {count number : ℕ}
      → HasArguments image layout entry count
      → number < count
      → IsSlot image layout entry (argument_word number)

-- a slot is exposed where a byte of it is; it is then wholly in memory, at its addresses
pub record IsExposedSlot (image : Image) (layout : Layout) (entry : ℕ) (slot : Span) : Type 0 where
  pub is_slot : IsSlot image layout entry slot
  pub offset : ℤ
  pub from : slot.first ≤ℤ offset
  pub to : offset <ℤ slot.end
  pub exposed : IsExposed image layout entry offset

-- the byte stands in memory, at its address: it is exposed, or in an exposed slot
pub data IsPlaced (image : Image) (layout : Layout) (entry : ℕ) (offset : ℤ) : Type 0 where
  by_itself : IsExposed image layout entry offset → IsPlaced image layout entry offset
  by_slot :
      {slot : Span}
      → IsExposedSlot image layout entry slot
      → slot.first ≤ℤ offset
      → offset <ℤ slot.end
      → IsPlaced image layout entry offset

-- Kind 7: bytes outside of the frame, and addresses that can't be told.

-- the bytes aren't wholly in the arguments, and at a height not wholly between SP and BP
pub record IsOutsideFrame (image : Image) (layout : Layout) (entry : ℕ) (height : ℤ) (span : Span) : Type 0 where
  pub count : ℕ
  pub arguments : HasArguments image layout entry count
  pub no_argument : ¬ ((pos 4 ≤ℤ span.first) × (span.end ≤ℤ pos (4 + 2 * count)))
  pub no_local : ¬ (((pos 2 -ℤ height) ≤ℤ span.first) × (span.end ≤ℤ pos 0))

-- addresses of the frame can't be told in the data segment: the stack lies apart from it, or the procedure sets up no
-- BP
abbrev pub LacksAddresses : Image → Layout → ℕ → Type 0
LacksAddresses image layout entry = (layout.delta ≢ 0) ⊎ (is_framed image layout entry ≡ false)

-- the frame is accessed as no frame of variables can be, for one of four causes
pub data HasBadAccess (image : Image) (layout : Layout) (entry at : ℕ) : FrameFault → Type 0 where
  access_outside :
      {span : Span} {height : ℤ}
      → IsDirectAccess image layout entry at span
      → HasHeight image layout entry at height
      → IsOutsideFrame image layout entry height span
      → HasBadAccess image layout entry at AccessOutside
  start_outside :
      {start height : ℤ}
      → StartsExposure image layout entry at start
      → HasHeight image layout entry at height
      → IsOutsideFrame image layout entry height (span_of start 1)
      → HasBadAccess image layout entry at AddressOutside
  no_addresses :
      {start : ℤ}
      → LacksAddresses image layout entry
      → StartsExposure image layout entry at start
      → HasBadAccess image layout entry at NoAddress
  long_without_addresses :
      {span extent : Span}
      → LacksAddresses image layout entry
      → IsUsed image layout entry at span
      → IsLongExtent image layout entry extent
      → extent.first ≤ℤ span.first
      → span.end ≤ℤ extent.end
      → HasBadAccess image layout entry at LongExtent

-- Kind 8: a CALL with too few bytes of arguments.

-- a CALL finds fewer bytes of its own frame than the callee's arguments take: one of the arguments has no room in it
pub record IsShortCall (image : Image) (layout : Layout) (entry at : ℕ) : Type 0 where
  pub target : ℕ
  pub stands : StandsAt image layout at (Call target)
  pub count : ℕ
  pub arguments : HasArguments image layout target count
  pub number : ℕ
  pub is_argument : number < count
  pub height : ℤ
  pub has : HasHeight image layout entry at height
  pub short : own_bytes image layout entry height <ℤ pos (2 * number + 2)
