-- Where a memory operand of the newest procedure's instruction stands: a direct access reaches bytes of its frame, in
-- halves of cells or in memory; any other operand stands in memory.
use Rattle.std.specs.Prelude.{◌≡◌, ◌≤◌, ◌<◌, ℕ, ◌+◌, ◌*◌, ◌/◌, ◌%◌, ◌==◌, ◌||◌, if◌then◌else◌, ℤ, pos, ◌+ℤ◌, ◌-ℤ◌, Bool}
use Rattle.std.specs.Prelude.{true, false, List, map, Option, Some, None}
use Rattle.std.specs.List.{range_with_len}
use Rattle.dcc_num.specs.declared.Width.{Width}
use Rattle.dcc_num.specs.declared.Width.TheVariants.{Byte as byte_width, Word as word_width}
use Rattle.dcc_num.specs.declared.Flags.{Flags}
use Rattle.dcc_num.specs.declared.Reg.{Reg}
use Rattle.dcc_num.specs.declared.Half.{Half as HalfName}
use Rattle.dcc_num.specs.declared.Half.TheVariants.{Low, High}
use Rattle.dcc_num.specs.Numbers.{bits_of, wrapped_of}
use Rattle.dcc_machine.specs.declared.instr.Ea.{Ea}
use Rattle.dcc_machine.specs.Machine.{State as Machine, is_bp, offset_of, is_general}
use Rattle.dcc_machine.specs.Operations.{with_flags}
use Rattle.dcc_machine.specs.Access.{bytes_in, is_direct}
use Rattle.dcc_prog.specs.Frame.{offset_in_frame, IsPlaced}
use Rattle.dcc_prog.specs.Clean.{end_of}
use Rattle.dcc_stack.specs.Standing.{Activation}
use Rattle.dcc_stack.specs.Apart.{IsApart}
use Rattle.dcc_ir.specs.declared.syntax.Loc.{Loc}
use Rattle.dcc_ir.specs.declared.syntax.Loc.TheVariants.{Cell as CellHalf}
use Rattle.dcc_ir.specs.Tree.{Expr, Address}
use Rattle.dcc_ir.specs.Run.{State, value_in, setting, storing}
use Rattle.dcc_ops.specs.Expressions.{word_of}
use Rattle.dcc_ops.specs.OperandPlace.{OperandPlace, byte, word, memory}
use Rattle.dcc_ops.specs.Coupling.{Relation}
use Rattle.dcc_simulation.specs.Coupled.{Setting, half_in}

-- the byte at a distance from the base less 4 of a procedure's frame is in a location, and not in memory
pub record IsInLocation (e : Setting) (entry : ℕ) (k : ℤ) (location : Loc) : Type 0 where
  pub apart : ¬ IsPlaced e.image e.program.layout entry k
  pub is : half_in 0 (e.cells entry) k ≡ Some location

-- the place of a byte or a word of a frame, from a distance from its base less 4 on
pub data IsFramePlace (e : Setting) (entry : ℕ) (k : ℤ) : Width → OperandPlace → Type 0 where
  in_half :
      {number : ℕ} {half : HalfName}
      → IsInLocation e entry k (CellHalf number half)
      → IsFramePlace e entry k byte_width (byte (CellHalf number half))
  in_cell :
      {number : ℕ}
      → IsInLocation e entry k (CellHalf number Low)
      → IsInLocation e entry (k +ℤ pos 1) (CellHalf number High)
      → IsFramePlace e entry k word_width (word (CellHalf number Low) (CellHalf number High))
  -- in memory: the base's address is that of offset 4
  in_memory :
      {w : Width}
      → ((index : ℕ) → index < bytes_in w → IsPlaced e.image e.program.layout entry (k +ℤ pos index))
      → IsFramePlace e entry k w (memory w (Address (wrapped_of word_width (k -ℤ pos 4))))

-- the expression is the operand's offset wherever the relation holds of the machine's state, whatever its flags are
abbrev pub IsOffset : Relation → Machine → Ea → Expr → Type 0
IsOffset R s ea at = (flags : Flags) (t : State) → R (with_flags flags s) t → value_in t at ≡ offset_of s ea

-- an address is summed from general registers, where its base isn't BP
abbrev pub is_plain : Option Reg → Bool
is_plain None = true
is_plain (Some r) = is_general r

pub record IsPlainAddress (ea : Ea) : Type 0 where
  pub base : (is_bp ea.base || is_plain ea.base) ≡ true
  pub index : is_plain ea.index ≡ true

-- what a register adds to the sum in the inner run
abbrev pub part_value : State → Option Reg → ℕ
part_value t None = 0
part_value t (Some r) = value_in t (word_of r)

-- the address of the byte at a distance from the base less 4 of the running frame
abbrev pub frame_address : ℤ → Expr
frame_address k = Address (wrapped_of word_width (k -ℤ pos 4))

-- the value of an address in the inner run: BP with the displacement is the address of a byte of the frame
abbrev pub address_value : State → Ea → ℕ
address_value t ea =
    ((if is_bp ea.base then value_in t (frame_address (offset_in_frame ea)) else part_value t ea.base + ea.disp)
    + part_value t ea.index)
    % 65536

-- the place of a memory operand of a width, in a procedure and a state of the machine
pub data IsOperandPlace (e : Setting) (entry : ℕ) (R : Relation) (s : Machine) (ea : Ea) : Width → OperandPlace
    → Type 0 where
  direct :
      {w : Width} {place : OperandPlace}
      → is_direct ea ≡ true
      → IsFramePlace e entry (offset_in_frame ea) w place
      → IsOperandPlace e entry R s ea w place
  elsewhere :
      {w : Width} {at : Expr}
      → is_direct ea ≡ false
      → IsOffset R s ea at
      → IsOperandPlace e entry R s ea w (memory w at)

-- What lies at a place.

-- the place takes a number
abbrev pub taken : OperandPlace → ℕ → State → State
taken (byte location) v t = setting location v t
taken (word low high) v t = setting high (v / 256) (setting low (v % 256) t)
taken (memory w at) v t = storing (bits_of w) (value_in t at) v t
taken place v t = t

-- a number by its bytes, low byte first
abbrev pub number_of : Width → (ℕ → ℕ) → ℕ
number_of byte_width bytes = bytes 0
number_of word_width bytes = bytes 0 + 256 * bytes 1

-- the bytes of a number, by their offsets, where the offset of the first one is told
abbrev pub bytes_from : ℕ → ℕ → ℕ → ℕ
bytes_from first v = λ offset. if offset == first then v % 256 else v / 256

-- the offsets of a number's bytes, by their indices
abbrev pub offsets_of : Width → (ℕ → ℕ) → List ℕ
offsets_of w offset = map offset (range_with_len 0 (bytes_in w))

-- A byte or a word of the newest frame, with SP at an offset: where it lies in the data segment, and at how many bytes
-- from the base less 4. It is no part of the return address or the saved BP.
pub record IsOfFrame (e : Setting) (a : Activation) (top : ℕ) (k : ℤ) (w : Width) (first : ℕ) : Type 0 where
  pub place : (pos (first + 4) -ℤ pos a.frame.base) ≡ k
  pub low : top ≤ first
  pub within : first + bytes_in w ≤ end_of e.program a.frame
  pub apart : (index : ℕ) → index < bytes_in w → IsApart e.image e.program.layout (first + index) a
