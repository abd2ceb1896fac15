-- What the instructions of a program access at fixed offsets of the data segment: pieces of one or two bytes. A piece
-- is a byte or a word off the stack (`OneByte`, `OneWord`), or a single byte of a word of which the other byte lies in
-- the stack, or that wraps (`Broken`).
use Rattle.std.specs.Prelude.{ℕ, ◌+◌, ◌%◌, ◌==◌, nat_le, nat_lt, Bool, true, false, ◌&&◌, ◌||◌, not, if◌then◌else◌}
use Rattle.std.specs.Prelude.{List, [], ◌∷◌, ◌++◌, is_none}
use Rattle.std.specs.List.{flat_map}
use Rattle.std.specs.Option.{option_to_list}
use Rattle.dcc_num.specs.declared.Width.{Width}
use Rattle.dcc_num.specs.declared.Width.TheVariants.{Byte as byte_width, Word as word_width}
use Rattle.dcc_machine.specs.declared.instr.Ea.{Ea}
use Rattle.dcc_machine.specs.SpAndBp.{address_uses_bp}
use Rattle.dcc_prog.specs.declared.procedure.Node.{Node}
use Rattle.dcc_prog.specs.declared.procedure.Proc.{Proc}
use Rattle.dcc_prog.specs.Frame.{memory_operand}
use Rattle.dcc_globals.specs.declared.pieces.Piece.{Piece}
use Rattle.dcc_globals.specs.declared.pieces.Piece.TheVariants.{OneByte, OneWord, Broken}

-- the data segment of a program: the bytes of its image from offset 0 on, the stack from `lo` to below `hi`, and the
-- memory operands of all instructions
pub record Data : Type 0 where
  pub bytes : List ℕ
  pub lo : ℕ
  pub hi : ℕ
  pub operands : List (Width × Ea)

-- the memory operands of a procedure's instructions; `operands_of`: of those of all procedures
abbrev pub operands_in : List (ℕ × Node) → List (Width × Ea)
operands_in nodes = flat_map (λ found. option_to_list (memory_operand found.1.instr.op)) nodes

abbrev pub operands_of : List Proc → List (Width × Ea)
operands_of procs = flat_map (λ proc. operands_in proc.nodes.entries) procs

-- the address is a displacement alone, so that the operand stands at a fixed offset
abbrev pub is_fixed : Ea → Bool
is_fixed ea = is_none ea.base && is_none ea.index

-- the offset of a piece's first byte
abbrev pub first_of : Piece → ℕ
first_of (OneByte at) = at
first_of (OneWord at) = at
first_of (Broken at) = at

-- how many bytes a piece has
abbrev pub size_of : Piece → ℕ
size_of (OneByte at) = 1
size_of (OneWord at) = 2
size_of (Broken at) = 1

abbrev pub is_broken : Piece → Bool
is_broken (OneByte at) = false
is_broken (OneWord at) = false
is_broken (Broken at) = true

-- the offset lies in the stack
abbrev pub is_in_stack : ℕ → ℕ → ℕ → Bool
is_in_stack lo hi at = nat_le lo at && nat_lt at hi

-- a byte off the stack, alone
abbrev pub broken_at : ℕ → ℕ → ℕ → List Piece
broken_at lo hi at = if is_in_stack lo hi at then [] else Broken at ∷ []

-- a word lies off the stack and doesn't wrap
abbrev pub is_whole : ℕ → ℕ → ℕ → Bool
is_whole lo hi at = nat_lt (at + 1) 65536 && (not (is_in_stack lo hi at) && not (is_in_stack lo hi (at + 1)))

-- the pieces of an access at an offset
abbrev pub pieces_at : ℕ → ℕ → Width → ℕ → List Piece
pieces_at lo hi byte_width at = if is_in_stack lo hi at then [] else OneByte at ∷ []
pieces_at lo hi word_width at =
    if is_whole lo hi at then OneWord at ∷ [] else broken_at lo hi at ++ broken_at lo hi ((at + 1) % 65536)

-- the pieces of a memory operand
abbrev pub pieces_of : ℕ → ℕ → Width × Ea → List Piece
pieces_of lo hi operand = if is_fixed operand.1 then pieces_at lo hi operand.0 operand.1.disp else []

unfoldable pub pieces : Data → List Piece
pieces d = flat_map (pieces_of d.lo d.hi) d.operands

-- the piece has the byte at an offset
abbrev pub has_byte : ℕ → Piece → Bool
has_byte at (OneByte first) = first == at
has_byte at (OneWord first) = (first == at) || (first + 1 == at)
has_byte at (Broken first) = first == at

-- the piece has the bytes on both sides of the border before an offset
abbrev pub crosses : ℕ → Piece → Bool
crosses at (OneByte first) = false
crosses at (OneWord first) = first + 1 == at
crosses at (Broken first) = false

-- a piece that begins in the bytes from an offset on is broken, or shorter than they are
abbrev pub spoils : ℕ → ℕ → Piece → Bool
spoils at size piece =
    (nat_le at (first_of piece) && nat_lt (first_of piece) (at + size)) && (is_broken piece || nat_lt (size_of piece) size)

-- the memory operand adds an index, or a base other than BP, to this displacement
abbrev pub is_displaced_by : ℕ → Width × Ea → Bool
is_displaced_by at operand =
    (not (is_fixed operand.1) && not (address_uses_bp operand.1)) && (operand.1.disp == at)
