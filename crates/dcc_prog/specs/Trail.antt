-- Procedures: which instructions are reached from an entry. A trail is a list of offsets in the code segment that a
-- run may pass one after another, and stands here with the newest first. Where it goes on rests on the instruction
-- at its end; for INT 21h also on the constant that was last moved to AH, and for a jump through a table on at most
-- five instructions before.
use Rattle.std.specs.Prelude.{◌≡◌, ℕ, ◌+◌, ◌*◌, ◌/◌, ◌%◌, ◌==◌, Bool, true, false, not, ◌&&◌, if◌then◌else◌, List, []}
use Rattle.std.specs.Prelude.{◌∷◌, take, drop, map, Contains, Option, Some, None, option_map}
use Rattle.std.specs.List.{range_with_len}
use Rattle.dcc_num.specs.declared.Reg.{Reg}
use Rattle.dcc_num.specs.declared.Reg.TheVariants.{Ax}
use Rattle.dcc_num.specs.declared.Half.TheVariants.{Low, High}
use Rattle.dcc_machine.specs.declared.image.Image.{Image}
use Rattle.dcc_prog.specs.declared.procedure.Layout.{Layout}
use Rattle.dcc_machine.specs.declared.instr.Alu.TheVariants.{Xor, Cmp}
use Rattle.dcc_machine.specs.declared.instr.Shift.TheVariants.{Shl}
use Rattle.dcc_machine.specs.declared.instr.Count.TheVariants.{One}
use Rattle.dcc_machine.specs.declared.instr.Cond.TheVariants.{A, Be}
use Rattle.dcc_machine.specs.declared.instr.Operand.TheVariants.{Word, Byte, Const}
use Rattle.dcc_machine.specs.declared.instr.Op.{Op}
use Rattle.dcc_machine.specs.declared.instr.Op.TheVariants.{Alu as AluOp, Shift as ShiftOp, Mov, Branch, Table, Call}
use Rattle.dcc_machine.specs.declared.instr.Instr.{Instr}
use Rattle.dcc_machine.specs.Successors.{next_of, op_successors}
use Rattle.dcc_machine.specs.Machine.{is_general}
use Rattle.dcc_machine.specs.Code.{code_of}
use Rattle.dcc_machine.specs.Bytes.{byte_at}
use Rattle.dcc_machine.specs.Table.{instruction_at}
use Rattle.dcc_machine.specs.Writes.{is_same_register, writes_half}

-- The code.

-- the bytes of the code: those of the code segment below the end of the code
abbrev pub code_within : Image → Layout → List ℕ
code_within image layout = take layout.code_end (code_of image)

-- the instruction that stands at an offset, wholly in the code, if any
abbrev pub instruction_in : Image → Layout → ℕ → Option Instr
instruction_in image layout at = instruction_at layout.cpu at (drop at (code_within image layout))

-- an instruction with this operation stands at the offset, wholly in the code
abbrev pub StandsAt : Image → Layout → ℕ → Op → Type 0
StandsAt image layout at op = (instr : Instr) × (instruction_in image layout at ≡ Some instr) × (instr.op ≡ op)

-- AH.

-- the constant that a MOV to AH or AX puts into AH
abbrev pub constant_to_ah : Op → Option ℕ
constant_to_ah (Mov (Byte Ax High) (Const width constant)) = Some constant
constant_to_ah (Mov (Word Ax) (Const width constant)) = Some (constant / 256)
constant_to_ah op = None

-- what is known of AH after an instruction, by what is known before it
abbrev pub ah_after : Option Instr → Option ℕ → Option ℕ
ah_after None known = known
ah_after (Some instr) known = if writes_half instr.op Ax High then constant_to_ah instr.op else known

-- what is known of AH after a trail: the constant of the last instruction that writes AH, if it is a MOV of one
abbrev pub known_ah : Image → Layout → List ℕ → Option ℕ
known_ah image layout [] = None
known_ah image layout (at ∷ before) = ah_after (instruction_in image layout at) (known_ah image layout before)

-- Tables.

-- the operation at an offset, if an instruction stands there
abbrev pub operation_in : Image → Layout → ℕ → Option Op
operation_in image layout at = option_map (λ instr. instr.op) (instruction_in image layout at)

-- r, where the operation is `mov q,r` and moves it from another register
abbrev pub moved_from : Reg → Option Op → Option Reg
moved_from q (Some (Mov (Word p) (Word r))) =
    if is_same_register q p && not (is_same_register q r) then Some r else None
moved_from q op = None

-- `shl r,1`
abbrev pub is_doubling : Reg → Option Op → Bool
is_doubling r (Some (ShiftOp Shl (Word q) One)) = is_same_register r q
is_doubling r op = false

-- `xor ah,ah`, where r is AX
abbrev pub clears_upper : Reg → Option Op → Bool
clears_upper Ax (Some (AluOp Xor (Byte Ax High) (Byte Ax High))) = true
clears_upper r op = false

-- N, where the operation is `cmp r,N` of a general register
abbrev pub compared_with : Reg → Option Op → Option ℕ
compared_with r (Some (AluOp Cmp (Word q) (Const width constant))) =
    if is_general r && is_same_register r q then Some constant else None
compared_with r op = None

-- N, where the operation is `cmp al,N`
abbrev pub al_compared_with : Option Op → Option ℕ
al_compared_with (Some (AluOp Cmp (Byte Ax Low) (Const width constant))) = Some constant
al_compared_with op = None

-- a JA whose next instruction stands at the offset and whose target doesn't, or a JBE the other way round
abbrev pub is_bounds_test : Op → ℕ → ℕ → Bool
is_bounds_test (Branch A target) next to = (next == to) && not (target == to)
is_bounds_test (Branch Be target) next to = (target == to) && not (next == to)
is_bounds_test op next to = false

-- a bounds test stands at an offset, and goes on to another one
abbrev pub is_test_to : Option Instr → ℕ → ℕ → Bool
is_test_to None at to = false
is_test_to (Some instr) at to = is_bounds_test instr.op (next_of at instr) to

-- the N of the comparison with which a trail ends, but for a bounds test after it that goes on to the offset
abbrev pub number_before_test : Image → Layout → (Option Op → Option ℕ) → ℕ → List ℕ → Option ℕ
number_before_test image layout comparison to (test ∷ compare ∷ rest) =
    if is_test_to (instruction_in image layout test) test to then comparison (operation_in image layout compare)
    else None
number_before_test image layout comparison to _ = None

-- The greatest number that r may hold at an offset, by a trail to it: that of `cmp r,N` and a bounds test, or where r
-- is AX that of `cmp al,N`, a bounds test and `xor ah,ah`.
abbrev pub greatest_in : Image → Layout → Reg → ℕ → List ℕ → Option ℕ
greatest_in image layout r to [] = None
greatest_in image layout r to (last ∷ before) =
    if clears_upper r (operation_in image layout last) then number_before_test image layout al_compared_with last before
    else number_before_test image layout (compared_with r) to (last ∷ before)

-- The greatest number that r may hold before the `shl r,1` with which the trail ends: that of a comparison of r (or of
-- AL, where r is AX) and a bounds test before it. None where the trail doesn't end with `shl r,1`.
abbrev pub greatest_doubled : Image → Layout → Reg → List ℕ → Option ℕ
greatest_doubled image layout r [] = None
greatest_doubled image layout r (shift ∷ before) =
    if is_doubling r (operation_in image layout shift) then greatest_in image layout r shift before else None

-- N of a jump through a table by the register q: the trail before it ends with comparison, bounds test and `shl` of q,
-- or with those of another register r and then `mov q,r`
abbrev pub table_number : Image → Layout → Reg → List ℕ → Option ℕ
table_number image layout q [] = None
table_number image layout q (last ∷ before) = elim (moved_from q (operation_in image layout last)) [
  | None ↦ greatest_doubled image layout q (last ∷ before)
  | Some r ↦ greatest_doubled image layout r before
]

-- the word at an offset of the code segment, which wraps, low byte first; beyond the image there are zeros
abbrev pub word_in_segment : Image → ℕ → ℕ
word_in_segment image offset =
    byte_at (code_of image) (offset % 65536) + 256 * byte_at (code_of image) ((offset + 1) % 65536)

-- the words of a table from an offset on
abbrev pub table_words : Image → ℕ → ℕ → List ℕ
table_words image offset count = map (λ k. word_in_segment image (offset + 2 * k)) (range_with_len 0 count)

-- the N + 1 words of a table, where N is told
abbrev pub table_targets : Image → ℕ → Option ℕ → List ℕ
table_targets image offset None = []
table_targets image offset (Some number) = table_words image offset (number + 1)

-- Successors.

-- the targets of the table through which an operation after a trail jumps
abbrev pub targets_of : Image → Layout → Op → List ℕ → List ℕ
targets_of image layout (Table r offset) before = table_targets image offset (table_number image layout r before)
targets_of image layout op before = []

-- the successors of an instruction after a trail; where none stands there are none
abbrev pub instr_successors : Image → Layout → ℕ → List ℕ → Option Instr → List ℕ
instr_successors image layout at before None = []
instr_successors image layout at before (Some instr) =
    op_successors instr.op (next_of at instr) (known_ah image layout before) (targets_of image layout instr.op before)

-- the successors of a trail
abbrev pub successors : Image → Layout → List ℕ → List ℕ
successors image layout [] = []
successors image layout (at ∷ before) = instr_successors image layout at before (instruction_in image layout at)

-- Trails, nodes and edges of the procedure with an entry.

-- the oldest offset is the entry, and each other one is a successor of the trail before it
abbrev pub IsTrail : Image → Layout → ℕ → List ℕ → Type 0
IsTrail image layout entry [] = ⊥
IsTrail image layout entry (at ∷ []) = at ≡ entry
IsTrail image layout entry (at ∷ last ∷ rest) =
    Contains (successors image layout (last ∷ rest)) at × IsTrail image layout entry (last ∷ rest)

-- a trail ends at the offset
pub record IsNode (image : Image) (layout : Layout) (entry at : ℕ) : Type 0 where
  pub before : List ℕ
  pub trail : IsTrail image layout entry (at ∷ before)

-- a trail goes from one node to the other
pub record IsEdge (image : Image) (layout : Layout) (entry from to : ℕ) : Type 0 where
  pub before : List ℕ
  pub trail : IsTrail image layout entry (to ∷ from ∷ before)

-- the first node alone has an edge to the second, which isn't the entry: to the entry there is an edge from outside
pub record IsSolePredecessor (image : Image) (layout : Layout) (entry from to : ℕ) : Type 0 where
  pub edge : IsEdge image layout entry from to
  pub sole : (other : ℕ) → IsEdge image layout entry other to → other ≡ from
  pub inner : ¬ (to ≡ entry)

-- Procedures.

-- the entry procedure begins after the prelude, the others at the targets of the calls that are reached
pub data IsEntry (image : Image) (layout : Layout) : ℕ → Type 0 where
  start : IsEntry image layout layout.start_ip
  called :
      {entry at target : ℕ}
      → IsEntry image layout entry
      → IsNode image layout entry at
      → StandsAt image layout at (Call target)
      → IsEntry image layout target
