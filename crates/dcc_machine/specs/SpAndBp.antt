-- How operations name SP and BP and move them. Compilers lower SP by SUB, by ADD of a negative number, by DEC and by
-- LEA, and take a frame's address by LEA or from BP.
use Rattle.std.specs.Prelude.{Bool, true, false, ◌||◌, ℕ, ◌==◌, nat_le, not, ◌&&◌, is_some}
use Rattle.dcc_num.specs.declared.Reg.TheVariants.{Bp, Sp}
use Rattle.dcc_machine.specs.declared.instr.Operand.TheVariants.{Word, Byte, Mem, Const}
use Rattle.dcc_machine.specs.declared.instr.Op.{Op}
use Rattle.dcc_machine.specs.declared.instr.Op.TheVariants.{Push, Mov, Enter, Alu as AluOp, Unary as UnaryOp}
use Rattle.dcc_machine.specs.declared.instr.Op.TheVariants.{Shift as ShiftOp, Xchg, Lea, Imul3, Pop, Leave}
use Rattle.dcc_machine.specs.declared.instr.Operand.{Operand}
use Rattle.dcc_machine.specs.declared.instr.Ea.{Ea}
use Rattle.dcc_machine.specs.declared.instr.Alu.TheVariants.{Add, Sub}
use Rattle.dcc_machine.specs.declared.instr.Unary.TheVariants.{Inc, Dec}
use Rattle.dcc_machine.specs.Machine.{is_bp, is_general}

-- Set up of a frame.

-- `push bp`
abbrev pub is_push_bp : Op → Bool
is_push_bp (Push (Word Bp)) = true
is_push_bp op = false

-- `mov bp,sp`
abbrev pub is_mov_bp_sp : Op → Bool
is_mov_bp_sp (Mov (Word Bp) (Word Sp)) = true
is_mov_bp_sp op = false

-- ENTER
abbrev pub is_enter : Op → Bool
is_enter (Enter count) = true
is_enter op = false

-- Uses of SP and BP.

-- the operand is SP or BP; a half of one of them, which no byte register is, would count too
abbrev pub is_sp_or_bp : Operand → Bool
is_sp_or_bp (Word Sp) = true
is_sp_or_bp (Word Bp) = true
is_sp_or_bp (Byte Sp half) = true
is_sp_or_bp (Byte Bp half) = true
is_sp_or_bp operand = false

-- the address uses BP
abbrev pub address_uses_bp : Ea → Bool
address_uses_bp ea = is_bp ea.base || is_bp ea.index

-- the operand is in memory, and its address uses BP
abbrev pub is_by_bp : Operand → Bool
is_by_bp (Mem width ea) = address_uses_bp ea
is_by_bp operand = false

-- an operand of the operation is SP or BP, as of ENTER and LEAVE in any case
abbrev pub names_sp_or_bp : Op → Bool
names_sp_or_bp (AluOp operation a b) = is_sp_or_bp a || is_sp_or_bp b
names_sp_or_bp (UnaryOp operation a) = is_sp_or_bp a
names_sp_or_bp (ShiftOp operation a count) = is_sp_or_bp a
names_sp_or_bp (Mov to from) = is_sp_or_bp to || is_sp_or_bp from
names_sp_or_bp (Xchg a b) = is_sp_or_bp a || is_sp_or_bp b
names_sp_or_bp (Lea r ea) = is_sp_or_bp (Word r)
names_sp_or_bp (Imul3 r a constant) = is_sp_or_bp (Word r) || is_sp_or_bp a
names_sp_or_bp (Push a) = is_sp_or_bp a
names_sp_or_bp (Pop a) = is_sp_or_bp a
names_sp_or_bp (Enter count) = true
names_sp_or_bp Leave = true
names_sp_or_bp op = false

-- the address of a memory operand, or of LEA, uses BP
abbrev pub uses_bp_address : Op → Bool
uses_bp_address (AluOp operation a b) = is_by_bp a || is_by_bp b
uses_bp_address (UnaryOp operation a) = is_by_bp a
uses_bp_address (ShiftOp operation a count) = is_by_bp a
uses_bp_address (Mov to from) = is_by_bp to || is_by_bp from
uses_bp_address (Xchg a b) = is_by_bp a || is_by_bp b
uses_bp_address (Lea r ea) = address_uses_bp ea
uses_bp_address (Imul3 r a constant) = is_by_bp a
uses_bp_address (Push a) = is_by_bp a
uses_bp_address (Pop a) = is_by_bp a
uses_bp_address op = false

-- a move of SP: ADD or SUB of a constant, INC or DEC
abbrev pub is_sp_move : Op → Bool
is_sp_move (AluOp Add (Word Sp) (Const width constant)) = true
is_sp_move (AluOp Sub (Word Sp) (Const width constant)) = true
is_sp_move (UnaryOp Inc (Word Sp)) = true
is_sp_move (UnaryOp Dec (Word Sp)) = true
is_sp_move op = false

-- a word, taken as signed, that is at most 0
abbrev pub is_at_most_zero : ℕ → Bool
is_at_most_zero word = (word == 0) || nat_le 32768 word

-- BP plus a signed word that is at most 0
abbrev pub is_at_or_below_bp : Ea → Bool
is_at_or_below_bp ea = is_bp ea.base && not (is_some ea.index) && is_at_most_zero ea.disp

-- `mov sp,bp`, LEA of SP from BP, `pop bp` or LEAVE, with which a framed procedure gives bytes of its frame up
abbrev pub leaves_frame : Op → Bool
leaves_frame (Mov (Word Sp) (Word Bp)) = true
leaves_frame (Lea Sp ea) = is_at_or_below_bp ea
leaves_frame (Pop (Word Bp)) = true
leaves_frame Leave = true
leaves_frame op = false

-- `mov r,bp` to a general register, which takes the frame's address
abbrev pub copies_bp : Op → Bool
copies_bp (Mov (Word r) (Word Bp)) = is_general r
copies_bp op = false
