-- What an operation uses of its procedure's frame, as functions of the operation, of the stack's height and of whether
-- the procedure is framed. This stands between the definitions of frames and the code; no public contract rests on it.
use Rattle.std.specs.Prelude.{ℕ, ℤ, pos, neg_ℤ, ◌+ℤ◌, ◌-ℤ◌, Bool, true, false, not, ◌&&◌, if◌then◌else◌, Option, Some}
use Rattle.std.specs.Prelude.{None}
use Rattle.dcc_num.specs.declared.Width.{Width}
use Rattle.dcc_num.specs.declared.Reg.{Reg}
use Rattle.dcc_num.specs.declared.Reg.TheVariants.{Sp, Bp}
use Rattle.dcc_machine.specs.declared.instr.Ea.{Ea}
use Rattle.dcc_machine.specs.declared.instr.Operand.{Operand}
use Rattle.dcc_machine.specs.declared.instr.Operand.TheVariants.{Word}
use Rattle.dcc_machine.specs.declared.instr.Op.{Op}
use Rattle.dcc_machine.specs.declared.instr.Op.TheVariants.{Lea, Push, Pop}
use Rattle.dcc_machine.specs.Access.{bytes_in, is_direct}
use Rattle.dcc_machine.specs.SpAndBp.{copies_bp, address_uses_bp}
use Rattle.dcc_prog.specs.Frame.{memory_operand, offset_in_frame}
use Rattle.dcc_frames.specs.declared.bytes.Bytes.{Bytes}

-- the bytes at BP plus a displacement
abbrev pub bytes_at : Width → Ea → Bytes
bytes_at width ea = record { first = offset_in_frame ea; end = offset_in_frame ea +ℤ pos (bytes_in width) }

-- the bytes of a memory operand whose address is BP plus a displacement
abbrev pub access_at : Option (Width × Ea) → Option Bytes
access_at None = None
access_at (Some (width, ea)) = if is_direct ea then Some (bytes_at width ea) else None

-- the bytes of a direct access, which a framed procedure makes
abbrev pub access_of : Bool → Op → Option Bytes
access_of false op = None
access_of true op = access_at (memory_operand op)

-- from where a memory operand with BP and an index exposes bytes
abbrev pub start_at : Option (Width × Ea) → Option ℤ
start_at None = None
start_at (Some (width, ea)) = if address_uses_bp ea && not (is_direct ea) then Some (offset_in_frame ea) else None

-- from where LEA of another register than SP exposes bytes
abbrev pub start_by_lea : Reg → Ea → Option ℤ
start_by_lea Sp ea = None
start_by_lea r ea = if address_uses_bp ea then Some (offset_in_frame ea) else None

-- from where `mov r,bp`, or a memory operand with BP and an index, exposes bytes
abbrev pub start_by_other : Op → ℕ → Option ℤ
start_by_other op height = if copies_bp op then Some (pos 2 -ℤ pos height) else start_at (memory_operand op)

-- from where an operation exposes bytes
abbrev pub start_of : Op → ℕ → Option ℤ
start_of (Lea r ea) height = start_by_lea r ea
start_of op height = start_by_other op height

abbrev pub is_bp_word : Operand → Bool
is_bp_word (Word Bp) = true
is_bp_word operand = false

abbrev pub word_at : ℤ → Bytes
word_at first = record { first = first; end = first +ℤ pos 2 }

-- the word that a PUSH or POP moves, but for the saved BP
abbrev pub moved_of : Bool → Op → ℕ → Option Bytes
moved_of framed (Push a) height = if framed && is_bp_word a then None else Some (word_at (neg_ℤ (pos height)))
moved_of framed (Pop a) height = if framed && is_bp_word a then None else Some (word_at (pos 2 -ℤ pos height))
moved_of framed op height = None
