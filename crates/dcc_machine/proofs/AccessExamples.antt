-- Accesses of small operations in one state.
use Rattle.std.proofs.Common.{◌≡◌, ℕ, zero, suc, ◌+◌, ◌%◌, ◌<◌, true, [], ◌∷◌, Option, Some, None, refl, ap, arith}
use Rattle.dcc_run.specs.End.{Running}
use Rattle.dcc_num.specs.declared.Width.TheVariants.{Byte as byte_width, Word as word_width}
use Rattle.dcc_num.specs.declared.Reg.{Reg}
use Rattle.dcc_num.specs.declared.Reg.TheVariants.{Ax, Dx, Bx, Bp, Si}
use Rattle.dcc_num.specs.declared.Half.TheVariants.{Low}
use Rattle.dcc_num.specs.Numbers.{no_flags}
use Rattle.dcc_machine.specs.declared.instr.Shift.TheVariants.{Shl}
use Rattle.dcc_machine.specs.declared.instr.Count.TheVariants.{Cl}
use Rattle.dcc_machine.specs.declared.instr.Plain.TheVariants.{Xlat}
use Rattle.dcc_machine.specs.declared.instr.Ea.{Ea}
use Rattle.dcc_machine.specs.declared.instr.Operand.TheVariants.{Byte, Mem}
use Rattle.dcc_machine.specs.declared.instr.Op.TheVariants.{Shift as ShiftOp, Mov, Push, Pop, Enter, Leave, Plain as PlainOp, Table, Call, Ret, Int21}
use Rattle.dcc_machine.specs.Dos.{is_not_dollar}
use Rattle.dcc_machine.specs.Machine.{State, word_in, byte_in, data_segment}
use Rattle.dcc_machine.specs.Access.{Direction, Reading, Writing, Kind, OfStack, OfFrame, Other, Access, accesses, addresses_of}
use Rattle.dcc_machine.proofs.AccessLaws.{string_size-is}

access : Direction → Kind → ℕ → ℕ → ℕ → Access
access direction kind segment offset size =
    record { direction = direction; kind = kind; segment = segment; offset = offset; size = size }

address : Option Reg → Option Reg → ℕ → Ea
address base index disp = record { base = base; index = index; disp = disp }

-- AL is 3, BX 20h, SP 100h, BP 80h, SI 5; CS, SS and DS are 110h, 120h and 130h
here : State
here = record {
  regs = 0x0003 ∷ 0 ∷ 0 ∷ 0x0020 ∷ 0x0100 ∷ 0x0080 ∷ 0x0005 ∷ 0 ∷ [];
  segs = 0x0100 ∷ 0x0110 ∷ 0x0120 ∷ 0x0130 ∷ [];
  flags = no_flags;
  ip = 0x0010;
  memory = [];
  input = [];
  events = [];
  end = Running;
}

-- `push [bx]` reads its operand before it stores
push-of_memory :
    accesses (Push (Mem word_width (address (Some Bx) None 0))) here
    ≡ access Reading Other 0x0130 0x0020 2 ∷ access Writing OfStack 0x0120 0x00FE 2 ∷ []
unfolding access address here
push-of_memory = refl

-- `pop [bp-2]` stores after it has read
pop-to_frame :
    accesses (Pop (Mem word_width (address (Some Bp) None 0xFFFE))) here
    ≡ access Reading OfStack 0x0120 0x0100 2 ∷ access Writing OfFrame 0x0120 0x007E 2 ∷ []
unfolding access address here
pop-to_frame = refl

call-pushes : accesses (Call 0x0200) here ≡ access Writing OfStack 0x0120 0x00FE 2 ∷ []
unfolding access here
call-pushes = refl

ret-pops : accesses (Ret 4) here ≡ access Reading OfStack 0x0120 0x0100 2 ∷ []
unfolding access here
ret-pops = refl

-- `enter 4` stores BP two bytes below SP, and `leave` reads it at BP
enter-pushes : accesses (Enter 4) here ≡ access Writing OfStack 0x0120 0x00FE 2 ∷ []
unfolding access here
enter-pushes = refl

leave-pops : accesses Leave here ≡ access Reading OfStack 0x0120 0x0080 2 ∷ []
unfolding access here
leave-pops = refl

xlat-reads : accesses (PlainOp Xlat) here ≡ access Reading Other 0x0130 0x0023 1 ∷ []
unfolding access here
xlat-reads = refl

-- `mov [bp+si+2],al` has an index, and is no direct access of a frame
indexed-writes :
    accesses (Mov (Mem byte_width (address (Some Bp) (Some Si) 2)) (Byte Ax Low)) here
    ≡ access Writing Other 0x0120 0x0087 1 ∷ []
unfolding access address here
indexed-writes = refl

-- `shl [bp-4],cl` reads and writes its operand, also where CL is 0
shift-writes :
    accesses (ShiftOp Shl (Mem word_width (address (Some Bp) None 0xFFFC)) Cl) here
    ≡ access Reading OfFrame 0x0120 0x007C 2 ∷ access Writing OfFrame 0x0120 0x007C 2 ∷ []
unfolding access address here
shift-writes = refl

table-reads : accesses (Table Bx 0x0040) here ≡ access Reading Other 0x0110 0x0060 2 ∷ []
unfolding access here
table-reads = refl

-- the second byte of a word at FFFFh is at the segment's offset 0
word-wraps : addresses_of (access Reading Other 0x0130 0xFFFF 2) ≡ 0x112FF ∷ 0x01300 ∷ []
unfolding access
word-wraps = refl

-- call 09h with the string `HI` at DS:DX, DS and DX being 0
calling : State
calling = record {
  regs = 0x0900 ∷ 0 ∷ 0 ∷ 0 ∷ 0x0100 ∷ 0 ∷ 0 ∷ 0 ∷ [];
  segs = 0 ∷ 0 ∷ 0 ∷ 0 ∷ [];
  flags = no_flags;
  ip = 0x0010;
  memory = 0x48 ∷ 0x49 ∷ 0x24 ∷ [];
  input = [];
  events = [];
  end = Running;
}

-- the two bytes and the `$`
string-reads : accesses Int21 calling ≡ access Reading Other 0 0 3 ∷ []
unfolding access calling
string-reads = ap (λ n. access Reading Other 0 0 n ∷ []) (string_size-is calling 2 (omega arith) letters refl)
  where
    letters :
        (k : ℕ) → k < 2
        → is_not_dollar (byte_in calling (data_segment calling) ((word_in calling Dx + (0 + k)) % 65536)) ≡ true
    letters zero low = refl
    letters (suc zero) low = refl
    letters (suc (suc k)) low = absurd (omega arith)
