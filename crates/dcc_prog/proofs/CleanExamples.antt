-- Clean and foul steps, tried on one small stack.
use Rattle.std.proofs.Common.{◌≡◌, ℕ, zero, suc, ◌+◌, ◌%◌, ◌<◌, ◌^◌, true, false, Bool, List, [], ◌∷◌, ◌++◌, length, replicate, map, Option, Some, None, refl, ap, arith}
use denote.RawPtr.{null_ptr}
use Rattle.std.specs.declared.vec.Vec.{Vec}
use Rattle.std.specs.declared.alloc.Global.{Global}
use Rattle.dcc_run.specs.End.{Running}
use Rattle.dcc_num.specs.declared.Width.TheVariants.{Byte as byte_width, Word as word_width}
use Rattle.dcc_num.specs.declared.Reg.TheVariants.{Ax, Cx, Dx, Bx, Bp}
use Rattle.dcc_num.specs.declared.Half.TheVariants.{Low as low_half}
use Rattle.dcc_num.specs.Numbers.{no_flags}
use Rattle.dcc_machine.specs.declared.cpu.Cpu.TheVariants.{I186}
use Rattle.dcc_prog.specs.declared.procedure.Layout.{Layout}
use Rattle.dcc_prog.specs.declared.procedure.Proc.{Proc}
use Rattle.dcc_prog.specs.declared.frame.Frame.{Frame}
use Rattle.dcc_prog.specs.declared.frame.Heights.{Heights}
use Rattle.dcc_prog.specs.declared.frame.Program.{Program}
use Rattle.dcc_prog.specs.declared.watch.FoulKind.{FoulKind}
use Rattle.dcc_prog.specs.declared.watch.FoulKind.TheVariants.{Low, Hidden, Unwritten}
use Rattle.dcc_machine.specs.declared.instr.Operand.{Operand}
use Rattle.dcc_machine.specs.declared.instr.Operand.TheVariants.{Word, Byte, Mem}
use Rattle.dcc_machine.specs.declared.instr.Op.{Op}
use Rattle.dcc_machine.specs.declared.instr.Op.TheVariants.{Mov, Push, Pop, Enter, Leave, Call, Ret, Int21}
use Rattle.dcc_machine.specs.declared.instr.Instr.{Instr}
use Rattle.dcc_machine.specs.Dos.{is_not_dollar}
use Rattle.dcc_machine.specs.Machine.{State, word_in, byte_in, data_segment}
use Rattle.dcc_machine.specs.Step.{instruction_step}
use Rattle.dcc_machine.specs.Access.{Reading, Other, Access, found_accesses}
use Rattle.dcc_prog.specs.Clean.{LiveFrame, Stack, Foul, foul_as, or_else, low_of, hidden_of, unwritten_of, sp_after, owner, is_exposed_byte, with_marks, is_marked, foul_of, stack_after}
use Rattle.dcc_machine.proofs.AccessLaws.{string_size-is}

-- The stack: offsets 14h to 3Fh, and its segment begins 10h above the data segment's, which is at 0.
small : Layout
small = record {
  cpu = I186;
  ds = 0;
  delta = 0x10;
  lo = 0x14;
  hi = 0x40;
  start_ip = 0x0100;
  code_end = 0x0300;
  regs = 0 ∷ 0 ∷ 0 ∷ 0 ∷ 0x0030 ∷ 0 ∷ 0 ∷ 0 ∷ [];
  flags = no_flags;
}

-- SP is 20h, BP 24h: offsets 30h and 34h
state_with : ℕ → ℕ → ℕ → List ℕ → State
state_with ax bx sp memory = record {
  regs = ax ∷ 0 ∷ 0x0033 ∷ bx ∷ sp ∷ 0x0024 ∷ 0 ∷ 0 ∷ [];
  segs = 0 ∷ 0x0200 ∷ 0x0001 ∷ 0 ∷ [];
  flags = no_flags;
  ip = 0x0210;
  memory = memory;
  input = [];
  events = [];
  end = Running;
}

vec_with : {T : Type 0} (xs : List T) → length xs < 2 ^ 63 → Vec T Global
vec_with xs few = record { ptr = null_ptr; len = length xs; cap = length xs; alloc = record { memory = record { seal = tt } }; items = xs; ok = (refl, omega arith); small = few }

instr_of : Op → Instr
instr_of op = record { op = op; len = 3 }

-- the word, or the byte, at BP or BX and a displacement
at_bp : ℕ → Operand
at_bp disp = Mem word_width (record { base = Some Bp; index = None; disp = disp })

at_bx : Operand
at_bx = Mem word_width (record { base = Some Bx; index = None; disp = 0 })

byte_at_bx : Operand
byte_at_bx = Mem byte_width (record { base = Some Bx; index = None; disp = 0 })

-- The entry procedure at 0100h has called the one at 0200h, which is framed, has one argument and exposes two bytes below
-- BP. That one's frame reaches from SP to its argument at 38h and 39h: the two exposed bytes are at 32h, the saved BP at
-- 34h and the return address at 36h.
callee : LiveFrame
callee = record { entry = 0x0200; base = 0x38 }

first : LiveFrame
first = record { entry = 0x0100; base = 0x42 }

-- the frames, with these bytes written
stack_with : List ℕ → Stack
stack_with written = record { frames = callee ∷ first ∷ []; written = with_marks true written (replicate 0x40 false) }

foul : FoulKind → ℕ → Option Foul
foul kind address = Some (record { at = 0x0210; kind = kind; address = address })

-- call 09h with the string `H` at the last exposed byte: its `$` stands in the saved BP
calling : State
calling = state_with 0x0900 0 0x0020 (replicate 0x33 0 ++ 0x48 ∷ 0x24 ∷ [])

string_read : Access
string_read = record { direction = Reading; kind = Other; segment = 0; offset = 0x33; size = 2 }

string-reads : found_accesses (Some (instr_of Int21)) calling ≡ string_read ∷ []
unfolding calling state_with instr_of string_read
string-reads =
    ap (λ n. record string_read { size = n } ∷ []) (string_size-is (record calling { ip = 0x0213 }) 1 (omega arith) letters refl)
  where
    letters : (k : ℕ) → k < 1
        → is_not_dollar (byte_in calling (data_segment calling) ((word_in calling Dx + (0 + k)) % 65536)) ≡ true
    letters zero low = refl
    letters (suc k) low = absurd (omega arith)

-- whatever else the procedures and frames are
module _ (proc : Proc) (frame : Frame) (heights : Heights) where
  program : Program
  program = record {
    layout = small;
    procs = vec_with (record proc { entry = 0x0100 } ∷ record proc { entry = 0x0200 } ∷ []) (omega arith);
    heights = heights;
    cells = record {
      frames = vec_with (
          record frame { framed = false; args = 0; exposed = record { local = 0; arg = None } }
          ∷ record frame { framed = true; args = 1; exposed = record { local = 2; arg = None } }
          ∷ [])
          (omega arith);
    };
  }

  -- what is foul of an operation where SP and BX hold these words, with these bytes written
  foul_by : Op → ℕ → ℕ → List ℕ → Option Foul
  foul_by op sp bx written = foul_of program (stack_with written) (state_with 0 bx sp []) (Some (instr_of op))

  -- the stack after its step
  stack_by : Op → ℕ → List ℕ → Stack
  stack_by op sp written =
      let s = state_with 0 0 sp [] in
      stack_after small (Some (instr_of op)) s (instruction_step I186 (Some (instr_of op)) s) (stack_with written)

  -- Owners.

  -- an argument word is the callee's while this lives, and what lies above it the caller's
  owner-of_argument : owner program 0x30 (callee ∷ first ∷ []) 0x39 ≡ Some callee
  unfolding program vec_with small callee first
  owner-of_argument = refl

  owner-above : owner program 0x30 (callee ∷ first ∷ []) 0x3A ≡ Some first
  unfolding program vec_with small callee first
  owner-above = refl

  owner-below : owner program 0x30 (callee ∷ first ∷ []) 0x2F ≡ None
  unfolding program vec_with small callee first
  owner-below = refl

  -- below BP two bytes are exposed; the saved BP, the return address and the argument aren't
  exposed-bytes :
      map (is_exposed_byte program 0x30 (callee ∷ first ∷ [])) (0x31 ∷ 0x32 ∷ 0x33 ∷ 0x34 ∷ 0x35 ∷ 0x36 ∷ 0x37 ∷ 0x38 ∷ 0x39 ∷ [])
      ≡ false ∷ true ∷ true ∷ false ∷ false ∷ false ∷ false ∷ false ∷ false ∷ []
  unfolding program vec_with small callee first
  exposed-bytes = refl

  -- Low.

  -- a push to the very low end is clean, and one further down is not
  push-to_end : foul_by (Push (Word Ax)) 0x0006 0 [] ≡ None
  unfolding foul_by program vec_with small callee first stack_with state_with instr_of
  push-to_end = refl

  push-low : foul_by (Push (Word Ax)) 0x0005 0 [] ≡ foul Low 0x13
  unfolding foul_by program vec_with small callee first stack_with state_with instr_of foul
  push-low = refl

  -- SP would be -1, which is before it wraps
  call-below_zero : foul_by (Call 0x0200) 0x0001 0 [] ≡ foul Low 0x0F
  unfolding foul_by program vec_with small callee first stack_with state_with instr_of foul
  call-below_zero = refl

  -- ENTER stores 2 bytes and lowers SP by 18h more
  enter-low : foul_by (Enter 0x18) 0x001D 0 [] ≡ foul Low 0x13
  unfolding foul_by program vec_with small callee first stack_with state_with instr_of foul
  enter-low = refl

  -- `push [bx]` of the return address is hidden; where SP is too low too, that comes first
  push-hidden : foul_by (Push at_bx) 0x0020 0x36 [] ≡ foul Hidden 0x36
  unfolding foul_by program vec_with small callee first stack_with state_with instr_of foul at_bx
  push-hidden = refl

  low-before_hidden : foul_by (Push at_bx) 0x0005 0x36 [] ≡ foul Low 0x13
  unfolding foul_by program vec_with small callee first stack_with state_with instr_of foul at_bx
  low-before_hidden = refl

  -- Hidden.

  -- `mov al,[bx]`: an exposed byte that is written, the byte above it, and a byte outside the stack
  load-exposed : foul_by (Mov (Byte Ax low_half) byte_at_bx) 0x0020 0x33 (0x33 ∷ []) ≡ None
  unfolding foul_by program vec_with small callee first stack_with state_with instr_of byte_at_bx
  load-exposed = refl

  load-hidden : foul_by (Mov (Byte Ax low_half) byte_at_bx) 0x0020 0x34 (0x34 ∷ []) ≡ foul Hidden 0x34
  unfolding foul_by program vec_with small callee first stack_with state_with instr_of foul byte_at_bx
  load-hidden = refl

  load-elsewhere : foul_by (Mov (Byte Ax low_half) byte_at_bx) 0x0020 0x40 [] ≡ None
  unfolding foul_by program vec_with small callee first stack_with state_with instr_of byte_at_bx
  load-elsewhere = refl

  -- `mov [bx],cx`: below SP all is hidden
  store-below_top : foul_by (Mov at_bx (Word Cx)) 0x0020 0x2E [] ≡ foul Hidden 0x2E
  unfolding foul_by program vec_with small callee first stack_with state_with instr_of foul at_bx
  store-below_top = refl

  -- the first byte of the word is exposed and not written, the second one is hidden: that is named
  hidden-before_unwritten : foul_by (Mov (Word Ax) at_bx) 0x0020 0x33 [] ≡ foul Hidden 0x34
  unfolding foul_by program vec_with small callee first stack_with state_with instr_of foul at_bx
  hidden-before_unwritten = refl

  string-hidden : foul_of program (stack_with (0x33 ∷ 0x34 ∷ [])) calling (Some (instr_of Int21)) ≡ foul Hidden 0x34
  unfolding program vec_with small callee first stack_with calling state_with instr_of foul string_read
  string-hidden =
      ap (λ list. or_else (foul_as 0x0210 Low (low_of small (sp_after Int21 calling)))
      (or_else (foul_as 0x0210 Hidden (hidden_of program (stack_with (0x33 ∷ 0x34 ∷ [])) calling list))
      (foul_as 0x0210 Unwritten (unwritten_of small (stack_with (0x33 ∷ 0x34 ∷ [])) list)))) string-reads

  -- Unwritten.

  -- `mov ax,[bp-4]`, a direct access, of a word whose first byte is written
  load-unwritten : foul_by (Mov (Word Ax) (at_bp 0xFFFC)) 0x0020 0 (0x30 ∷ []) ≡ foul Unwritten 0x31
  unfolding foul_by program vec_with small callee first stack_with state_with instr_of foul at_bp
  load-unwritten = refl

  pop-unwritten : foul_by (Pop (Word Ax)) 0x0020 0 [] ≡ foul Unwritten 0x30
  unfolding foul_by program vec_with small callee first stack_with state_with instr_of foul
  pop-unwritten = refl

  pop-written : foul_by (Pop (Word Ax)) 0x0020 0 (0x30 ∷ 0x31 ∷ []) ≡ None
  unfolding foul_by program vec_with small callee first stack_with state_with instr_of
  pop-written = refl

  ret-unwritten : foul_by (Ret 0) 0x0026 0 (0x36 ∷ []) ≡ foul Unwritten 0x37
  unfolding foul_by program vec_with small callee first stack_with state_with instr_of foul
  ret-unwritten = refl

  -- LEAVE reads the saved BP, wherever SP is
  leave-unwritten : foul_by Leave 0x0020 0 (0x34 ∷ []) ≡ foul Unwritten 0x35
  unfolding foul_by program vec_with small callee first stack_with state_with instr_of foul
  leave-unwritten = refl

  -- Marks and frames afterwards.

  marks-at : List ℕ → Stack → List Bool
  marks-at offsets stack = map (is_marked stack.written) offsets

  -- `pop [bp-2]` of that very word: it is stored, and then SP rises past it
  pop-into_itself : marks-at (0x32 ∷ 0x33 ∷ []) (stack_by (Pop (at_bp 0xFFFE)) 0x0022 (0x32 ∷ 0x33 ∷ [])) ≡ false ∷ false ∷ []
  unfolding stack_by marks-at small callee first stack_with state_with instr_of at_bp
  pop-into_itself = refl

  -- `pop [bp-2]` of the word below BP-2: what is stored stays written, the popped word does not
  pop-upwards : marks-at (0x30 ∷ 0x31 ∷ 0x32 ∷ 0x33 ∷ []) (stack_by (Pop (at_bp 0xFFFE)) 0x0020 (0x30 ∷ 0x31 ∷ [])) ≡ false ∷ false ∷ true ∷ true ∷ []
  unfolding stack_by marks-at small callee first stack_with state_with instr_of at_bp
  pop-upwards = refl

  -- ENTER writes the word below SP, and none of those that it lowers SP by
  enter-marks : marks-at (0x2C ∷ 0x2D ∷ 0x2E ∷ 0x2F ∷ 0x30 ∷ []) (stack_by (Enter 2) 0x0020 []) ≡ false ∷ false ∷ true ∷ true ∷ false ∷ []
  unfolding stack_by marks-at small callee first stack_with state_with instr_of
  enter-marks = refl

  -- LEAVE leaves all behind up to the return address
  leave-marks : marks-at (0x30 ∷ 0x34 ∷ 0x35 ∷ 0x36 ∷ []) (stack_by Leave 0x0020 (0x30 ∷ 0x34 ∷ 0x35 ∷ 0x36 ∷ [])) ≡ false ∷ false ∷ false ∷ true ∷ []
  unfolding stack_by marks-at small callee first stack_with state_with instr_of
  leave-marks = refl

  -- a CALL begins a frame whose arguments begin at the top, and a RET ends one
  call-frames : (stack_by (Call 0x0200) 0x0020 []).frames ≡ record { entry = 0x0200; base = 0x30 } ∷ callee ∷ first ∷ []
  unfolding stack_by small callee first stack_with state_with instr_of
  call-frames = refl

  ret-frames : (stack_by (Ret 2) 0x0026 (0x36 ∷ 0x37 ∷ 0x38 ∷ [])).frames ≡ first ∷ []
  unfolding stack_by small callee first stack_with state_with instr_of
  ret-frames = refl

  ret-marks : marks-at (0x36 ∷ 0x37 ∷ 0x38 ∷ 0x39 ∷ 0x3A ∷ []) (stack_by (Ret 2) 0x0026 (0x36 ∷ 0x37 ∷ 0x38 ∷ 0x3A ∷ [])) ≡ false ∷ false ∷ false ∷ false ∷ true ∷ []
  unfolding stack_by marks-at small callee first stack_with state_with instr_of
  ret-marks = refl
