-- Which steps of a run are clean. A text's functions have variables where the machine has one stack for all; so a
-- step is clean where it uses the stack as functions use their variables: it leaves SP in the stack, reaches the
-- bytes of a frame by pushes, pops, calls, returns and direct accesses, or where the frame exposes them, and reads
-- what was written. Offsets are those of the data segment.
use Rattle.std.specs.Prelude.{ℕ, ◌+◌, ◌-◌, ◌*◌, ◌==◌, nat_le, ℤ, pos, ◌+ℤ◌, ◌-ℤ◌, neg_ℤ, int_le, int_lt, Bool, true}
use Rattle.std.specs.Prelude.{false, not, ◌&&◌, ◌||◌, if◌then◌else◌, List, [], ◌∷◌, drop, replicate, flat_map}
use Rattle.std.specs.Prelude.{slice_get, slice_set, Option, Some, None, option_map}
use Rattle.std.specs.List.{range_with_len, find, filter, filter_map}
use Rattle.dcc_num.specs.declared.Width.TheVariants.{Word as word_width}
use Rattle.dcc_num.specs.declared.Reg.TheVariants.{Sp, Bp}
use Rattle.dcc_num.specs.Numbers.{signed_of, wrapped_of}
use Rattle.dcc_prog.specs.declared.procedure.Layout.{Layout}
use Rattle.dcc_prog.specs.declared.procedure.Proc.{Proc}
use Rattle.dcc_prog.specs.declared.frame.Frame.{Frame}
use Rattle.dcc_prog.specs.declared.frame.Program.{Program}
use Rattle.dcc_prog.specs.declared.watch.FoulKind.{FoulKind}
use Rattle.dcc_prog.specs.declared.watch.FoulKind.TheVariants.{Low, Hidden, Unwritten}
use Rattle.dcc_machine.specs.declared.instr.Operand.TheVariants.{Word}
use Rattle.dcc_machine.specs.declared.instr.Op.{Op}
use Rattle.dcc_machine.specs.declared.instr.Op.TheVariants.{Mov, Lea, Push, Pop, Enter, Leave, Call, Ret}
use Rattle.dcc_machine.specs.declared.instr.Instr.{Instr}
use Rattle.dcc_machine.specs.Machine.{State, word_in}
use Rattle.dcc_prog.specs.Height.{lowering_of}
use Rattle.dcc_machine.specs.Access.{Reading, Writing, OfStack, OfFrame, Other, Access, addresses_of, found_accesses}

-- Frames that live.

-- a procedure that has begun and hasn't returned: its entry, and the offset of its first argument
pub record LiveFrame : Type 0 where
  pub entry : ℕ
  pub base : ℕ

-- what is kept of the stack beside the machine: the frames that live, the newest first, and for each offset whether a
-- step has stored a byte there since SP last left it behind
pub record Stack : Type 0 where
  pub frames : List LiveFrame
  pub written : List Bool

-- the frame of the procedure with this entry
abbrev pub frame_in : List Proc → List Frame → ℕ → Option Frame
frame_in (proc ∷ procs) (frame ∷ frames) entry = if proc.entry == entry then Some frame else frame_in procs frames entry
frame_in _ _ entry = None

abbrev pub frame_of : Program → LiveFrame → Option Frame
frame_of program live = frame_in program.procs.items program.cells.frames.items live.entry

-- the offset after a frame's arguments
abbrev pub end_of : Program → LiveFrame → ℕ
end_of program live = elim (frame_of program live) [ None ↦ live.base | Some frame ↦ live.base + 2 * frame.args ]

-- The newest frame that holds an offset. A frame's part reaches from where SP stands, the first number, up to the end
-- of its arguments. For a frame that waits for a call that is where SP stood just before it: the base of the next
-- newer frame.
abbrev pub owner : Program → ℕ → List LiveFrame → ℕ → Option LiveFrame
owner program low [] offset = None
owner program low (live ∷ older) offset =
    if nat_le low offset && not (nat_le (end_of program live) offset) then Some live
    else owner program live.base older offset

-- a frame exposes the byte at so many bytes from its base less 4: below BP, or in its arguments
abbrev pub exposes : Frame → ℤ → Bool
exposes frame k =
    (int_le (neg_ℤ (pos frame.exposed.local)) k && int_lt k (pos 0))
    || elim frame.exposed.arg [
      | None ↦ false
      | Some least ↦ int_le (pos least) k && int_lt k (pos (4 + 2 * frame.args))
    ]

-- the frame that holds the offset exposes it; what no frame holds is not exposed
abbrev pub exposed_by : Program → LiveFrame → ℕ → Bool
exposed_by program live offset =
    elim (frame_of program live) [ None ↦ false | Some frame ↦ exposes frame (pos (offset + 4) -ℤ pos live.base) ]

abbrev pub is_exposed_byte : Program → ℕ → List LiveFrame → ℕ → Bool
is_exposed_byte program low frames offset =
    elim (owner program low frames offset) [ None ↦ false | Some live ↦ exposed_by program live offset ]

-- the offset of SP, which lies in the stack segment
abbrev pub top_in : Layout → State → ℕ
top_in layout s = word_in s Sp + layout.delta

-- The stack's bytes.

-- the offset of a stack byte by its physical address, if it is one
abbrev pub stack_offset : Layout → ℕ → Option ℕ
stack_offset layout address =
    if nat_le (layout.ds * 16 + layout.lo) address && not (nat_le (layout.ds * 16 + layout.hi) address) then
    Some (address - layout.ds * 16)
    else None

-- the offsets of the stack bytes that accesses touch, in their order
abbrev pub stack_bytes : Layout → List Access → List ℕ
stack_bytes layout list = filter_map (stack_offset layout) (flat_map addresses_of list)

-- an access that may touch exposed bytes alone
abbrev pub is_other : Access → Bool
is_other access = elim access.kind [ OfStack ↦ false | OfFrame ↦ false | Other ↦ true ]

abbrev pub is_reading : Access → Bool
is_reading access = elim access.direction [ Reading ↦ true | Writing ↦ false ]

-- the mark at an offset
abbrev pub is_marked : List Bool → ℕ → Bool
is_marked marks offset = elim (slice_get marks offset) [ None ↦ false | Some mark ↦ mark ]

-- SP.

abbrev pub lowered_by : Option ℤ → ℤ
lowered_by None = pos 0
lowered_by (Some bytes) = bytes

-- SP after an operation, as a number that may be below 0
abbrev pub sp_after : Op → State → ℤ
sp_after (Push a) s = pos (word_in s Sp) -ℤ pos 2
sp_after (Pop a) s = pos (word_in s Sp + 2)
sp_after (Call target) s = pos (word_in s Sp) -ℤ pos 2
sp_after (Ret count) s = pos (word_in s Sp + 2 + count)
sp_after (Enter count) s = pos (word_in s Sp) -ℤ pos (2 + count)
sp_after Leave s = pos (word_in s Bp + 2)
sp_after (Mov (Word Sp) (Word Bp)) s = pos (word_in s Bp)
sp_after (Lea Sp ea) s = pos (word_in s Bp) +ℤ signed_of word_width ea.disp
sp_after op s = pos (word_in s Sp) -ℤ lowered_by (lowering_of op)

-- SP would fall below 0, or below the low end of the stack
abbrev pub is_low : Layout → ℤ → Bool
is_low layout sp = int_lt sp (pos 0) || int_lt (sp +ℤ pos layout.delta) (pos layout.lo)

-- Foul steps.

-- a step that is not clean: where its instruction stands, in which way, and the first byte of which this is so
pub record Foul : Type 0 where
  pub at : ℕ
  pub kind : FoulKind
  pub address : ℕ

-- the step at an offset is foul in one way, if there is such a byte
abbrev pub foul_as : ℕ → FoulKind → Option ℕ → Option Foul
foul_as at kind byte = option_map (λ address. record { at = at; kind = kind; address = address }) byte

abbrev pub or_else : Option Foul → Option Foul → Option Foul
or_else None other = other
or_else (Some foul) other = Some foul

-- where SP would go, if that is too low
abbrev pub low_of : Layout → ℤ → Option ℕ
low_of layout sp = if is_low layout sp then Some (wrapped_of word_width (sp +ℤ pos layout.delta)) else None

-- the first byte that an access touches and that the frame which holds it doesn't expose, or no frame holds, but for
-- accesses of the stack and of frames
abbrev pub hidden_of : Program → Stack → State → List Access → Option ℕ
hidden_of program stack s list =
    find (λ offset. not (is_exposed_byte program (top_in program.layout s) stack.frames offset))
    (stack_bytes program.layout (filter is_other list))

-- the first byte that is read and not written
abbrev pub unwritten_of : Layout → Stack → List Access → Option ℕ
unwritten_of layout stack list =
    find (λ offset. not (is_marked stack.written offset)) (stack_bytes layout (filter is_reading list))

-- what is foul of the step of an instruction, if one was found, with the stack before it: that it is too low comes
-- first, then hidden bytes of all its accesses, then unwritten ones
abbrev pub foul_of : Program → Stack → State → Option Instr → Option Foul
foul_of program stack s None = None
foul_of program stack s (Some instr) =
    or_else (foul_as s.ip Low (low_of program.layout (sp_after instr.op s)))
    (or_else (foul_as s.ip Hidden (hidden_of program stack s (found_accesses (Some instr) s)))
    (foul_as s.ip Unwritten (unwritten_of program.layout stack (found_accesses (Some instr) s))))

-- The stack after a step.

-- a CALL begins a frame, whose arguments begin where SP stands before it, and a RET ends one
abbrev pub frames_after : Op → ℕ → List LiveFrame → List LiveFrame
frames_after (Call target) top frames = (record { entry = target; base = top }) ∷ frames
frames_after (Ret count) top frames = drop 1 frames
frames_after op top frames = frames

-- the marks after the offsets were marked, or after their marks were taken off
abbrev pub with_marks : Bool → List ℕ → List Bool → List Bool
with_marks mark [] marks = marks
with_marks mark (offset ∷ rest) marks = with_marks mark rest (slice_set marks offset mark)

-- the bytes of the stack that a list of accesses stores
abbrev pub stored_bytes : Layout → List Access → List ℕ
stored_bytes layout list = stack_bytes layout (filter (λ access. not (is_reading access)) list)

-- The marks of written bytes after a step: the bytes that the step stores are written; after that the bytes that SP
-- rises past, from its offset before the step up to the one after it, are so no longer. A word that is popped into
-- itself is not written afterwards.
abbrev pub written_after : Layout → List Access → ℕ → ℕ → List Bool → List Bool
written_after layout list from to written =
    with_marks false (range_with_len from (to - from)) (with_marks true (stored_bytes layout list) written)

-- the stack after the step of an instruction, if one was found, from one state to another
abbrev pub stack_after : Layout → Option Instr → State → State → Stack → Stack
stack_after layout None s t stack = stack
stack_after layout (Some instr) s t stack = record {
  frames = frames_after instr.op (top_in layout s) stack.frames;
  written = written_after layout (found_accesses (Some instr) s) (top_in layout s) (top_in layout t) stack.written;
}

-- the stack where the entry procedure begins: nothing is written
abbrev pub first_stack : Layout → State → Stack
first_stack layout s = record {
  frames = (record { entry = layout.start_ip; base = top_in layout s + 2 }) ∷ [];
  written = replicate 65536 false;
}
