-- What the machine's stack is in a clean run of an accepted program: for each procedure that has begun and hasn't
-- returned a frame, in which SP stands at the height that the procedure's trail tells, with the return address and the
-- saved BP where they were stored. Offsets are those of the data segment.
use Rattle.std.specs.Prelude.{◌≡◌, ◌≤◌, ◌⊎◌, ℕ, ◌+◌, ◌-◌, ◌*◌, pos, true, false, List, [], ◌∷◌, map, slice_index, Some}
use Rattle.dcc_num.specs.declared.Reg.TheVariants.{Sp, Bp}
use Rattle.dcc_machine.specs.declared.image.Image.{Image}
use Rattle.dcc_prog.specs.declared.procedure.Layout.{Layout}
use Rattle.dcc_machine.specs.declared.instr.Operand.TheVariants.{Word}
use Rattle.dcc_machine.specs.declared.instr.Op.TheVariants.{Mov, Call}
use Rattle.dcc_machine.specs.declared.instr.Instr.{Instr}
use Rattle.dcc_machine.specs.Machine.{State, word_in, stack_segment, data_segment}
use Rattle.dcc_machine.specs.Code.{HoldsCode}
use Rattle.dcc_machine.specs.StateForm.{IsState}
use Rattle.dcc_machine.specs.Successors.{next_of}
use Rattle.dcc_prog.specs.Trail.{instruction_in, StandsAt}
use Rattle.dcc_prog.specs.FrameForm.{is_framed}
use Rattle.dcc_prog.specs.RunLaws.{HasPassed}
use Rattle.dcc_prog.specs.Clean.{LiveFrame, Stack, is_marked, top_in}
use Rattle.dcc_stack.specs.Accepted.{IsAt}

-- Procedures that have begun.

-- A procedure that has begun and hasn't returned: its frame, where it stands, the offsets that it has passed before,
-- the newest first, and what BP held when it began. The newest one stands at the instruction pointer, each other one
-- at the CALL for whose return it waits.
pub record Activation : Type 0 where
  pub frame : LiveFrame
  pub at : ℕ
  pub before : List ℕ
  pub caller_bp : ℕ

-- the word at an offset of the data segment
abbrev pub word_at : Layout → List ℕ → ℕ → ℕ
word_at layout memory offset =
    slice_index memory (layout.ds * 16 + offset) + 256 * slice_index memory (layout.ds * 16 + offset + 1)

-- What BP holds in a procedure at a height, and what was saved of it. Where a framed procedure stands at its `mov
-- bp,sp`, it may have come there from its first instruction, or again by a jump.
pub data HoldsBp (image : Image) (layout : Layout) (memory : List ℕ) (a : Activation) : ℕ → ℕ → Type 0 where
  -- no frame is set up: BP is the caller's
  outside :
      {height bp : ℕ}
      → ((is_framed image layout a.frame.entry ≡ false) ⊎ (height ≡ 0))
      → bp ≡ a.caller_bp
      → HoldsBp image layout memory a height bp
  -- at `mov bp,sp` the caller's BP is saved; the procedure's own may be set already or not
  at_mov :
      {height bp : ℕ}
      → is_framed image layout a.frame.entry ≡ true
      → height ≡ 2
      → StandsAt image layout a.at (Mov (Word Bp) (Word Sp))
      → word_at layout memory (a.frame.base - 4) ≡ a.caller_bp
      → HoldsBp image layout memory a height bp
  -- the caller's BP is saved, and BP points to where it is
  inside :
      {height bp : ℕ}
      → is_framed image layout a.frame.entry ≡ true
      → 2 ≤ height
      → word_at layout memory (a.frame.base - 4) ≡ a.caller_bp
      → bp + layout.delta + 4 ≡ a.frame.base
      → HoldsBp image layout memory a height bp

-- with SP at this offset, and with this BP, a procedure stands at a height that its trail tells
pub record StandsIn (image : Image) (layout : Layout) (memory : List ℕ) (a : Activation) (top bp : ℕ) : Type 0 where
  pub height : ℕ
  pub is_at : IsAt image layout a.frame.entry a.at a.before (pos height)
  pub top_is : top + 2 + height ≡ a.frame.base
  pub holds : HoldsBp image layout memory a height bp

-- One procedure waits at a CALL of the other, whose arguments begin where SP stood before the CALL. The offset after
-- the CALL stands on the stack. What the waiting one has passed before, a run has passed.
pub record WaitsFor (image : Image) (layout : Layout) (memory : List ℕ) (caller callee : Activation) : Type 0 where
  pub instr : Instr
  pub stands : instruction_in image layout caller.at ≡ Some instr
  pub calls : instr.op ≡ Call callee.frame.entry
  pub return : word_at layout memory (callee.frame.base - 2) ≡ next_of caller.at instr
  pub state : State
  pub passed : HasPassed image layout caller.before state

-- The procedures that have begun, the newest first, with SP and BP of the newest: the first frame is the entry
-- procedure's, each other one begins where its caller stands.
pub data Stand (image : Image) (layout : Layout) (memory : List ℕ) : List Activation → ℕ → ℕ → Type 0 where
  first :
      {a : Activation} {top bp : ℕ}
      → a.frame ≡ record { entry = layout.start_ip; base = layout.hi + 2 }
      → StandsIn image layout memory a top bp
      → Stand image layout memory (a ∷ []) top bp
  called :
      {a caller : Activation} {callers : List Activation} {top bp : ℕ}
      → StandsIn image layout memory a top bp
      → WaitsFor image layout memory caller a
      → Stand image layout memory (caller ∷ callers) a.frame.base a.caller_bp
      → Stand image layout memory (a ∷ caller ∷ callers) top bp

-- The whole.

-- the segments are those of the layout, and the code is in memory
pub record HoldsSegments (image : Image) (layout : Layout) (s : State) : Type 0 where
  pub state : IsState s
  pub code : HoldsCode image layout.code_end s
  pub data_is : data_segment s ≡ layout.ds
  pub stack_is : stack_segment s * 16 ≡ layout.ds * 16 + layout.delta

-- a state of the machine, and the stack that is kept beside it
pub record StackStands (image : Image) (layout : Layout) (s : State) (stack : Stack) : Type 0 where
  pub segments : HoldsSegments image layout s
  pub newest : Activation
  pub callers : List Activation
  pub frames : map (λ (a : Activation). a.frame) (newest ∷ callers) ≡ stack.frames
  pub place : newest.at ≡ s.ip
  pub passed : HasPassed image layout newest.before s
  pub stand : Stand image layout s.memory (newest ∷ callers) (top_in layout s) (word_in s Bp)
  -- SP lies in the stack, and each byte that is written lies there or above
  pub low : layout.lo ≤ top_in layout s
  pub written : (offset : ℕ) → is_marked stack.written offset ≡ true → top_in layout s ≤ offset
