-- Stack heights: by how many bytes SP lies below its value at the entry of a procedure, as trails tell it. A height
-- below 0 says that SP lies above that value.
use Rattle.std.specs.Prelude.{◌≡◌, ◌≢◌, ◌⊎◌, ℕ, ℤ, pos, neg_ℤ, ◌+ℤ◌, ◌-ℤ◌, ◌<ℤ◌, int_lt, Bool, true, false, ◌||◌, List}
use Rattle.std.specs.Prelude.{[], ◌∷◌, Option, Some, None}
use Rattle.dcc_num.specs.declared.Width.TheVariants.{Word as word_width}
use Rattle.dcc_num.specs.declared.Reg.TheVariants.{Sp, Bp}
use Rattle.dcc_num.specs.declared.Half.TheVariants.{Low}
use Rattle.dcc_num.specs.Numbers.{signed_of}
use Rattle.dcc_machine.specs.declared.image.Image.{Image}
use Rattle.dcc_prog.specs.declared.procedure.Layout.{Layout}
use Rattle.dcc_machine.specs.declared.instr.Alu.TheVariants.{Add, Sub}
use Rattle.dcc_machine.specs.declared.instr.Unary.TheVariants.{Inc, Dec}
use Rattle.dcc_machine.specs.declared.instr.Operand.TheVariants.{Word, Const}
use Rattle.dcc_machine.specs.declared.instr.Op.{Op}
use Rattle.dcc_machine.specs.declared.instr.Op.TheVariants.{Alu as AluOp, Unary as UnaryOp, Mov, Lea, Push, Pop, Enter}
use Rattle.dcc_machine.specs.declared.instr.Op.TheVariants.{Leave, Call, Ret}
use Rattle.dcc_machine.specs.Writes.{writes_half}
use Rattle.dcc_prog.specs.Trail.{StandsAt, IsTrail, IsNode}
use Rattle.dcc_machine.specs.SpAndBp.{copies_bp, uses_bp_address}
use Rattle.dcc_prog.specs.FrameForm.{is_framed, is_frame_form}

-- What operations do to the height.

-- by how many bytes a move of SP lowers it; a number below 0 raises it. A constant is taken as a signed word
abbrev pub lowering_of : Op → Option ℤ
lowering_of (AluOp Add (Word Sp) (Const width constant)) = Some (neg_ℤ (signed_of word_width constant))
lowering_of (AluOp Sub (Word Sp) (Const width constant)) = Some (signed_of word_width constant)
lowering_of (UnaryOp Inc (Word Sp)) = Some (neg_ℤ (pos 1))
lowering_of (UnaryOp Dec (Word Sp)) = Some (pos 1)
lowering_of op = None

-- the height that `mov sp,bp`, LEA of SP from BP, ENTER or LEAVE gives in a framed procedure, whatever it was
abbrev pub height_set_by : Op → Option ℤ
height_set_by (Mov (Word Sp) (Word Bp)) = Some (pos 2)
height_set_by (Lea Sp ea) = Some (pos 2 -ℤ signed_of word_width ea.disp)
height_set_by (Enter count) = Some (pos 2 +ℤ pos count)
height_set_by Leave = Some (pos 0)
height_set_by op = None

-- a RET that removes this many bytes is reached from the entry
pub record ReachesRet (image : Image) (layout : Layout) (entry count : ℕ) : Type 0 where
  pub at : ℕ
  pub node : IsNode image layout entry at
  pub stands : StandsAt image layout at (Ret count)

-- a CALL of the procedure with this entry removes so many bytes: those of a RET that is reached, or 0 where none is
pub data IsRemoved (image : Image) (layout : Layout) (entry : ℕ) : ℕ → Type 0 where
  by_ret : {count : ℕ} → ReachesRet image layout entry count → IsRemoved image layout entry count
  without_ret : ((count : ℕ) → ¬ ReachesRet image layout entry count) → IsRemoved image layout entry 0

-- The height after an operation at an offset is the second one, where the height before it is the first. There is none
-- after an operation other than PUSH and POP that writes SP in a form that the procedure hasn't.
pub data MovesHeight (image : Image) (layout : Layout) (entry at : ℕ) : Op → ℤ → ℤ → Type 0 where
  push : {a : _} {height : ℤ} → MovesHeight image layout entry at (Push a) height (height +ℤ pos 2)
  pop : {a : _} {height : ℤ} → MovesHeight image layout entry at (Pop a) height (height -ℤ pos 2)
  call :
      {target count : ℕ} {height : ℤ}
      → IsRemoved image layout target count
      → MovesHeight image layout entry at (Call target) height (height -ℤ pos count)
  move :
      {op : Op} {height bytes : ℤ}
      → lowering_of op ≡ Some bytes
      → MovesHeight image layout entry at op height (height +ℤ bytes)
  set :
      {op : Op} {height after : ℤ}
      → is_frame_form image layout entry at op ≡ true
      → height_set_by op ≡ Some after
      → MovesHeight image layout entry at op height after
  keep :
      {op : Op} {height : ℤ}
      → writes_half op Sp Low ≡ false
      → MovesHeight image layout entry at op height height

-- Heights.

-- a trail gives its last offset a height: 0 at the entry
pub data GivesHeight (image : Image) (layout : Layout) (entry : ℕ) : List ℕ → ℤ → Type 0 where
  entered : GivesHeight image layout entry (entry ∷ []) (pos 0)
  gone_on :
      {at from : ℕ} {before : List ℕ} {op : Op} {height after : ℤ}
      → IsTrail image layout entry (at ∷ from ∷ before)
      → GivesHeight image layout entry (from ∷ before) height
      → StandsAt image layout from op
      → MovesHeight image layout entry from op height after
      → GivesHeight image layout entry (at ∷ from ∷ before) after

-- some trail gives the offset a height
pub record HasHeight (image : Image) (layout : Layout) (entry at : ℕ) (height : ℤ) : Type 0 where
  pub before : List ℕ
  pub gives : GivesHeight image layout entry (at ∷ before) height

-- every trail to the offset gives it this height
abbrev pub IsHeight : Image → Layout → ℕ → ℕ → ℤ → Type 0
IsHeight image layout entry at height =
    (before : List ℕ) → IsTrail image layout entry (at ∷ before) → GivesHeight image layout entry (at ∷ before) height

-- Kind 2, where it rests on a height.

abbrev pub is_above_zero : Option ℤ → Bool
is_above_zero None = false
is_above_zero (Some number) = int_lt (pos 0) number

-- a SUB of a constant from SP
abbrev pub is_sp_sub : Op → Bool
is_sp_sub (AluOp Sub (Word Sp) (Const width constant)) = true
is_sp_sub op = false

-- a PUSH, a CALL, LEAVE, `mov sp,bp` or LEA of SP
abbrev pub is_frame_work : Op → Bool
is_frame_work (Push a) = true
is_frame_work (Call target) = true
is_frame_work Leave = true
is_frame_work (Mov (Word Sp) (Word Bp)) = true
is_frame_work (Lea Sp ea) = true
is_frame_work op = false

-- the operation needs a frame that is set up: PUSH, CALL, LEAVE, `mov sp,bp`, LEA of SP, SUB of a constant from SP, a
-- move of SP that lowers it, `mov r,bp`, and an operand in the frame
abbrev pub needs_frame : Op → Bool
needs_frame op =
    is_frame_work op || is_sp_sub op || is_above_zero (lowering_of op) || copies_bp op || uses_bp_address op

-- In a framed procedure an operation stands at a height at which its form is none: one that needs the frame at height
-- 0, or `pop bp` at another height than 2. What sets the frame up, at the entry, is the one exception.
pub record IsMisplaced (image : Image) (layout : Layout) (entry at : ℕ) : Type 0 where
  pub framed : is_framed image layout entry ≡ true
  pub inner : at ≢ entry
  pub op : Op
  pub stands : StandsAt image layout at op
  pub height : ℤ
  pub has : HasHeight image layout entry at height
  pub misplaced : ((height ≡ pos 0) × (needs_frame op ≡ true)) ⊎ ((op ≡ Pop (Word Bp)) × (height ≢ pos 2))

-- Kind 6: heights that no stack may have.

-- the greatest height of a stack, in bytes
abbrev pub greatest_height : ℕ
greatest_height = 32766

-- SP rises above its value at the entry, or in a framed procedure into the saved BP by another form than `pop bp` and
-- LEAVE
pub data IsTooFar (image : Image) (layout : Layout) (entry : ℕ) (op : Op) (height after : ℤ) : Type 0 where
  above_entry : after <ℤ pos 0 → IsTooFar image layout entry op height after
  into_saved_bp :
      is_framed image layout entry ≡ true
      → op ≢ Pop (Word Bp)
      → op ≢ Leave
      → pos 0 <ℤ height
      → after <ℤ pos 2
      → IsTooFar image layout entry op height after

-- the height at an offset, or after its operation, is none that a stack may have
pub data HasBadHeight (image : Image) (layout : Layout) (entry at : ℕ) : Type 0 where
  two_heights :
      {height other : ℤ}
      → HasHeight image layout entry at height
      → HasHeight image layout entry at other
      → height ≢ other
      → HasBadHeight image layout entry at
  too_far :
      {op : Op} {height after : ℤ}
      → StandsAt image layout at op
      → HasHeight image layout entry at height
      → MovesHeight image layout entry at op height after
      → after <ℤ height
      → IsTooFar image layout entry op height after
      → HasBadHeight image layout entry at
  returns_early :
      {count : ℕ} {height : ℤ}
      → StandsAt image layout at (Ret count)
      → HasHeight image layout entry at height
      → height ≢ pos 0
      → HasBadHeight image layout entry at
  two_sizes :
      {count other : ℕ}
      → IsNode image layout entry at
      → StandsAt image layout at (Ret count)
      → ReachesRet image layout entry other
      → count ≢ other
      → HasBadHeight image layout entry at
  too_great :
      {height : ℤ}
      → HasHeight image layout entry at height
      → pos greatest_height <ℤ height
      → HasBadHeight image layout entry at
  grows_too_great :
      {op : Op} {height after : ℤ}
      → StandsAt image layout at op
      → HasHeight image layout entry at height
      → MovesHeight image layout entry at op height after
      → pos greatest_height <ℤ after
      → HasBadHeight image layout entry at
