-- What operations do to the height: as it is computed, so it is defined.
use Rattle.std.proofs.Common.{◌≡◌, ◌≢◌, ◌⊎◌, inl, inr, ℕ, ◌==◌, Bool, true, false, true≢false, not, ◌&&◌, ◌||◌, ℤ, pos, ◌+ℤ◌, ◌-ℤ◌, Option, Some, None, unwrap_or, refl, sym, ap, ◌∙◌}
use Rattle.dcc_num.specs.declared.Reg.TheVariants.{Sp, Bp}
use Rattle.dcc_num.specs.declared.Half.TheVariants.{Low}
use Rattle.dcc_machine.specs.declared.image.Image.{Image}
use Rattle.dcc_prog.specs.declared.procedure.Layout.{Layout}
use Rattle.dcc_machine.specs.declared.instr.Alu.TheVariants.{Add, Sub}
use Rattle.dcc_machine.specs.declared.instr.Unary.TheVariants.{Inc, Dec}
use Rattle.dcc_machine.specs.declared.instr.Operand.TheVariants.{Word, Const}
use Rattle.dcc_machine.specs.declared.instr.Op.{Op}
use Rattle.dcc_machine.specs.declared.instr.Op.TheVariants.{Alu as AluOp, Unary as UnaryOp, Mov, Lea, Push, Pop, Enter, Leave, Call, Ret}
use Rattle.dcc_machine.specs.Writes.{writes_half}
use Rattle.dcc_prog.specs.Trail.{instruction_in}
use Rattle.dcc_machine.specs.SpAndBp.{is_push_bp, is_mov_bp_sp, is_enter, names_sp_or_bp, uses_bp_address, is_sp_move}
use Rattle.dcc_machine.specs.SpAndBp.{leaves_frame, copies_bp}
use Rattle.dcc_prog.specs.FrameForm.{begins_by_push, second_of, is_framed, makes_frame, is_frame_form}
use Rattle.dcc_prog.specs.Height.{lowering_of, height_set_by, IsRemoved, MovesHeight, push, pop, call, move, set, keep}
use Rattle.dcc_stack.proofs.FormOps.{is_stack_op, unnamed-still, copied-still}
use Rattle.dcc_heights.specs.Moves.{moved_by, height_after}

-- Tests.

pub or-true : (a b : Bool) → (a || b) ≡ true → (a ≡ true) ⊎ (b ≡ true)
or-true true b e = inl refl
or-true false b e = inr e

pub and-left : (a b : Bool) → (a && b) ≡ true → a ≡ true
and-left true b e = refl
and-left false b e = e

pub and-right : (a b : Bool) → (a && b) ≡ true → b ≡ true
and-right true b e = e
and-right false b e = absurd (true≢false (sym e))

pub not-true : (a : Bool) → not a ≡ true → a ≡ false
not-true true e = absurd (true≢false (sym e))
not-true false e = refl

pub or-false-left : (a b : Bool) → (a || b) ≡ false → a ≡ false
or-false-left true b e = e
or-false-left false b e = refl

pub or-false-right : (a b : Bool) → (a || b) ≡ false → b ≡ false
or-false-right true b e = absurd (true≢false e)
or-false-right false b e = e

and-false : (a b : Bool) → b ≡ false → (a && b) ≡ false
and-false true b e = e
and-false false b e = refl

-- The forms in which SP and BP may be used.

pub data FormCase (op : Op) : Type 0 where
  moves : is_sp_move op ≡ true → FormCase op
  unnamed : names_sp_or_bp op ≡ false → FormCase op
  leaves : leaves_frame op ≡ true → FormCase op
  copies : copies_bp op ≡ true → FormCase op
  pushes : is_push_bp op ≡ true → FormCase op
  takes : is_mov_bp_sp op ≡ true → FormCase op
  enters : is_enter op ≡ true → FormCase op

one-made :
    (begins first here second there enter : Bool)
    → ((begins && ((first && here) || (second && there))) || (enter && here)) ≡ true
    → (first ≡ true) ⊎ ((second ≡ true) ⊎ (enter ≡ true))
one-made begins true here second there enter e = inl refl
one-made begins false here true there enter e = inr (inl refl)
one-made begins false here false there true e = inr (inr refl)
one-made true false here false there false e = absurd (true≢false (sym e))
one-made false false here false there false e = absurd (true≢false (sym e))

one-form :
    (moved named uses framed left copied made : Bool)
    → (moved || (not named && not uses) || (framed && (left || copied || made || (not named && uses)))) ≡ true
    → (moved ≡ true) ⊎ ((named ≡ false) ⊎ ((left ≡ true) ⊎ ((copied ≡ true) ⊎ (made ≡ true))))
one-form true named uses framed left copied made e = inl refl
one-form false false uses framed left copied made e = inr (inl refl)
one-form false true uses framed true copied made e = inr (inr (inl refl))
one-form false true uses framed false true made e = inr (inr (inr (inl refl)))
one-form false true uses framed false false true e = inr (inr (inr (inr refl)))
one-form false true uses true false false false e = absurd (true≢false (sym e))
one-form false true uses false false false false e = absurd (true≢false (sym e))

module _ (image : Image) (layout : Layout) (entry at : ℕ) (op : Op) where
  makes-case : makes_frame image layout entry at op ≡ true → FormCase op
  makes-case e =
      elim (one-made (begins_by_push image layout entry) (is_push_bp op) (at == entry) (is_mov_bp_sp op)
      (at == second_of entry (instruction_in image layout entry)) (is_enter op) e) [
        | inl first ↦ pushes first
        | inr rest ↦ elim rest [ inl second ↦ takes second | inr enter ↦ enters enter ]
      ]

  pub form-case : is_frame_form image layout entry at op ≡ true → FormCase op
  form-case e =
      elim (one-form (is_sp_move op) (names_sp_or_bp op) (uses_bp_address op) (is_framed image layout entry)
      (leaves_frame op) (copies_bp op) (makes_frame image layout entry at op) e) [
        | inl moved ↦ moves moved
        | inr rest ↦ elim rest [
          | inl plain ↦ unnamed plain
          | inr rest ↦ elim rest [
            | inl left ↦ leaves left
            | inr rest ↦ elim rest [ inl copied ↦ copies copied | inr made ↦ makes-case made ]
          ]
        ]
      ]

-- Operations that leave SP.

taken-still : (op : Op) → is_mov_bp_sp op ≡ true → writes_half op Sp Low ≡ false
taken-still (Mov (Word Bp) (Word Sp)) e = refl
taken-still op e = absurd (true≢false (sym e))

-- Operations that set or move it.

move-lowers : (op : Op) → is_sp_move op ≡ true → lowering_of op ≡ None → ⊥
move-lowers (AluOp Add (Word Sp) (Const width constant)) m none = let clash = none in cc
move-lowers (AluOp Sub (Word Sp) (Const width constant)) m none = let clash = none in cc
move-lowers (UnaryOp Inc (Word Sp)) m none = let clash = none in cc
move-lowers (UnaryOp Dec (Word Sp)) m none = let clash = none in cc
move-lowers op m none = absurd (true≢false (sym m))

leaves-sets : (op : Op) → leaves_frame op ≡ true → is_stack_op op ≡ false → height_set_by op ≡ None → ⊥
leaves-sets (Mov (Word Sp) (Word Bp)) e s none = let clash = none in cc
leaves-sets (Lea Sp ea) e s none = let clash = none in cc
leaves-sets (Pop (Word Bp)) e s none = absurd (true≢false s)
leaves-sets Leave e s none = let clash = none in cc
leaves-sets op e s none = absurd (true≢false (sym e))

enters-sets : (op : Op) → is_enter op ≡ true → height_set_by op ≡ None → ⊥
enters-sets (Enter count) e none = let clash = none in cc
enters-sets op e none = absurd (true≢false (sym e))

pushes-stack : (op : Op) → is_push_bp op ≡ true → is_stack_op op ≡ true
pushes-stack (Push a) e = refl
pushes-stack op e = absurd (true≢false (sym e))

-- a form that neither moves SP nor sets it leaves it as it is
still :
    (op : Op) → FormCase op → is_stack_op op ≡ false → lowering_of op ≡ None → height_set_by op ≡ None
    → writes_half op Sp Low ≡ false
still op (moves m) s low none = absurd (move-lowers op m low)
still op (unnamed e) s low none = unnamed-still Sp Low refl op e s
still op (leaves e) s low none = absurd (leaves-sets op e s none)
still op (copies e) s low none = copied-still Sp Low refl op e
still op (pushes e) s low none = absurd (true≢false (sym (pushes-stack op e) ∙ s))
still op (takes e) s low none = taken-still op e
still op (enters e) s low none = absurd (enters-sets op e none)

still-lowering : (op : Op) → writes_half op Sp Low ≡ false → lowering_of op ≡ None
still-lowering (AluOp Add (Word Sp) (Const width constant)) e = absurd (true≢false e)
still-lowering (AluOp Sub (Word Sp) (Const width constant)) e = absurd (true≢false e)
still-lowering (UnaryOp Inc (Word Sp)) e = absurd (true≢false e)
still-lowering (UnaryOp Dec (Word Sp)) e = absurd (true≢false e)
still-lowering op e = refl

still-set : (op : Op) → writes_half op Sp Low ≡ false → height_set_by op ≡ None
still-set (Mov (Word Sp) (Word Bp)) e = absurd (true≢false e)
still-set (Lea Sp ea) e = absurd (true≢false e)
still-set (Enter count) e = absurd (true≢false e)
still-set Leave e = absurd (true≢false e)
still-set op e = refl

-- The height after an operation.

module _ (removed : ℕ → ℕ) (height : ℤ) where
  moved-after :
      (op : Op) (bytes : ℤ) → lowering_of op ≡ Some bytes → height_after removed op height ≡ height +ℤ bytes
  moved-after (Push a) bytes e = let clash = e in cc
  moved-after (Pop a) bytes e = let clash = e in cc
  moved-after (Call target) bytes e = let clash = e in cc
  moved-after op bytes e = ap (λ low. moved_by low (height_set_by op) height) e

  set-after : (op : Op) (after : ℤ) → height_set_by op ≡ Some after → height_after removed op height ≡ after
  set-after (Push a) after e = let clash = e in cc
  set-after (Pop a) after e = let clash = e in cc
  set-after (Call target) after e = let clash = e in cc
  set-after (AluOp operation a b) after e = let clash = e in cc
  set-after (UnaryOp operation a) after e = let clash = e in cc
  set-after op after e = ap (λ s. unwrap_or s height) e

  kept-after : (op : Op) → writes_half op Sp Low ≡ false → height_after removed op height ≡ height
  kept-after (Push a) e = absurd (true≢false e)
  kept-after (Pop a) e = absurd (true≢false e)
  kept-after (Call target) e = absurd (true≢false e)
  kept-after op e =
      ap (λ low. moved_by low (height_set_by op) height) (still-lowering op e)
      ∙ ap (λ s. unwrap_or s height) (still-set op e)

module _ (image : Image) (layout : Layout) (removed : ℕ → ℕ) (entry at : ℕ) where
  -- an operation in a form that is allowed, but a RET, leads to the height that is computed
  other-moves :
      (op : Op) (height : ℤ) (low set_to : Option ℤ) → lowering_of op ≡ low → height_set_by op ≡ set_to
      → is_frame_form image layout entry at op ≡ true → is_stack_op op ≡ false
      → MovesHeight image layout entry at op height (moved_by low set_to height)
  other-moves op height (Some bytes) set_to low_is set_is form s = move low_is
  other-moves op height None (Some after) low_is set_is form s = set form set_is
  other-moves op height None None low_is set_is form s =
      keep (still op (form-case image layout entry at op form) s low_is set_is)

  pub moves-so :
      (op : Op) (height : ℤ) → is_frame_form image layout entry at op ≡ true → ((count : ℕ) → op ≢ Ret count)
      → ((target : ℕ) → op ≡ Call target → IsRemoved image layout target (removed target))
      → MovesHeight image layout entry at op height (height_after removed op height)
  moves-so (Push a) height form no_ret calls = push
  moves-so (Pop a) height form no_ret calls = pop
  moves-so (Call target) height form no_ret calls = call (calls target refl)
  moves-so (Ret count) height form no_ret calls = absurd (no_ret count refl)
  moves-so op height form no_ret calls =
      other-moves op height (lowering_of op) (height_set_by op) refl refl form refl

  -- an operation leads to no other height than the one that is computed
  pub moves-once :
      (op : Op) (height after : ℤ) → MovesHeight image layout entry at op height after
      → ((target count : ℕ) → op ≡ Call target → IsRemoved image layout target count → count ≡ removed target)
      → after ≡ height_after removed op height
  moves-once _ height _ push calls = refl
  moves-once _ height _ pop calls = refl
  moves-once _ height _ (call {target} {count} is) calls =
      ap (λ n. height -ℤ pos n) (calls target count refl is)
  moves-once op height _ (move {bytes = bytes} e) calls = sym (moved-after removed height op bytes e)
  moves-once op height after (set form e) calls = sym (set-after removed height op after e)
  moves-once op height _ (keep e) calls = sym (kept-after removed height op e)
