-- What operations in the forms of frames do to the height: one of seven things. Each form but RET does something.
use Rattle.std.proofs.Common.{◌≡◌, ◌≢◌, ◌⊎◌, inl, inr, ℕ, zero, suc, ◌<◌, Bool, true, false, true≢false, ◌||◌, ℤ, pos, ◌+ℤ◌, ◌-ℤ◌, ◌≤ℤ◌, ◌<ℤ◌, Some, refl, sym, ap, ◌∙◌, arith}
use Rattle.std.specs.Prelude.{int_lt}
use Rattle.std.proofs.lemmas.Bool.{and_parts}
use Rattle.std.proofs.lemmas.Bool.Decides.{nat_tests}
use Rattle.std.proofs.lemmas.Int.{ints, by_lt_z}
use Rattle.dcc_num.specs.declared.Width.TheVariants.{Word as word_width}
use Rattle.dcc_num.specs.declared.Reg.TheVariants.{Sp, Bp}
use Rattle.dcc_num.specs.declared.Half.TheVariants.{Low}
use Rattle.dcc_num.specs.Numbers.{signed_of}
use Rattle.dcc_machine.specs.declared.image.Image.{Image}
use Rattle.dcc_prog.specs.declared.procedure.Layout.{Layout}
use Rattle.dcc_machine.specs.declared.instr.Ea.{Ea}
use Rattle.dcc_machine.specs.declared.instr.Alu.TheVariants.{Add, Sub}
use Rattle.dcc_machine.specs.declared.instr.Unary.TheVariants.{Inc, Dec}
use Rattle.dcc_machine.specs.declared.instr.Operand.{Operand}
use Rattle.dcc_machine.specs.declared.instr.Operand.TheVariants.{Word, Const}
use Rattle.dcc_machine.specs.declared.instr.Op.{Op}
use Rattle.dcc_machine.specs.declared.instr.Op.TheVariants.{Alu as AluOp, Unary as UnaryOp, Mov, Lea, Push, Pop, Enter, Leave, Call, Ret}
use Rattle.dcc_machine.specs.SpAndBp.{is_push_bp, is_mov_bp_sp, is_enter, names_sp_or_bp, uses_bp_address, is_sp_move}
use Rattle.dcc_machine.specs.SpAndBp.{is_at_most_zero, is_at_or_below_bp, leaves_frame, copies_bp}
use Rattle.dcc_prog.specs.FrameForm.{is_frame_form}
use Rattle.dcc_prog.specs.Height.{lowering_of, height_set_by, is_above_zero, is_sp_sub, is_frame_work, needs_frame, IsRemoved, MovesHeight, push, pop, call, move, set, keep}
use Rattle.dcc_stack.proofs.FormWords.{IsLeaWord}
use Rattle.dcc_stack.proofs.FormOps.{FormOf, moves, unnamed, leaves, copies, saves, points, enters, unnamed-still, copied-still}

-- What needs the frame.

third-of-five : (a b c d e : Bool) → c ≡ true → (a || b || c || d || e) ≡ true
third-of-five true b c d e is = refl
third-of-five false true c d e is = refl
third-of-five false false true d e is = refl
third-of-five false false false d e is = absurd (true≢false (sym is))

last-of-five : (a b c d e : Bool) → e ≡ true → (a || b || c || d || e) ≡ true
last-of-five true b c d e is = refl
last-of-five false true c d e is = refl
last-of-five false false true d e is = refl
last-of-five false false false true e is = refl
last-of-five false false false false e is = is

pub address-needs : (op : Op) → uses_bp_address op ≡ true → needs_frame op ≡ true
address-needs op uses =
    last-of-five (is_frame_work op) (is_sp_sub op) (is_above_zero (lowering_of op)) (copies_bp op) (uses_bp_address op)
    uses

fourth-of-five : (a b c d e : Bool) → d ≡ true → (a || b || c || d || e) ≡ true
fourth-of-five true b c d e is = refl
fourth-of-five false true c d e is = refl
fourth-of-five false false true d e is = refl
fourth-of-five false false false true e is = refl
fourth-of-five false false false false e is = absurd (true≢false (sym is))

pub copy-needs : (op : Op) → copies_bp op ≡ true → needs_frame op ≡ true
copy-needs op copied =
    fourth-of-five (is_frame_work op) (is_sp_sub op) (is_above_zero (lowering_of op)) (copies_bp op)
    (uses_bp_address op) copied

lowering-needs : (op : Op) (bytes : ℤ) → lowering_of op ≡ Some bytes → pos 0 <ℤ bytes → needs_frame op ≡ true
lowering-needs op bytes is above =
    let test : int_lt (pos 0) bytes ≡ true = grind (arith, ints) in
    third-of-five (is_frame_work op) (is_sp_sub op) (is_above_zero (lowering_of op)) (copies_bp op) (uses_bp_address op)
    (ap is_above_zero is ∙ test)

-- the operation needs the frame, and isn't the `push bp` that sets it up
pub record IsInner (op : Op) : Type 0 where
  pub needs : needs_frame op ≡ true
  pub other : is_push_bp op ≡ false

pub address-other : (op : Op) → uses_bp_address op ≡ true → is_push_bp op ≡ false
address-other (Push (Word Bp)) uses = absurd (true≢false (sym uses))
address-other op uses = refl

pub copy-other : (op : Op) → copies_bp op ≡ true → is_push_bp op ≡ false
copy-other (Push a) copied = absurd (true≢false (sym copied))
copy-other op copied = refl

-- ENTER doesn't need it
pub enter-needs_none : (op : Op) → is_enter op ≡ true → needs_frame op ≡ false
enter-needs_none (Enter count) e = refl
enter-needs_none op e = absurd (true≢false (sym e))

-- What is done.

-- what an operation does to the height
pub data Effect (op : Op) (height after : ℤ) : Type 0 where
  pushes : {a : Operand} → op ≡ Push a → after ≡ height +ℤ pos 2 → Effect op height after
  restores : op ≡ Pop (Word Bp) → after ≡ height -ℤ pos 2 → Effect op height after
  raises : op ≢ Pop (Word Bp) → op ≢ Leave → after <ℤ height → Effect op height after
  lowers : IsInner op → height <ℤ after → Effect op height after
  sets : (IsInner op ⊎ (is_enter op ≡ true)) → pos 2 ≤ℤ after → Effect op height after
  clears : op ≡ Leave → after ≡ pos 0 → Effect op height after
  keeps : after ≡ height → Effect op height after

pop-case : (a : Operand) → (a ≡ Word Bp) ⊎ (Pop a ≢ Pop (Word Bp))
pop-case (Word Bp) = inl refl
pop-case a = inr (λ e. cc)

-- a move of SP
record IsMove (op : Op) : Type 0 where
  other : is_push_bp op ≡ false
  no_pop : op ≢ Pop (Word Bp)
  no_leave : op ≢ Leave

move-of : (op : Op) (bytes : ℤ) → lowering_of op ≡ Some bytes → IsMove op
move-of (AluOp Add (Word Sp) (Const width constant)) bytes e = record { other = refl; no_pop = λ p. cc; no_leave = λ p. cc }
move-of (AluOp Sub (Word Sp) (Const width constant)) bytes e = record { other = refl; no_pop = λ p. cc; no_leave = λ p. cc }
move-of (UnaryOp Inc (Word Sp)) bytes e = record { other = refl; no_pop = λ p. cc; no_leave = λ p. cc }
move-of (UnaryOp Dec (Word Sp)) bytes e = record { other = refl; no_pop = λ p. cc; no_leave = λ p. cc }
move-of op bytes e = let clash = e in cc

moved-effect :
    (op : Op) (height bytes : ℤ) → lowering_of op ≡ Some bytes → Effect op height (height +ℤ bytes)
moved-effect op height bytes e =
    let m = move-of op bytes e in
    by_lt_z bytes (pos 0)
    (λ below. raises m.no_pop m.no_leave (omega (arith, ints, below)))
    (λ above. by_lt_z (pos 0) bytes
    (λ more. lowers (record { needs = lowering-needs op bytes e more; other = m.other }) (omega (arith, ints, more)))
    (λ none. keeps (omega (arith, ints, above, none))))

signed-low : (word : ℕ) → word < 65536 → is_at_most_zero word ≡ true → signed_of word_width word ≤ℤ pos 0
unfolding signed_of
signed-low word small e = grind (arith, ints, nat_tests)

call-effect : (target count : ℕ) (height : ℤ) → Effect (Call target) height (height -ℤ pos count)
call-effect target zero height = keeps (omega (arith, ints))
call-effect target (suc count) height = raises (λ e. cc) (λ e. cc) (omega (arith, ints))

module _ (image : Image) (layout : Layout) (entry at : ℕ) where
  lea-form : (ea : Ea) → FormOf image layout entry at (Lea Sp ea) → is_at_or_below_bp ea ≡ true
  lea-form ea (moves e) = absurd (true≢false (sym e))
  lea-form ea (unnamed e uses) = absurd (true≢false e)
  lea-form ea (leaves framed e) = e
  lea-form ea (copies framed e) = absurd (true≢false (sym e))
  lea-form ea (saves framed e here) = absurd (true≢false (sym e))
  lea-form ea (points begins e here) = absurd (true≢false (sym e))
  lea-form ea (enters framed e here) = absurd (true≢false (sym e))

  set-effect :
      (op : Op) (height after : ℤ) → FormOf image layout entry at op → IsLeaWord op → height_set_by op ≡ Some after
      → Effect op height after
  set-effect (Mov (Word Sp) (Word Bp)) height after form word e =
      let is : pos 2 ≡ after = cc in
      sets (inl (record { needs = refl; other = refl })) (omega (arith, ints, is))
  set-effect (Lea Sp ea) height after form word e =
      let is : (pos 2 -ℤ signed_of word_width ea.disp) ≡ after = cc in
      let low = signed-low ea.disp word (and_parts _ (is_at_most_zero ea.disp) (lea-form ea form)).1 in
      sets (inl (record { needs = refl; other = refl })) (omega (arith, ints, is, low))
  set-effect (Enter count) height after form word e =
      let is : (pos 2 +ℤ pos count) ≡ after = cc in sets (inr refl) (omega (arith, ints, is))
  set-effect Leave height after form word e = let is : pos 0 ≡ after = cc in clears refl (sym is)
  set-effect op height after form word e = let clash = e in cc

  pub effect-of :
      {op : Op} {height after : ℤ} → MovesHeight image layout entry at op height after → FormOf image layout entry at op
      → IsLeaWord op
      → Effect op height after
  effect-of push form word = pushes refl refl
  effect-of (pop {a} {height}) form word =
      elim (pop-case a) [
        | inl same ↦ restores (ap Pop same) refl
        | inr other ↦ raises other (λ e. cc) (omega (arith, ints))
      ]
  effect-of (call {target} {count} {height} is) form word = call-effect target count height
  effect-of (move {op} {height} {bytes} e) form word = moved-effect op height bytes e
  effect-of (set {op} {height} {after} allowed e) form word = set-effect op height after form word e
  effect-of (keep e) form word = keeps refl

  -- Every form but RET leads to a height.

  -- the height after an operation
  pub record Moved (op : Op) (height : ℤ) : Type 0 where
    pub after : ℤ
    pub moves : MovesHeight image layout entry at op height after

  left-moved :
      (op : Op) (height : ℤ) → is_frame_form image layout entry at op ≡ true → leaves_frame op ≡ true
      → Moved op height
  left-moved (Mov (Word Sp) (Word Bp)) height form e = record { after = pos 2; moves = set form refl }
  left-moved (Lea Sp ea) height form e = record { after = _; moves = set form refl }
  left-moved (Pop (Word Bp)) height form e = record { after = _; moves = pop }
  left-moved Leave height form e = record { after = _; moves = set form refl }
  left-moved op height form e = absurd (true≢false (sym e))

  sp-moved : (op : Op) (height : ℤ) → is_sp_move op ≡ true → Moved op height
  sp-moved (AluOp Add (Word Sp) (Const width constant)) height e = record { after = _; moves = move refl }
  sp-moved (AluOp Sub (Word Sp) (Const width constant)) height e = record { after = _; moves = move refl }
  sp-moved (UnaryOp Inc (Word Sp)) height e = record { after = _; moves = move refl }
  sp-moved (UnaryOp Dec (Word Sp)) height e = record { after = _; moves = move refl }
  sp-moved op height e = absurd (true≢false (sym e))

  -- an operation of the stack other than RET, or one that leaves SP
  unnamed-moved :
      (op : Op) (height : ℤ) → ((count : ℕ) → op ≢ Ret count)
      → ((target : ℕ) → op ≡ Call target → (count : ℕ) × IsRemoved image layout target count)
      → names_sp_or_bp op ≡ false
      → Moved op height
  unnamed-moved (Push a) height no_ret removes e = record { after = _; moves = push }
  unnamed-moved (Pop a) height no_ret removes e = record { after = _; moves = pop }
  unnamed-moved (Call target) height no_ret removes e = record { after = _; moves = call (removes target refl).1 }
  unnamed-moved (Ret count) height no_ret removes e = absurd (no_ret count refl)
  unnamed-moved (Enter count) height no_ret removes e = absurd (true≢false e)
  unnamed-moved Leave height no_ret removes e = absurd (true≢false e)
  unnamed-moved op height no_ret removes e =
      record { after = height; moves = keep (unnamed-still Sp Low refl op e refl) }

  saved-moved : (op : Op) (height : ℤ) → is_push_bp op ≡ true → Moved op height
  saved-moved (Push a) height e = record { after = _; moves = push }
  saved-moved op height e = absurd (true≢false (sym e))

  pointed-moved : (op : Op) (height : ℤ) → is_mov_bp_sp op ≡ true → Moved op height
  pointed-moved (Mov (Word Bp) (Word Sp)) height e = record { after = height; moves = keep refl }
  pointed-moved op height e = absurd (true≢false (sym e))

  entered-moved :
      (op : Op) (height : ℤ) → is_frame_form image layout entry at op ≡ true → is_enter op ≡ true → Moved op height
  entered-moved (Enter count) height form e = record { after = _; moves = set form refl }
  entered-moved op height form e = absurd (true≢false (sym e))

  pub moved-of :
      (op : Op) (height : ℤ) → is_frame_form image layout entry at op ≡ true → FormOf image layout entry at op
      → ((count : ℕ) → op ≢ Ret count)
      → ((target : ℕ) → op ≡ Call target → (count : ℕ) × IsRemoved image layout target count)
      → Moved op height
  moved-of op height allowed (moves e) no_ret removes = sp-moved op height e
  moved-of op height allowed (unnamed e uses) no_ret removes = unnamed-moved op height no_ret removes e
  moved-of op height allowed (leaves framed e) no_ret removes = left-moved op height allowed e
  moved-of op height allowed (copies framed e) no_ret removes =
      record { after = height; moves = keep (copied-still Sp Low refl op e) }
  moved-of op height allowed (saves framed e here) no_ret removes = saved-moved op height e
  moved-of op height allowed (points begins e here) no_ret removes = pointed-moved op height e
  moved-of op height allowed (enters framed e here) no_ret removes = entered-moved op height allowed e
