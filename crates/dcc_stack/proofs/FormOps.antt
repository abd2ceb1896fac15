-- Operations in the forms in which a procedure may use SP and BP: which of these an operation has, what it writes, and
-- what it does to the height.
use Rattle.std.proofs.Common.{◌≡◌, ◌⊎◌, inl, inr, ℕ, ◌==◌, Bool, true, false, true≢false, not, ◌&&◌, ◌||◌, refl, sym, ap, ◌∙◌}
use Rattle.std.proofs.lemmas.Bool.{or_cases, and_parts, or_parts, or_left, and_left, eqb-true}
use Rattle.dcc_num.specs.declared.Width.{Width}
use Rattle.dcc_num.specs.declared.Width.TheVariants.{Byte as byte_width, Word as word_width}
use Rattle.dcc_num.specs.declared.Reg.{Reg}
use Rattle.dcc_num.specs.declared.Reg.TheVariants.{Ax, Cx, Dx, Sp, Bp}
use Rattle.dcc_num.specs.declared.Half.{Half}
use Rattle.dcc_num.specs.declared.Half.TheVariants.{Low, High}
use Rattle.dcc_machine.specs.declared.image.Image.{Image}
use Rattle.dcc_prog.specs.declared.procedure.Layout.{Layout}
use Rattle.dcc_machine.specs.declared.instr.Unary.{Unary}
use Rattle.dcc_machine.specs.declared.instr.Unary.TheVariants.{Mul, Imul, Div, Idiv}
use Rattle.dcc_machine.specs.declared.instr.Plain.{Plain}
use Rattle.dcc_machine.specs.declared.instr.Plain.TheVariants.{Cbw, Cwd, Xlat}
use Rattle.dcc_machine.specs.declared.instr.Operand.{Operand}
use Rattle.dcc_machine.specs.declared.instr.Operand.TheVariants.{Word, Byte}
use Rattle.dcc_machine.specs.declared.instr.Op.{Op}
use Rattle.dcc_machine.specs.declared.instr.Op.TheVariants.{Alu as AluOp, Unary as UnaryOp, Shift as ShiftOp, Mov, Xchg, Lea, Imul3, Push, Pop, Enter, Leave, Plain as PlainOp, Loop, LoopE, LoopNe, Call, Ret, Int21}
use Rattle.dcc_machine.specs.Writes.{is_same_register, is_same_half, is_half_of, writes_operand, is_in_pair, unary_writes_half, plain_writes_half, writes_half}
use Rattle.dcc_machine.specs.Machine.{operand_width, is_general}
use Rattle.dcc_prog.specs.Trail.{instruction_in}
use Rattle.dcc_machine.specs.SpAndBp.{is_push_bp, is_mov_bp_sp, is_enter, is_sp_or_bp, names_sp_or_bp, uses_bp_address}
use Rattle.dcc_machine.specs.SpAndBp.{is_sp_move, leaves_frame, copies_bp}
use Rattle.dcc_prog.specs.FrameForm.{begins_by_push, stands_enter, second_of, is_framed, makes_frame, is_frame_form}

-- The forms.

-- which form an operation at an offset of a procedure has
pub data FormOf (image : Image) (layout : Layout) (entry at : ℕ) (op : Op) : Type 0 where
  moves : is_sp_move op ≡ true → FormOf image layout entry at op
  unnamed :
      names_sp_or_bp op ≡ false
      → (uses_bp_address op ≡ true → is_framed image layout entry ≡ true)
      → FormOf image layout entry at op
  leaves : is_framed image layout entry ≡ true → leaves_frame op ≡ true → FormOf image layout entry at op
  copies : is_framed image layout entry ≡ true → copies_bp op ≡ true → FormOf image layout entry at op
  saves : is_framed image layout entry ≡ true → is_push_bp op ≡ true → at ≡ entry → FormOf image layout entry at op
  points :
      begins_by_push image layout entry ≡ true
      → is_mov_bp_sp op ≡ true
      → at ≡ second_of entry (instruction_in image layout entry)
      → FormOf image layout entry at op
  enters : is_framed image layout entry ≡ true → is_enter op ≡ true → at ≡ entry → FormOf image layout entry at op

-- what is true of one that is not named, and of one that is
one-form :
    (moved named uses framed others : Bool)
    → (moved || (not named && not uses) || (framed && (others || (not named && uses)))) ≡ true
    → (moved ≡ true) ⊎ (((named ≡ false) × (uses ≡ true → framed ≡ true)) ⊎ ((framed ≡ true) × (others ≡ true)))
one-form true named uses framed others e = inl refl
one-form false false false framed others e = inr (inl (refl, λ used. absurd (true≢false (sym used))))
one-form false false true true others e = inr (inl (refl, λ used. refl))
one-form false false true false others e = absurd (true≢false (sym e))
one-form false true uses true true e = inr (inr (refl, refl))
one-form false true uses true false e = absurd (true≢false (sym e))
one-form false true uses false others e = absurd (true≢false (sym e))

module _ (image : Image) (layout : Layout) (entry at : ℕ) (op : Op) where
  made-form :
      is_framed image layout entry ≡ true → makes_frame image layout entry at op ≡ true
      → FormOf image layout entry at op
  made-form framed e =
      let begins : Bool = begins_by_push image layout entry in
      let second : Bool = at == second_of entry (instruction_in image layout entry) in
      let made : Bool = (is_push_bp op && at == entry) || (is_mov_bp_sp op && second) in
      elim (or_cases (begins && made) (is_enter op && at == entry) e) [
        | inl pushed ↦
            let both = and_parts begins made pushed in
            elim (or_cases (is_push_bp op && at == entry) (is_mov_bp_sp op && second) both.1) [
              | inl first ↦
                  let here = and_parts (is_push_bp op) (at == entry) first in
                  saves framed here.0 (eqb-true at entry here.1)
              | inr next ↦
                  let here = and_parts (is_mov_bp_sp op) second next in points both.0 here.0 (eqb-true at _ here.1)
            ]
        | inr entered ↦
            let here = and_parts (is_enter op) (at == entry) entered in enters framed here.0 (eqb-true at entry here.1)
      ]

  pub form-of : is_frame_form image layout entry at op ≡ true → FormOf image layout entry at op
  form-of e =
      let made : Bool = makes_frame image layout entry at op in
      elim (one-form (is_sp_move op) (names_sp_or_bp op) (uses_bp_address op) (is_framed image layout entry)
      (leaves_frame op || copies_bp op || made) e) [
        | inl moved ↦ moves moved
        | inr rest ↦ elim rest [
          | inl plain ↦ unnamed plain.0 plain.1
          | inr other ↦
              elim (or_cases (leaves_frame op || copies_bp op) made other.1) [
                | inl given ↦
                    elim (or_cases (leaves_frame op) (copies_bp op) given) [
                      | inl left ↦ leaves other.0 left
                      | inr copied ↦ copies other.0 copied
                    ]
                | inr is ↦ made-form other.0 is
              ]
        ]
      ]

  pub begins-framed : begins_by_push image layout entry ≡ true → is_framed image layout entry ≡ true
  begins-framed e = or_left (begins_by_push image layout entry) (stands_enter (instruction_in image layout entry)) e

-- What is written.

-- SP and BP are no general registers
apart : (r q : Reg) → is_general r ≡ false → is_general q ≡ true → is_same_register r q ≡ false
apart r Sp one other = absurd (true≢false (sym other))
apart r Bp one other = absurd (true≢false (sym other))
apart Sp q one other = refl
apart Bp q one other = refl
apart r q one other = absurd (true≢false one)

general : (q : Reg) → is_sp_or_bp (Word q) ≡ false → is_general q ≡ true
general Sp e = absurd (true≢false e)
general Bp e = absurd (true≢false e)
general q e = refl

general-byte : (q : Reg) (half : Half) → is_sp_or_bp (Byte q half) ≡ false → is_general q ≡ true
general-byte Sp half e = absurd (true≢false e)
general-byte Bp half e = absurd (true≢false e)
general-byte q half e = refl

-- PUSH, POP, CALL or RET
abbrev pub is_stack_op : Op → Bool
is_stack_op (Push a) = true
is_stack_op (Pop a) = true
is_stack_op (Call target) = true
is_stack_op (Ret count) = true
is_stack_op op = false

module _ (r : Reg) (half : Half) (no : is_general r ≡ false) where
  operand-still : (a : Operand) → is_sp_or_bp a ≡ false → is_half_of r half a ≡ false
  operand-still (Word q) e = apart r q no (general q e)
  operand-still (Byte q other) e =
      and_left (is_same_register r q) (is_same_half half other) (apart r q no (general-byte q other e))
  operand-still a e = refl

  pair-still : (w : Width) → is_in_pair w r ≡ false
  pair-still byte_width = apart r Ax no refl
  pair-still word_width = ap (λ b. b || is_same_register r Dx) (apart r Ax no refl) ∙ apart r Dx no refl

  unary-still : (operation : Unary) (a : Operand) → is_sp_or_bp a ≡ false → unary_writes_half operation a r half ≡ false
  unary-still Mul a e = pair-still (operand_width a)
  unary-still Imul a e = pair-still (operand_width a)
  unary-still Div a e = pair-still (operand_width a)
  unary-still Idiv a e = pair-still (operand_width a)
  unary-still operation a e = operand-still a e

  plain-still : (operation : Plain) → plain_writes_half operation r half ≡ false
  plain-still Cbw = and_left (is_same_register r Ax) (is_same_half half High) (apart r Ax no refl)
  plain-still Cwd = apart r Dx no refl
  plain-still Xlat = and_left (is_same_register r Ax) (is_same_half half Low) (apart r Ax no refl)
  plain-still operation = refl

  -- what names neither SP nor BP writes neither, unless it moves a word to the stack or from it
  pub unnamed-still : (op : Op) → names_sp_or_bp op ≡ false → is_stack_op op ≡ false → writes_half op r half ≡ false
  unnamed-still (AluOp operation a b) e s =
      let parts = or_parts (is_sp_or_bp a) (is_sp_or_bp b) e in
      ap (λ b. writes_operand operation && b) (operand-still a parts.0) ∙ none (writes_operand operation)
    where
      none : (b : Bool) → (b && false) ≡ false
      none true = refl
      none false = refl
  unnamed-still (UnaryOp operation a) e s = unary-still operation a e
  unnamed-still (ShiftOp operation a count) e s = operand-still a e
  unnamed-still (Mov to from) e s = operand-still to (or_parts (is_sp_or_bp to) (is_sp_or_bp from) e).0
  unnamed-still (Xchg a b) e s =
      let parts = or_parts (is_sp_or_bp a) (is_sp_or_bp b) e in
      ap (λ x. x || is_half_of r half b) (operand-still a parts.0) ∙ operand-still b parts.1
  unnamed-still (Lea to ea) e s = operand-still (Word to) e
  unnamed-still (Imul3 to a constant) e s =
      operand-still (Word to) (or_parts (is_sp_or_bp (Word to)) (is_sp_or_bp a) e).0
  unnamed-still (Push a) e s = absurd (true≢false s)
  unnamed-still (Pop a) e s = absurd (true≢false s)
  unnamed-still (Call target) e s = absurd (true≢false s)
  unnamed-still (Ret count) e s = absurd (true≢false s)
  unnamed-still (Enter count) e s = absurd (true≢false e)
  unnamed-still Leave e s = absurd (true≢false e)
  unnamed-still (PlainOp operation) e s = plain-still operation
  unnamed-still (Loop target) e s = apart r Cx no refl
  unnamed-still (LoopE target) e s = apart r Cx no refl
  unnamed-still (LoopNe target) e s = apart r Cx no refl
  unnamed-still Int21 e s = and_left (is_same_register r Ax) (is_same_half half Low) (apart r Ax no refl)
  unnamed-still op e s = refl

  -- `mov r,bp` writes a general register
  pub copied-still : (op : Op) → copies_bp op ≡ true → writes_half op r half ≡ false
  copied-still (Mov (Word q) (Word Bp)) e = apart r q no e
  copied-still op e = absurd (true≢false (sym e))
