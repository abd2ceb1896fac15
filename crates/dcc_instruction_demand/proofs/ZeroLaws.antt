-- XOR and SUB of a general register with itself do what their statements do: what they write is made of nothing.
use Rattle.std.proofs.Common.{◌≡◌, ℕ, Bool, true, false, not, ◌&&◌, [], Option, refl, sym, ap, ◌∙◌, subst, true≢false}
use Rattle.dcc_num.specs.declared.Width.TheVariants.{Byte as byte_width, Word as word_width}
use Rattle.dcc_num.specs.declared.Reg.{Reg}
use Rattle.dcc_num.specs.declared.Reg.TheVariants.{Ax, Cx, Dx, Bx, Sp, Bp, Si, Di}
use Rattle.dcc_num.specs.declared.Half.{Half as HalfName}
use Rattle.dcc_num.specs.declared.Half.TheVariants.{Low, High}
use Rattle.dcc_machine.specs.declared.instr.Alu.{Alu}
use Rattle.dcc_machine.specs.declared.instr.Alu.TheVariants.{Sub, Xor}
use Rattle.dcc_machine.specs.declared.instr.Operand.{Operand}
use Rattle.dcc_machine.specs.declared.instr.Operand.TheVariants.{Word, Byte}
use Rattle.dcc_machine.specs.declared.instr.Op.{Op}
use Rattle.dcc_machine.specs.declared.instr.Op.TheVariants.{Alu as AluOp}
use Rattle.dcc_machine.specs.Machine.{operand_width, is_general}
use Rattle.dcc_machine.specs.Writes.{is_same_register, is_same_half}
use Rattle.dcc_machine.specs.Wanted.{Location, is_zeroing}
use Rattle.dcc_ops.specs.Registers.{register_place}
use Rattle.dcc_ops.specs.Statements.{zeroing}
use Rattle.dcc_lift.proofs.ListTests.{and_left, and_right, and_false}
use Rattle.dcc_simulation.specs.Procedures.{Procedure}
use Rattle.dcc_simulation.specs.Operands.{operand_place}
use Rattle.dcc_machine_demand.specs.Bodies.{Body}
use Rattle.dcc_machine_demand.specs.Values.{takes_memory, is_cleared}
use Rattle.dcc_machine_demand.proofs.PlaceLaws.{same-register, same-half}
use Rattle.dcc_instruction_demand.proofs.ClosedLaws.{is_told, IsClosed}

-- a general register stands at its halves
word_placed : (p : Procedure) (height : ℕ) (r : Reg) → is_general r ≡ true → operand_place p height (Word r) ≡ register_place (Word r)
word_placed p height Ax g = refl
word_placed p height Cx g = refl
word_placed p height Dx g = refl
word_placed p height Bx g = refl
word_placed p height Si g = refl
word_placed p height Di g = refl
word_placed p height Sp g = absurd (true≢false (sym g))
word_placed p height Bp g = absurd (true≢false (sym g))

module _ (body : Body) (number : Option ℕ) where
  -- the operation of an operand and itself is told by its table
  abbrev Told : Alu → Operand → Type 0
  Told operation a = is_told body (AluOp operation a a) number (zeroing (operand_width a) (register_place a)) [] ≡ true

  word_told : (r : Reg) → is_general r ≡ true → Told Xor (Word r) × Told Sub (Word r)
  word_told Ax g = (refl, refl)
  word_told Cx g = (refl, refl)
  word_told Dx g = (refl, refl)
  word_told Bx g = (refl, refl)
  word_told Si g = (refl, refl)
  word_told Di g = (refl, refl)
  word_told Sp g = absurd (true≢false (sym g))
  word_told Bp g = absurd (true≢false (sym g))

  byte_told : (r : Reg) (h : HalfName) → is_general r ≡ true → Told Xor (Byte r h) × Told Sub (Byte r h)
  byte_told Ax Low g = (refl, refl)
  byte_told Ax High g = (refl, refl)
  byte_told Cx Low g = (refl, refl)
  byte_told Cx High g = (refl, refl)
  byte_told Dx Low g = (refl, refl)
  byte_told Dx High g = (refl, refl)
  byte_told Bx Low g = (refl, refl)
  byte_told Bx High g = (refl, refl)
  byte_told Si Low g = (refl, refl)
  byte_told Si High g = (refl, refl)
  byte_told Di Low g = (refl, refl)
  byte_told Di High g = (refl, refl)
  byte_told Sp h g = absurd (true≢false (sym g))
  byte_told Bp h g = absurd (true≢false (sym g))

  -- that leaves the frame, and is made of no byte of it
  abbrev Closed : Alu → Operand → Operand → Type 0
  Closed operation a b = IsClosed body (AluOp operation a b) number (zeroing (operand_width a) (register_place a)) []

  unread : (op : Op) (l : Location) → ((takes_memory op l && not (is_cleared op l)) && false) ≡ false
  unread op l = and_false (takes_memory op l && not (is_cleared op l))

  word_closed : (r : Reg) → is_general r ≡ true → Closed Xor (Word r) (Word r) × Closed Sub (Word r) (Word r)
  word_closed r g = (
    record { told = (word_told r g).0; cells = λ n h. refl; unwritten = λ n h. refl; no_write = λ k. refl; no_use = λ k. refl; not_made = λ l k. unread (AluOp Xor (Word r) (Word r)) l },
    record { told = (word_told r g).1; cells = λ n h. refl; unwritten = λ n h. refl; no_write = λ k. refl; no_use = λ k. refl; not_made = λ l k. unread (AluOp Sub (Word r) (Word r)) l },
  )

  byte_closed : (r : Reg) (half : HalfName) → is_general r ≡ true → Closed Xor (Byte r half) (Byte r half) × Closed Sub (Byte r half) (Byte r half)
  byte_closed r half g = (
    record { told = (byte_told r half g).0; cells = λ n h. refl; unwritten = λ n h. refl; no_write = λ k. refl; no_use = λ k. refl; not_made = λ l k. unread (AluOp Xor (Byte r half) (Byte r half)) l },
    record { told = (byte_told r half g).1; cells = λ n h. refl; unwritten = λ n h. refl; no_write = λ k. refl; no_use = λ k. refl; not_made = λ l k. unread (AluOp Sub (Byte r half) (Byte r half)) l },
  )

  both_words : (r q : Reg) → (is_general r && is_same_register r q) ≡ true → (is_general r ≡ true) × (r ≡ q)
  both_words r q e = (and_left (is_general r) (is_same_register r q) e, same-register r q (and_right (is_general r) (is_same_register r q) e))

  both_bytes : (r q : Reg) (h k : HalfName) → (is_general r && (is_same_register r q && is_same_half h k)) ≡ true → (is_general r ≡ true) × (Byte r h ≡ Byte q k)
  both_bytes r q h k e =
      let both = and_right (is_general r) (is_same_register r q && is_same_half h k) e in (
        and_left (is_general r) (is_same_register r q && is_same_half h k) e,
        ap (λ x. Byte x h) (same-register r q (and_left (is_same_register r q) (is_same_half h k) both)) ∙ ap (Byte q) (same-half h k (and_right (is_same_register r q) (is_same_half h k) both)),
      )

  closed_at_register : (operation : Alu) (a b : Operand) → is_zeroing operation a b ≡ true → Closed operation a b
  closed_at_register Xor (Word r) (Word q) e = let both = both_words r q e in subst (λ x. Closed Xor (Word r) (Word x)) both.1 (word_closed r both.0).0
  closed_at_register Sub (Word r) (Word q) e = let both = both_words r q e in subst (λ x. Closed Sub (Word r) (Word x)) both.1 (word_closed r both.0).1
  closed_at_register Xor (Byte r h) (Byte q k) e = let both = both_bytes r q h k e in subst (Closed Xor (Byte r h)) both.1 (byte_closed r h both.0).0
  closed_at_register Sub (Byte r h) (Byte q k) e = let both = both_bytes r q h k e in subst (Closed Sub (Byte r h)) both.1 (byte_closed r h both.0).1
  closed_at_register operation a b e = absurd (true≢false (sym e))

  register_placed : (p : Procedure) (height : ℕ) (operation : Alu) (a b : Operand) → is_zeroing operation a b ≡ true → operand_place p height a ≡ register_place a
  register_placed p height Xor (Word r) (Word q) e = word_placed p height r (both_words r q e).0
  register_placed p height Sub (Word r) (Word q) e = word_placed p height r (both_words r q e).0
  register_placed p height Xor (Byte r h) (Byte q k) e = refl
  register_placed p height Sub (Byte r h) (Byte q k) e = refl
  register_placed p height operation a b e = absurd (true≢false (sym e))

  pub closed_zeroing : (p : Procedure) (height : ℕ) (operation : Alu) (a b : Operand) → is_zeroing operation a b ≡ true
      → IsClosed body (AluOp operation a b) number (zeroing (operand_width a) (operand_place p height a)) []
  closed_zeroing p height operation a b e =
      subst (λ place. IsClosed body (AluOp operation a b) number (zeroing (operand_width a) place) []) (sym (register_placed p height operation a b e)) (closed_at_register operation a b e)
