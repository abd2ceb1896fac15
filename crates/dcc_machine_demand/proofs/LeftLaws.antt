-- What an instruction leaves, as its procedure sees it, its step leaves.
use Rattle.std.proofs.Common.{◌≡◌, ℕ, Bool, true, false, List, [], ◌∷◌, ◌++◌, Option, refl, ap, sym, ◌∙◌, true≢false}
use Rattle.std.specs.Prelude.{ℤ, pos, ◌+ℤ◌, ◌&&◌, ◌||◌, if◌then◌else◌}
use Rattle.std.specs.List.{list_any}
use Rattle.dcc_num.specs.declared.Reg.{Reg}
use Rattle.dcc_num.specs.declared.Reg.TheVariants.{Ax, Cx, Dx, Bx, Sp, Bp, Si, Di}
use Rattle.dcc_num.specs.declared.Half.{Half}
use Rattle.dcc_num.specs.declared.Half.TheVariants.{Low, High}
use Rattle.dcc_num.specs.declared.FlagName.{FlagName}
use Rattle.dcc_machine.specs.declared.cpu.Cpu.{Cpu}
use Rattle.dcc_machine.specs.declared.instr.Operand.{Operand}
use Rattle.dcc_machine.specs.declared.instr.Operand.TheVariants.{Word, Byte, Seg, Mem, Const}
use Rattle.dcc_machine.specs.declared.instr.Op.{Op}
use Rattle.dcc_machine.specs.declared.instr.Op.TheVariants.{Alu, Unary, Shift, Mov, Xchg, Lea, Imul3, Push, Pop, Enter, Leave, Plain, Jump, Branch, Loop, LoopE, LoopNe, Jcxz, Table, Call, Ret, Int21}
use Rattle.dcc_machine.specs.Machine.{State, half_of_word, is_general}
use Rattle.dcc_machine.specs.Step.{op_step}
use Rattle.dcc_machine.specs.Writes.{is_same_register, is_same_half, is_half_of, writes_half, writes_flag}
use Rattle.dcc_machine.specs.WellFormed.{IsOperation}
use Rattle.dcc_machine.specs.StateForm.{IsState}
use Rattle.dcc_machine.specs.LocationLaws.{half_in, flag_in}
use Rattle.dcc_machine.specs.Wanted.{half_of, flag_of}
use Rattle.dcc_machine.proofs.LocationKept.{or-none, op-half, op-flag, locations-kept}
use Rattle.dcc_demand.specs.Procedures.{Effect, Leaves, Pops, Makes, is_left}
use Rattle.dcc_machine_demand.specs.Bodies.{Body, op_of}
use Rattle.dcc_machine_demand.specs.Holders.{Holder, held, Spot, placed, in_memory, nowhere, is_at, register_spots}
use Rattle.dcc_machine_demand.specs.Holders.{spots_of}
use Rattle.dcc_machine_demand.specs.Moves.{Move, copying, moves_between, popping, popped_offset, of_either, moves_of}
use Rattle.dcc_machine_demand.specs.Moves.{moved_effect}
use Rattle.dcc_machine_demand.specs.Values.{moves_or_calls, value_written}
use Rattle.dcc_machine_demand.specs.Instance.{touches_byte, callee_in}
use Rattle.dcc_machine_demand.specs.Laws.{WhatIsLeftStays}

-- what is made isn't left
made-false : (b : Bool) → is_left {Location = Holder} {Word = ℤ} (if b then Makes else Leaves) ≡ true → b ≡ false
made-false true e = absurd (true≢false (sym e))
made-false false e = refl

copied-not-left : (spot : Spot) → is_left (copying spot) ≡ true → ⊥
copied-not-left (placed place) e = true≢false (sym e)
copied-not-left in_memory e = true≢false (sym e)
copied-not-left nowhere e = true≢false (sym e)

-- Moves.

abbrev pub lands : List Spot → Holder → Bool
lands spots place = list_any (λ spot. is_at spot place) spots

-- what follows a test that fails
skipped : (b : Bool) (effect other : Effect Holder ℤ) → (is_left effect ≡ true → ⊥) → is_left (if b then effect else other) ≡ true → (b ≡ false) × (is_left other ≡ true)
skipped true effect other out e = absurd (out e)
skipped false effect other out e = (refl, e)

none-of : (a b : Bool) → a ≡ false → b ≡ false → (a || b) ≡ false
none-of a b e f = ap (λ x. x || b) e ∙ f

-- a place that moves leave is none of those to which they lead
module _ (place : Holder) (addresses : Holder → Bool) where
  between-left : (tos froms : List Spot) (rest : List Move) → is_left (moved_effect (moves_between addresses tos froms ++ rest) place) ≡ true
      → (lands tos place ≡ false) × (is_left (moved_effect rest place) ≡ true)
  between-left [] froms rest e = (refl, e)
  between-left (to ∷ tos) [] rest e =
      let here = skipped (is_at to place) (copying nowhere) (moved_effect (moves_between addresses tos [] ++ rest) place) (copied-not-left nowhere) e in
      let later = between-left tos [] rest here.1 in
      (none-of (is_at to place) (lands tos place) here.0 later.0, later.1)
  between-left (to ∷ tos) (from ∷ froms) rest e =
      let here = skipped (is_at to place) (copying from) (moved_effect (moves_between addresses tos froms ++ rest) place) (copied-not-left from) e in
      let later = between-left tos froms rest here.1 in
      (none-of (is_at to place) (lands tos place) here.0 later.0, later.1)

  only-between-left : (tos froms : List Spot) → is_left (moved_effect (moves_between addresses tos froms) place) ≡ true → lands tos place ≡ false
  only-between-left [] froms e = refl
  only-between-left (to ∷ tos) [] e =
      let here = skipped (is_at to place) (copying nowhere) (moved_effect (moves_between addresses tos []) place) (copied-not-left nowhere) e in
      none-of (is_at to place) (lands tos place) here.0 (only-between-left tos [] here.1)
  only-between-left (to ∷ tos) (from ∷ froms) e =
      let here = skipped (is_at to place) (copying from) (moved_effect (moves_between addresses tos froms) place) (copied-not-left from) e in
      none-of (is_at to place) (lands tos place) here.0 (only-between-left tos froms here.1)

popped-left : (place : Holder) (body : Body) (a : Operand) (tos : List Spot) (k : ℤ) → is_left (moved_effect (popping body a tos k) place) ≡ true → lands tos place ≡ false
popped-left place body a [] k e = refl
popped-left place body a (to ∷ tos) k e =
    let here = skipped (is_at to place) (Pops k) (moved_effect (popping body a tos (k +ℤ pos 1)) place) (λ l. true≢false (sym l)) e in
    none-of (is_at to place) (lands tos place) here.0 (popped-left place body a tos (k +ℤ pos 1) here.1)

-- Operands.

neither-half : (same : Bool) (half : Half) → ((same && is_same_half half Low) || ((same && is_same_half half High) || false)) ≡ false → same ≡ false
neither-half true Low e = absurd (true≢false e)
neither-half true High e = absurd (true≢false e)
neither-half false half e = refl

pub not-sp : (r : Reg) → is_general r ≡ true → is_same_register r Sp ≡ false
not-sp Ax g = refl
not-sp Cx g = refl
not-sp Dx g = refl
not-sp Bx g = refl
not-sp Sp g = absurd (true≢false (sym g))
not-sp Bp g = absurd (true≢false (sym g))
not-sp Si g = refl
not-sp Di g = refl

pub not-bp : (r : Reg) → is_general r ≡ true → is_same_register r Bp ≡ false
not-bp Ax g = refl
not-bp Cx g = refl
not-bp Dx g = refl
not-bp Bx g = refl
not-bp Sp g = absurd (true≢false (sym g))
not-bp Bp g = absurd (true≢false (sym g))
not-bp Si g = refl
not-bp Di g = refl

module _ (r : Reg) (half : Half) (general : is_general r ≡ true) where
  abbrev place : Holder
  place = held (half_of r half)

  word-left : (q : Reg) → lands (register_spots q) place ≡ false → is_same_register r q ≡ false
  word-left Ax e = neither-half (is_same_register r Ax) half e
  word-left Cx e = neither-half (is_same_register r Cx) half e
  word-left Dx e = neither-half (is_same_register r Dx) half e
  word-left Bx e = neither-half (is_same_register r Bx) half e
  word-left Sp e = not-sp r general
  word-left Bp e = not-bp r general
  word-left Si e = neither-half (is_same_register r Si) half e
  word-left Di e = neither-half (is_same_register r Di) half e

  operand-left : (body : Body) (a : Operand) → lands (spots_of body a) place ≡ false → is_half_of r half a ≡ false
  operand-left body (Word q) e = word-left q e
  operand-left body (Byte q other) e = (or-none (is_same_register r q && is_same_half half other) false e).0
  operand-left body (Seg number) e = refl
  operand-left body (Mem width ea) e = refl
  operand-left body (Const width constant) e = refl

-- Operations.

-- the operation is a CALL
abbrev IsCall : Op → Type 0
IsCall (Call target) = Unit {0}
IsCall op = ⊥

-- what an operation at a height does, where it calls that procedure
abbrev pub effect_by : Body → Op → ℕ → Option ℕ → Option Body → Holder → Effect Holder ℤ
effect_by body op height number callee place =
    if moves_or_calls op then if touches_byte callee height place then Makes else moved_effect (moves_of body height op) place
    else if value_written body op number place then Makes
    else Leaves

module _ (body : Body) (height : ℕ) (number : Option ℕ) (callee : Option Body) (r : Reg) (half : Half) (general : is_general r ≡ true) where
  -- an operation that neither moves bytes nor calls leaves what it doesn't write
  value-left : (b : Bool) → is_left {Location = Holder} {Word = ℤ} (if is_general r && b then Makes else Leaves) ≡ true → b ≡ false
  value-left b e = sym (ap (λ g. g && b) general) ∙ made-false (is_general r && b) e

  -- no operation but a CALL and INT 21h leaves a half that it writes
  half-left : (op : Op) → ¬ (op ≡ Int21) → ¬ IsCall op → is_left (effect_by body op height number callee (held (half_of r half))) ≡ true → writes_half op r half ≡ false
  half-left (Alu operation a b) known no_call e = value-left (writes_half (Alu operation a b) r half) e
  half-left (Unary operation a) known no_call e = value-left (writes_half (Unary operation a) r half) e
  half-left (Shift operation a count) known no_call e = value-left (writes_half (Shift operation a count) r half) e
  half-left (Lea to ea) known no_call e = value-left (writes_half (Lea to ea) r half) e
  half-left (Imul3 to a constant) known no_call e = value-left (writes_half (Imul3 to a constant) r half) e
  half-left (Enter count) known no_call e = value-left (writes_half (Enter count) r half) e
  half-left Leave known no_call e = value-left (writes_half Leave r half) e
  half-left (Plain operation) known no_call e = value-left (writes_half (Plain operation) r half) e
  half-left (Jump target) known no_call e = value-left (writes_half (Jump target) r half) e
  half-left (Branch condition target) known no_call e = value-left (writes_half (Branch condition target) r half) e
  half-left (Loop target) known no_call e = value-left (writes_half (Loop target) r half) e
  half-left (LoopE target) known no_call e = value-left (writes_half (LoopE target) r half) e
  half-left (LoopNe target) known no_call e = value-left (writes_half (LoopNe target) r half) e
  half-left (Jcxz target) known no_call e = value-left (writes_half (Jcxz target) r half) e
  half-left (Table q offset) known no_call e = value-left (writes_half (Table q offset) r half) e
  half-left (Ret count) known no_call e = value-left (writes_half (Ret count) r half) e
  half-left (Mov to from) known no_call e =
      operand-left r half general body to (only-between-left (held (half_of r half)) (of_either to from) (spots_of body to) (spots_of body from) e)
  half-left (Xchg a b) known no_call e =
      let both = between-left (held (half_of r half)) (of_either a b) (spots_of body a) (spots_of body b) (moves_between (of_either a b) (spots_of body b) (spots_of body a)) e in
      none-of (is_half_of r half a) (is_half_of r half b) (operand-left r half general body a both.0)
      (operand-left r half general body b (only-between-left (held (half_of r half)) (of_either a b) (spots_of body b) (spots_of body a) both.1))
  half-left (Push a) known no_call e = not-sp r general
  half-left (Pop a) known no_call e =
      none-of (is_same_register r Sp) (is_half_of r half a) (not-sp r general)
      (operand-left r half general body a (popped-left (held (half_of r half)) body a (spots_of body a) (popped_offset height) e))
  half-left (Call target) known no_call e = absurd (no_call tt)
  half-left Int21 known no_call e = absurd (known refl)

-- what the step of an operation leaves
module _ (body : Body) (height : ℕ) (number : Option ℕ) (callee : Option Body) (cpu : Cpu) (at : ℕ) (s : State) where
  half-stays : (op : Op) (r : Reg) (half : Half) → ¬ (op ≡ Int21) → IsOperation op → IsState s → is_general r ≡ true
      → is_left (effect_by body op height number callee (held (half_of r half))) ≡ true → half_in (op_step cpu op at s) r half ≡ half_in s r half
  half-stays (Alu operation a b) r half known good form general e = op-half cpu (Alu operation a b) at s r half good form (half-left body height number callee r half general (Alu operation a b) known (λ c. c) e)
  half-stays (Unary operation a) r half known good form general e = op-half cpu (Unary operation a) at s r half good form (half-left body height number callee r half general (Unary operation a) known (λ c. c) e)
  half-stays (Shift operation a count) r half known good form general e = op-half cpu (Shift operation a count) at s r half good form (half-left body height number callee r half general (Shift operation a count) known (λ c. c) e)
  half-stays (Lea to ea) r half known good form general e = op-half cpu (Lea to ea) at s r half good form (half-left body height number callee r half general (Lea to ea) known (λ c. c) e)
  half-stays (Imul3 to a constant) r half known good form general e = op-half cpu (Imul3 to a constant) at s r half good form (half-left body height number callee r half general (Imul3 to a constant) known (λ c. c) e)
  half-stays (Enter count) r half known good form general e = op-half cpu (Enter count) at s r half good form (half-left body height number callee r half general (Enter count) known (λ c. c) e)
  half-stays Leave r half known good form general e = op-half cpu Leave at s r half good form (half-left body height number callee r half general Leave known (λ c. c) e)
  half-stays (Plain operation) r half known good form general e = op-half cpu (Plain operation) at s r half good form (half-left body height number callee r half general (Plain operation) known (λ c. c) e)
  half-stays (Jump target) r half known good form general e = op-half cpu (Jump target) at s r half good form (half-left body height number callee r half general (Jump target) known (λ c. c) e)
  half-stays (Branch condition target) r half known good form general e = op-half cpu (Branch condition target) at s r half good form (half-left body height number callee r half general (Branch condition target) known (λ c. c) e)
  half-stays (Loop target) r half known good form general e = op-half cpu (Loop target) at s r half good form (half-left body height number callee r half general (Loop target) known (λ c. c) e)
  half-stays (LoopE target) r half known good form general e = op-half cpu (LoopE target) at s r half good form (half-left body height number callee r half general (LoopE target) known (λ c. c) e)
  half-stays (LoopNe target) r half known good form general e = op-half cpu (LoopNe target) at s r half good form (half-left body height number callee r half general (LoopNe target) known (λ c. c) e)
  half-stays (Jcxz target) r half known good form general e = op-half cpu (Jcxz target) at s r half good form (half-left body height number callee r half general (Jcxz target) known (λ c. c) e)
  half-stays (Table q offset) r half known good form general e = op-half cpu (Table q offset) at s r half good form (half-left body height number callee r half general (Table q offset) known (λ c. c) e)
  half-stays (Ret count) r half known good form general e = op-half cpu (Ret count) at s r half good form (half-left body height number callee r half general (Ret count) known (λ c. c) e)
  half-stays (Mov to from) r half known good form general e = op-half cpu (Mov to from) at s r half good form (half-left body height number callee r half general (Mov to from) known (λ c. c) e)
  half-stays (Xchg a b) r half known good form general e = op-half cpu (Xchg a b) at s r half good form (half-left body height number callee r half general (Xchg a b) known (λ c. c) e)
  half-stays (Push a) r half known good form general e = op-half cpu (Push a) at s r half good form (half-left body height number callee r half general (Push a) known (λ c. c) e)
  half-stays (Pop a) r half known good form general e = op-half cpu (Pop a) at s r half good form (half-left body height number callee r half general (Pop a) known (λ c. c) e)
  half-stays (Call target) r half known good form general e = ap (half_of_word half) (locations-kept.call_word cpu target at s r (not-sp r general))
  half-stays Int21 r half known good form general e = absurd (known refl)

  flag-stays : (op : Op) (flag : FlagName) → IsOperation op → is_left (effect_by body op height number callee (held (flag_of flag))) ≡ true
      → flag_in (op_step cpu op at s).flags flag ≡ flag_in s.flags flag
  flag-stays (Alu operation a b) flag good e = op-flag cpu (Alu operation a b) at s flag good (made-false (writes_flag (Alu operation a b) flag) e)
  flag-stays (Unary operation a) flag good e = op-flag cpu (Unary operation a) at s flag good (made-false (writes_flag (Unary operation a) flag) e)
  flag-stays (Shift operation a count) flag good e = op-flag cpu (Shift operation a count) at s flag good (made-false (writes_flag (Shift operation a count) flag) e)
  flag-stays (Lea to ea) flag good e = op-flag cpu (Lea to ea) at s flag good (made-false (writes_flag (Lea to ea) flag) e)
  flag-stays (Imul3 to a constant) flag good e = op-flag cpu (Imul3 to a constant) at s flag good (made-false (writes_flag (Imul3 to a constant) flag) e)
  flag-stays (Enter count) flag good e = op-flag cpu (Enter count) at s flag good (made-false (writes_flag (Enter count) flag) e)
  flag-stays Leave flag good e = op-flag cpu Leave at s flag good (made-false (writes_flag Leave flag) e)
  flag-stays (Plain operation) flag good e = op-flag cpu (Plain operation) at s flag good (made-false (writes_flag (Plain operation) flag) e)
  flag-stays (Jump target) flag good e = op-flag cpu (Jump target) at s flag good (made-false (writes_flag (Jump target) flag) e)
  flag-stays (Branch condition target) flag good e = op-flag cpu (Branch condition target) at s flag good (made-false (writes_flag (Branch condition target) flag) e)
  flag-stays (Loop target) flag good e = op-flag cpu (Loop target) at s flag good (made-false (writes_flag (Loop target) flag) e)
  flag-stays (LoopE target) flag good e = op-flag cpu (LoopE target) at s flag good (made-false (writes_flag (LoopE target) flag) e)
  flag-stays (LoopNe target) flag good e = op-flag cpu (LoopNe target) at s flag good (made-false (writes_flag (LoopNe target) flag) e)
  flag-stays (Jcxz target) flag good e = op-flag cpu (Jcxz target) at s flag good (made-false (writes_flag (Jcxz target) flag) e)
  flag-stays (Table q offset) flag good e = op-flag cpu (Table q offset) at s flag good (made-false (writes_flag (Table q offset) flag) e)
  flag-stays (Ret count) flag good e = op-flag cpu (Ret count) at s flag good (made-false (writes_flag (Ret count) flag) e)
  flag-stays Int21 flag good e = op-flag cpu Int21 at s flag good (made-false (writes_flag Int21 flag) e)
  flag-stays (Mov to from) flag good e = op-flag cpu (Mov to from) at s flag good refl
  flag-stays (Xchg a b) flag good e = op-flag cpu (Xchg a b) at s flag good refl
  flag-stays (Push a) flag good e = op-flag cpu (Push a) at s flag good refl
  flag-stays (Pop a) flag good e = op-flag cpu (Pop a) at s flag good refl
  flag-stays (Call target) flag good e = ap (λ f. flag_in f flag) (locations-kept.call_flags cpu target at s)

pub left-stays : WhatIsLeftStays
left-stays = record {
  half = λ bodies body point cpu at s r half known good form general e.
      half-stays body point.height point.node.number (callee_in bodies (op_of point)) cpu at s (op_of point) r half known good form general (ap is_left e);
  flag = λ bodies body point cpu at s flag good e.
      flag-stays body point.height point.node.number (callee_in bodies (op_of point)) cpu at s (op_of point) flag good (ap is_left e);
}
