-- Two states that agree in all of which an instruction makes a half or a flag agree in it after its step.
use Rattle.std.proofs.Common.{◌≡◌, ℕ, ◌%◌, Bool, true, false, List, [], ◌∷◌, ◌++◌, Option, inl, inr, refl, ap, sym, ◌∙◌, true≢false}
use Rattle.std.specs.Prelude.{ℤ, pos, ◌+ℤ◌, ◌&&◌, ◌||◌, not, ◌==◌, if◌then◌else◌}
use Rattle.std.specs.List.{list_any}
use Rattle.dcc_run.specs.End.{is_over}
use Rattle.dcc_num.specs.declared.Width.{Width}
use Rattle.dcc_num.specs.declared.Width.TheVariants.{Byte as byte_width, Word as word_width}
use Rattle.dcc_num.specs.declared.Reg.{Reg}
use Rattle.dcc_num.specs.declared.Reg.TheVariants.{Ax, Cx, Dx, Bx, Sp, Bp, Si, Di}
use Rattle.dcc_num.specs.declared.Half.{Half}
use Rattle.dcc_num.specs.declared.Half.TheVariants.{Low, High}
use Rattle.dcc_num.specs.declared.Flags.{Flags}
use Rattle.dcc_num.specs.declared.FlagName.{FlagName}
use Rattle.dcc_num.specs.declared.FlagName.TheVariants.{Cf, Zf, Sf, Of}
use Rattle.dcc_num.specs.Numbers.{result_flags}
use Rattle.dcc_num.specs.Shift.{unless_zero, rol_of, ror_of, shl_of, shr_of, sar_of}
use Rattle.dcc_machine.specs.declared.cpu.Cpu.{Cpu}
use Rattle.dcc_machine.specs.declared.instr.Shift.{Shift as ShiftName}
use Rattle.dcc_machine.specs.declared.instr.Shift.TheVariants.{Rol, Ror, Rcl, Rcr, Shl, Shr, Sar}
use Rattle.dcc_machine.specs.declared.instr.Count.TheVariants.{One, Cl, Const as ConstCount}
use Rattle.dcc_machine.specs.declared.instr.Ea.{Ea}
use Rattle.dcc_machine.specs.declared.instr.Operand.{Operand}
use Rattle.dcc_machine.specs.declared.instr.Operand.TheVariants.{Word, Byte, Seg, Mem, Const}
use Rattle.dcc_machine.specs.declared.instr.Op.{Op}
use Rattle.dcc_machine.specs.declared.instr.Op.TheVariants.{Alu, Unary, Shift, Mov, Xchg, Lea, Imul3, Push, Pop, Enter, Leave, Plain, Jump, Branch, Loop, LoopE, LoopNe, Jcxz, Table, Call, Ret, Int21}
use Rattle.dcc_machine.specs.Machine.{State, half_of_word, operand_width, operand_value, is_general}
use Rattle.dcc_machine.specs.Operations.{shift_result, with_flags}
use Rattle.dcc_machine.specs.Step.{op_step}
use Rattle.dcc_prog.specs.Frame.{offset_in_frame}
use Rattle.dcc_machine.specs.Writes.{is_same_register, is_same_half, is_half_of, shift_writes_flag, writes_flag}
use Rattle.dcc_machine.specs.WellFormed.{IsOperation, MayCount}
use Rattle.dcc_machine.specs.StateForm.{IsState}
use Rattle.dcc_machine.specs.LocationLaws.{flag_in}
use Rattle.dcc_machine.specs.Wanted.{Location, half_of, flag_of, is_part, is_in_address_of, is_by_cl, moves, makes, surely_writes_half, surely_writes_flag}
use Rattle.dcc_machine.specs.AlikeLaws.{AgreeIn, AgreeBeside, IsCallNumber, divides_by, passes as may_keep}
use Rattle.dcc_machine.proofs.LocationKept.{or-none, operand-flags}
use Rattle.dcc_machine.proofs.AlikeValues.{and-both, and-parts, or-first, or-second, or-parts}
use Rattle.dcc_machine.proofs.AlikeMade.{made-alike}
use Rattle.dcc_demand.specs.Procedures.{Effect, Leaves, Pops, Makes, is_left}
use Rattle.dcc_machine_demand.specs.Bodies.{Body, op_of}
use Rattle.dcc_machine_demand.specs.Holders.{Holder, held, in_frame, passes, Spot, placed, in_memory, nowhere, is_at}
use Rattle.dcc_machine_demand.specs.Holders.{is_in_cell, is_of_frame, frame_spot, register_spots, spots_of}
use Rattle.dcc_machine_demand.specs.Holders.{is_of_address}
use Rattle.dcc_machine_demand.specs.Moves.{Move, copying, moves_between, popping, popped_offset, pushed_offset}
use Rattle.dcc_machine_demand.specs.Moves.{word_spots, of_either, moves_of, moved_effect, moved_made_of}
use Rattle.dcc_machine_demand.specs.Values.{moves_or_calls, value_made_of, is_cleared, is_sure}
use Rattle.dcc_machine_demand.specs.Instance.{callee_in}
use Rattle.dcc_machine_demand.specs.Laws.{WhatInstructionsMakeAlikeIsAlike}
use Rattle.dcc_machine_demand.proofs.LeftLaws.{lands, not-sp, not-bp, effect_by}

-- Where moves don't land.

other-effect : (b : Bool) (effect other : Effect Holder ℤ) → b ≡ false → is_left other ≡ true → is_left (if b then effect else other) ≡ true
other-effect true effect other e l = absurd (true≢false e)
other-effect false effect other e l = l

module _ (place : Holder) (addresses : Holder → Bool) where
  between-leaves : (tos froms : List Spot) (rest : List Move) → lands tos place ≡ false → is_left (moved_effect rest place) ≡ true
      → is_left (moved_effect (moves_between addresses tos froms ++ rest) place) ≡ true
  between-leaves [] froms rest e l = l
  between-leaves (to ∷ tos) [] rest e l =
      let parts = or-none (is_at to place) (lands tos place) e in
      other-effect (is_at to place) (copying nowhere) (moved_effect (moves_between addresses tos [] ++ rest) place) parts.0 (between-leaves tos [] rest parts.1 l)
  between-leaves (to ∷ tos) (from ∷ froms) rest e l =
      let parts = or-none (is_at to place) (lands tos place) e in
      other-effect (is_at to place) (copying from) (moved_effect (moves_between addresses tos froms ++ rest) place) parts.0 (between-leaves tos froms rest parts.1 l)

  only-between-leaves : (tos froms : List Spot) → lands tos place ≡ false → is_left (moved_effect (moves_between addresses tos froms) place) ≡ true
  only-between-leaves [] froms e = refl
  only-between-leaves (to ∷ tos) [] e =
      let parts = or-none (is_at to place) (lands tos place) e in
      other-effect (is_at to place) (copying nowhere) (moved_effect (moves_between addresses tos []) place) parts.0 (only-between-leaves tos [] parts.1)
  only-between-leaves (to ∷ tos) (from ∷ froms) e =
      let parts = or-none (is_at to place) (lands tos place) e in
      other-effect (is_at to place) (copying from) (moved_effect (moves_between addresses tos froms) place) parts.0 (only-between-leaves tos froms parts.1)

popping-leaves : (place : Holder) (body : Body) (a : Operand) (tos : List Spot) (k : ℤ) → lands tos place ≡ false → is_left (moved_effect (popping body a tos k) place) ≡ true
popping-leaves place body a [] k e = refl
popping-leaves place body a (to ∷ tos) k e =
    let parts = or-none (is_at to place) (lands tos place) e in
    other-effect (is_at to place) (Pops k) (moved_effect (popping body a tos (k +ℤ pos 1)) place) parts.0 (popping-leaves place body a tos (k +ℤ pos 1) parts.1)

-- a byte of the frame is no half and no flag
frame-apart : (body : Body) (k : ℤ) (l : Location) → is_at (frame_spot body k) (held l) ≡ false
frame-apart body k l = elim (is_in_cell body k) as (λ b. is_at (if b then placed (in_frame k) else in_memory) (held l) ≡ false) [ true ↦ refl | false ↦ refl ]

two-apart : (first second : Spot) (place : Holder) → is_at first place ≡ false → is_at second place ≡ false → lands (first ∷ second ∷ []) place ≡ false
two-apart first second place e f = ap (λ b. b || (is_at second place || false)) e ∙ ap (λ b. b || false) f

one-apart : (first : Spot) (place : Holder) → is_at first place ≡ false → lands (first ∷ []) place ≡ false
one-apart first place e = ap (λ b. b || false) e

memory-apart : (body : Body) (width : Width) (ea : Ea) (l : Location) → lands (spots_of body (Mem width ea)) (held l) ≡ false
memory-apart body byte_width ea l = byte-apart (is_of_frame body ea) (offset_in_frame ea)
  where
    byte-apart : (b : Bool) (k : ℤ) → lands (if b then frame_spot body k ∷ [] else in_memory ∷ []) (held l) ≡ false
    byte-apart true k = one-apart (frame_spot body k) (held l) (frame-apart body k l)
    byte-apart false k = refl
memory-apart body word_width ea l = word-apart (is_of_frame body ea) (offset_in_frame ea)
  where
    word-apart : (b : Bool) (k : ℤ) → lands (if b then frame_spot body k ∷ frame_spot body (k +ℤ pos 1) ∷ [] else in_memory ∷ in_memory ∷ []) (held l) ≡ false
    word-apart true k = two-apart (frame_spot body k) (frame_spot body (k +ℤ pos 1)) (held l) (frame-apart body k l) (frame-apart body (k +ℤ pos 1) l)
    word-apart false k = refl

-- a flag is no part of an operand
flag-apart : (body : Body) (a : Operand) (flag : FlagName) → lands (spots_of body a) (held (flag_of flag)) ≡ false
flag-apart body (Word q) flag = elim (is_general q) as (λ b. lands (if b then placed (held (half_of q Low)) ∷ placed (held (half_of q High)) ∷ [] else nowhere ∷ nowhere ∷ []) (held (flag_of flag)) ≡ false) [ true ↦ refl | false ↦ refl ]
flag-apart body (Byte q other) flag = refl
flag-apart body (Seg number) flag = refl
flag-apart body (Mem width ea) flag = memory-apart body width ea (flag_of flag)
flag-apart body (Const byte_width constant) flag = refl
flag-apart body (Const word_width constant) flag = refl

-- what is no half of an operand
half-apart : (body : Body) (a : Operand) (r : Reg) (half : Half) → is_half_of r half a ≡ false → lands (spots_of body a) (held (half_of r half)) ≡ false
half-apart body (Word q) r half e = elim (is_general q) as (λ b. lands (if b then placed (held (half_of q Low)) ∷ placed (held (half_of q High)) ∷ [] else nowhere ∷ nowhere ∷ []) (held (half_of r half)) ≡ false) [
  | true ↦ ap (λ same. (same && is_same_half half Low) || ((same && is_same_half half High) || false)) e
  | false ↦ refl
]
half-apart body (Byte q other) r half e = ap (λ b. b || false) e
half-apart body (Seg number) r half e = refl
half-apart body (Mem width ea) r half e = memory-apart body width ea (half_of r half)
half-apart body (Const byte_width constant) r half e = refl
half-apart body (Const word_width constant) r half e = refl

-- What isn't surely written by an operation isn't surely written by its action.

from-not : (b : Bool) → not b ≡ true → b ≡ false
from-not true e = absurd (true≢false (sym e))
from-not false e = refl

-- a half that is left
unwritten-half : (general b : Bool) → not b ≡ true → (not (is_left {Location = Holder} {Word = ℤ} (if general && b then Makes else Leaves)) && true) ≡ false
unwritten-half general true e = absurd (true≢false (sym e))
unwritten-half true false e = refl
unwritten-half false false e = refl

and-last : (a b : Bool) → not b ≡ true → (a && b) ≡ false
and-last a true e = absurd (true≢false (sym e))
and-last true false e = refl
and-last false false e = refl

left-isnt : (b c : Bool) → b ≡ true → (not b && c) ≡ false
left-isnt true c e = refl
left-isnt false c e = absurd (true≢false (sym e))

module _ (body : Body) (height : ℕ) (number : Option ℕ) (callee : Option Body) where
  abbrev sure_by : Op → Location → Bool
  sure_by op l = not (is_left (effect_by body op height number callee (held l))) && is_sure op (held l)

  -- a PUSH writes no half and no flag
  pushed-left : (l : Location) (a : Operand) (c : Bool) → (not (is_left (moved_effect (moves_of body height (Push a)) (held l))) && c) ≡ false
  pushed-left l a c =
      left-isnt (is_left (moved_effect (moves_of body height (Push a)) (held l))) c
      (only-between-leaves (held l) (is_of_address a) (word_spots body (pushed_offset height)) (spots_of body a)
      (two-apart (frame_spot body (pushed_offset height)) (frame_spot body (pushed_offset height +ℤ pos 1)) (held l) (frame-apart body (pushed_offset height) l) (frame-apart body (pushed_offset height +ℤ pos 1) l)))

  -- what isn't written
  half-left : (op : Op) (r : Reg) (half : Half) → may_keep op number (half_of r half) ≡ true → sure_by op (half_of r half) ≡ false
  half-left (Alu operation a b) r half e = unwritten-half (is_general r) (surely_writes_half (Alu operation a b) number r half) e
  half-left (Unary operation a) r half e = unwritten-half (is_general r) (surely_writes_half (Unary operation a) number r half) e
  half-left (Shift operation a count) r half e = unwritten-half (is_general r) (surely_writes_half (Shift operation a count) number r half) e
  half-left (Lea q ea) r half e = unwritten-half (is_general r) (surely_writes_half (Lea q ea) number r half) e
  half-left (Imul3 q a constant) r half e = unwritten-half (is_general r) (surely_writes_half (Imul3 q a constant) number r half) e
  half-left (Enter size) r half e = unwritten-half (is_general r) (surely_writes_half (Enter size) number r half) e
  half-left Leave r half e = unwritten-half (is_general r) (surely_writes_half Leave number r half) e
  half-left (Plain operation) r half e = unwritten-half (is_general r) (surely_writes_half (Plain operation) number r half) e
  half-left (Jump target) r half e = unwritten-half (is_general r) (surely_writes_half (Jump target) number r half) e
  half-left (Branch condition target) r half e = unwritten-half (is_general r) (surely_writes_half (Branch condition target) number r half) e
  half-left (Loop target) r half e = unwritten-half (is_general r) (surely_writes_half (Loop target) number r half) e
  half-left (LoopE target) r half e = unwritten-half (is_general r) (surely_writes_half (LoopE target) number r half) e
  half-left (LoopNe target) r half e = unwritten-half (is_general r) (surely_writes_half (LoopNe target) number r half) e
  half-left (Jcxz target) r half e = unwritten-half (is_general r) (surely_writes_half (Jcxz target) number r half) e
  half-left (Table q offset) r half e = unwritten-half (is_general r) (surely_writes_half (Table q offset) number r half) e
  half-left (Ret size) r half e = unwritten-half (is_general r) (surely_writes_half (Ret size) number r half) e
  half-left Int21 r half e = unwritten-half (is_general r) (surely_writes_half Int21 number r half) e
  half-left (Mov to from) r half e =
      left-isnt (is_left (moved_effect (moves_of body height (Mov to from)) (held (half_of r half)))) true
      (only-between-leaves (held (half_of r half)) (of_either to from) (spots_of body to) (spots_of body from) (half-apart body to r half (from-not (is_half_of r half to) e)))
  half-left (Xchg a b) r half e =
      let parts = or-none (is_half_of r half a) (is_half_of r half b) (from-not (is_half_of r half a || is_half_of r half b) e) in
      left-isnt (is_left (moved_effect (moves_of body height (Xchg a b)) (held (half_of r half)))) true
      (between-leaves (held (half_of r half)) (of_either a b) (spots_of body a) (spots_of body b) (moves_between (of_either a b) (spots_of body b) (spots_of body a)) (half-apart body a r half parts.0)
      (only-between-leaves (held (half_of r half)) (of_either a b) (spots_of body b) (spots_of body a) (half-apart body b r half parts.1)))
  half-left (Push a) r half e = pushed-left (half_of r half) a true
  half-left (Pop a) r half e =
      let parts = or-none (is_same_register r Sp) (is_half_of r half a) (from-not (is_same_register r Sp || is_half_of r half a) e) in
      left-isnt (is_left (moved_effect (moves_of body height (Pop a)) (held (half_of r half)))) true
      (popping-leaves (held (half_of r half)) body a (spots_of body a) (popped_offset height) (half-apart body a r half parts.1))
  half-left (Call target) r half e = refl

  flag-left : (op : Op) (flag : FlagName) → may_keep op number (flag_of flag) ≡ true → sure_by op (flag_of flag) ≡ false
  flag-left (Alu operation a b) flag e = and-last (not (is_left {Location = Holder} {Word = ℤ} (if writes_flag (Alu operation a b) flag then Makes else Leaves))) (surely_writes_flag (Alu operation a b) flag) e
  flag-left (Unary operation a) flag e = and-last (not (is_left {Location = Holder} {Word = ℤ} (if writes_flag (Unary operation a) flag then Makes else Leaves))) (surely_writes_flag (Unary operation a) flag) e
  flag-left (Shift operation a count) flag e = and-last (not (is_left {Location = Holder} {Word = ℤ} (if writes_flag (Shift operation a count) flag then Makes else Leaves))) (surely_writes_flag (Shift operation a count) flag) e
  flag-left (Lea q ea) flag e = and-last (not (is_left {Location = Holder} {Word = ℤ} (if writes_flag (Lea q ea) flag then Makes else Leaves))) (surely_writes_flag (Lea q ea) flag) e
  flag-left (Imul3 q a constant) flag e = and-last (not (is_left {Location = Holder} {Word = ℤ} (if writes_flag (Imul3 q a constant) flag then Makes else Leaves))) (surely_writes_flag (Imul3 q a constant) flag) e
  flag-left (Enter size) flag e = and-last (not (is_left {Location = Holder} {Word = ℤ} (if writes_flag (Enter size) flag then Makes else Leaves))) (surely_writes_flag (Enter size) flag) e
  flag-left Leave flag e = and-last (not (is_left {Location = Holder} {Word = ℤ} (if writes_flag Leave flag then Makes else Leaves))) (surely_writes_flag Leave flag) e
  flag-left (Plain operation) flag e = and-last (not (is_left {Location = Holder} {Word = ℤ} (if writes_flag (Plain operation) flag then Makes else Leaves))) (surely_writes_flag (Plain operation) flag) e
  flag-left (Jump target) flag e = and-last (not (is_left {Location = Holder} {Word = ℤ} (if writes_flag (Jump target) flag then Makes else Leaves))) (surely_writes_flag (Jump target) flag) e
  flag-left (Branch condition target) flag e = and-last (not (is_left {Location = Holder} {Word = ℤ} (if writes_flag (Branch condition target) flag then Makes else Leaves))) (surely_writes_flag (Branch condition target) flag) e
  flag-left (Loop target) flag e = and-last (not (is_left {Location = Holder} {Word = ℤ} (if writes_flag (Loop target) flag then Makes else Leaves))) (surely_writes_flag (Loop target) flag) e
  flag-left (LoopE target) flag e = and-last (not (is_left {Location = Holder} {Word = ℤ} (if writes_flag (LoopE target) flag then Makes else Leaves))) (surely_writes_flag (LoopE target) flag) e
  flag-left (LoopNe target) flag e = and-last (not (is_left {Location = Holder} {Word = ℤ} (if writes_flag (LoopNe target) flag then Makes else Leaves))) (surely_writes_flag (LoopNe target) flag) e
  flag-left (Jcxz target) flag e = and-last (not (is_left {Location = Holder} {Word = ℤ} (if writes_flag (Jcxz target) flag then Makes else Leaves))) (surely_writes_flag (Jcxz target) flag) e
  flag-left (Table q offset) flag e = and-last (not (is_left {Location = Holder} {Word = ℤ} (if writes_flag (Table q offset) flag then Makes else Leaves))) (surely_writes_flag (Table q offset) flag) e
  flag-left (Ret size) flag e = and-last (not (is_left {Location = Holder} {Word = ℤ} (if writes_flag (Ret size) flag then Makes else Leaves))) (surely_writes_flag (Ret size) flag) e
  flag-left Int21 flag e = and-last (not (is_left {Location = Holder} {Word = ℤ} (if writes_flag Int21 flag then Makes else Leaves))) (surely_writes_flag Int21 flag) e
  flag-left (Mov to from) flag e =
      left-isnt (is_left (moved_effect (moves_of body height (Mov to from)) (held (flag_of flag)))) false
      (only-between-leaves (held (flag_of flag)) (of_either to from) (spots_of body to) (spots_of body from) (flag-apart body to flag))
  flag-left (Xchg a b) flag e =
      left-isnt (is_left (moved_effect (moves_of body height (Xchg a b)) (held (flag_of flag)))) false
      (between-leaves (held (flag_of flag)) (of_either a b) (spots_of body a) (spots_of body b) (moves_between (of_either a b) (spots_of body b) (spots_of body a)) (flag-apart body a flag)
      (only-between-leaves (held (flag_of flag)) (of_either a b) (spots_of body b) (spots_of body a) (flag-apart body b flag)))
  flag-left (Push a) flag e = pushed-left (flag_of flag) a false
  flag-left (Pop a) flag e =
      left-isnt (is_left (moved_effect (moves_of body height (Pop a)) (held (flag_of flag)))) false
      (popping-leaves (held (flag_of flag)) body a (spots_of body a) (popped_offset height) (flag-apart body a flag))
  flag-left (Call target) flag e = refl

  location-left : (op : Op) (l : Location) → may_keep op number l ≡ true → sure_by op l ≡ false
  location-left op (half_of r half) e = half-left op r half e
  location-left op (flag_of flag) e = flag-left op flag e

-- What an operation makes of what, its action does.

no : {A : Type 0} → false ≡ true → A
no e = absurd (true≢false (sym e))

any-first : {A : Type 0} (test : A → Bool) (xs ys : List A) → list_any test xs ≡ true → list_any test (xs ++ ys) ≡ true
any-first test [] ys e = no e
any-first test (x ∷ xs) ys e = elim (or-parts (test x) (list_any test xs) e) [
  | inl first ↦ or-first (test x) (list_any test (xs ++ ys)) first
  | inr later ↦ or-second (test x) (list_any test (xs ++ ys)) (any-first test xs ys later)
]

any-second : {A : Type 0} (test : A → Bool) (xs ys : List A) → list_any test ys ≡ true → list_any test (xs ++ ys) ≡ true
any-second test [] ys e = e
any-second test (x ∷ xs) ys e = or-second (test x) (list_any test (xs ++ ys)) (any-second test xs ys e)

either-made : (b x y lands_later later : Bool) → (b || lands_later) ≡ true → (lands_later ≡ true → later ≡ true) → y ≡ true → ((b && (x || y)) || later) ≡ true
either-made true x y lands_later later e h is = or-first (x || y) later (or-second x y is)
either-made false x y lands_later later e h is = h e

-- each byte that is moved is made of what the addresses take
address-made : (place from : Holder) (addresses : Holder → Bool) (tos froms : List Spot) → lands tos place ≡ true → addresses from ≡ true
    → moved_made_of (moves_between addresses tos froms) place from ≡ true
address-made place from addresses [] froms e is = no e
address-made place from addresses (to ∷ tos) [] e is =
    either-made (is_at to place) false (addresses from) (lands tos place) (moved_made_of (moves_between addresses tos []) place from) e (λ l. address-made place from addresses tos [] l is) is
address-made place from addresses (to ∷ tos) (spot ∷ froms) e is =
    either-made (is_at to place) (is_at spot from) (addresses from) (lands tos place) (moved_made_of (moves_between addresses tos froms) place from) e (λ l. address-made place from addresses tos froms l is) is

-- a register that a general one is, is general
general-same : (r q : Reg) → is_general r ≡ true → is_same_register r q ≡ true → is_general q ≡ true
general-same r Ax g e = refl
general-same r Cx g e = refl
general-same r Dx g e = refl
general-same r Bx g e = refl
general-same r Sp g e = no (sym (not-sp r g) ∙ e)
general-same r Bp g e = no (sym (not-bp r g) ∙ e)
general-same r Si g e = refl
general-same r Di g e = refl

half-lands : (same : Bool) (half : Half) → same ≡ true → ((same && is_same_half half Low) || ((same && is_same_half half High) || false)) ≡ true
half-lands true Low e = refl
half-lands true High e = refl
half-lands false half e = no e

word-made : (x y z : Bool) (k j : Half) → x ≡ true → y ≡ true → is_same_half k j ≡ true
    → (((x && is_same_half k Low) && ((y && is_same_half j Low) || z)) || (((x && is_same_half k High) && ((y && is_same_half j High) || z)) || false)) ≡ true
word-made true true z Low Low e f h = refl
word-made true true z Low High e f h = no h
word-made true true z High Low e f h = no h
word-made true true z High High e f h = refl
word-made true false z k j e f h = no f
word-made false y z k j e f h = no e

byte-made : (x y z : Bool) → (x && y) ≡ true → ((x && (y || z)) || false) ≡ true
byte-made true true z e = refl
byte-made true false z e = no e
byte-made false y z e = no e

module _ (body : Body) where
  part-lands : (a : Operand) (l : Location) → passes (held l) ≡ true → is_part l a ≡ true → lands (spots_of body a) (held l) ≡ true
  part-lands (Word q) (half_of r half) g e =
      ap (λ b. lands (if b then placed (held (half_of q Low)) ∷ placed (held (half_of q High)) ∷ [] else nowhere ∷ nowhere ∷ []) (held (half_of r half))) (general-same r q g e)
      ∙ half-lands (is_same_register r q) half e
  part-lands (Byte q other) (half_of r half) g e = or-first (is_same_register r q && is_same_half half other) false e
  part-lands (Seg number) (half_of r half) g e = no e
  part-lands (Mem width ea) (half_of r half) g e = no e
  part-lands (Const width constant) (half_of r half) g e = no e
  part-lands a (flag_of flag) g e = no e

  module _ (addresses : Holder → Bool) (l from : Location) (to_passes : passes (held l) ≡ true) where
    by-address : (a b : Operand) → (is_in_address_of from b ≡ true → addresses (held from) ≡ true) → (is_part l a && is_in_address_of from b) ≡ true
        → moved_made_of (moves_between addresses (spots_of body a) (spots_of body b)) (held l) (held from) ≡ true
    by-address a b covers e =
        let parts = and-parts (is_part l a) (is_in_address_of from b) e in
        address-made (held l) (held from) addresses (spots_of body a) (spots_of body b) (part-lands a l to_passes parts.0) (covers parts.1)

  moves-made : (addresses : Holder → Bool) (a b : Operand) (l from : Location) → (is_in_address_of from b ≡ true → addresses (held from) ≡ true) → passes (held l) ≡ true
      → passes (held from) ≡ true → moves a b l from ≡ true → moved_made_of (moves_between addresses (spots_of body a) (spots_of body b)) (held l) (held from) ≡ true
  moves-made addresses (Word r) (Word q) (half_of t k) (half_of u j) covers g h e =
      let parts = and-parts (is_same_register t r) (is_same_register u q && is_same_half k j) e in
      let others = and-parts (is_same_register u q) (is_same_half k j) parts.1 in
      ap (λ b. moved_made_of (moves_between addresses (if b then placed (held (half_of r Low)) ∷ placed (held (half_of r High)) ∷ [] else nowhere ∷ nowhere ∷ []) (register_spots q)) (held (half_of t k)) (held (half_of u j))) (general-same t r g parts.0)
      ∙ ap (λ b. moved_made_of (moves_between addresses (placed (held (half_of r Low)) ∷ placed (held (half_of r High)) ∷ []) (if b then placed (held (half_of q Low)) ∷ placed (held (half_of q High)) ∷ [] else nowhere ∷ nowhere ∷ [])) (held (half_of t k)) (held (half_of u j))) (general-same u q h others.0)
      ∙ word-made (is_same_register t r) (is_same_register u q) (addresses (held (half_of u j))) k j parts.0 others.0 others.1
  moves-made addresses (Word r) (Word q) (half_of t k) (flag_of flag) covers g h e = by-address addresses (half_of t k) (flag_of flag) g (Word r) (Word q) covers e
  moves-made addresses (Word r) (Word q) (flag_of flag) from covers g h e = no e
  moves-made addresses (Word r) (Byte q other) l from covers g h e = by-address addresses l from g (Word r) (Byte q other) covers e
  moves-made addresses (Word r) (Seg number) l from covers g h e = by-address addresses l from g (Word r) (Seg number) covers e
  moves-made addresses (Word r) (Mem width ea) l from covers g h e = by-address addresses l from g (Word r) (Mem width ea) covers e
  moves-made addresses (Word r) (Const width constant) l from covers g h e = by-address addresses l from g (Word r) (Const width constant) covers e
  moves-made addresses (Byte r half) (Byte q other) (half_of t k) (half_of u j) covers g h e =
      byte-made (is_same_register t r && is_same_half k half) (is_same_register u q && is_same_half j other) (addresses (held (half_of u j))) e
  moves-made addresses (Byte r half) (Byte q other) (half_of t k) (flag_of flag) covers g h e = by-address addresses (half_of t k) (flag_of flag) g (Byte r half) (Byte q other) covers e
  moves-made addresses (Byte r half) (Byte q other) (flag_of flag) from covers g h e = no e
  moves-made addresses (Byte r half) (Word q) l from covers g h e = by-address addresses l from g (Byte r half) (Word q) covers e
  moves-made addresses (Byte r half) (Seg number) l from covers g h e = by-address addresses l from g (Byte r half) (Seg number) covers e
  moves-made addresses (Byte r half) (Mem width ea) l from covers g h e = by-address addresses l from g (Byte r half) (Mem width ea) covers e
  moves-made addresses (Byte r half) (Const width constant) l from covers g h e = by-address addresses l from g (Byte r half) (Const width constant) covers e
  moves-made addresses (Seg number) b l from covers g h e = by-address addresses l from g (Seg number) b covers e
  moves-made addresses (Mem width ea) b l from covers g h e = by-address addresses l from g (Mem width ea) b covers e
  moves-made addresses (Const width constant) b l from covers g h e = by-address addresses l from g (Const width constant) b covers e

  abbrev made_by : Op → ℕ → Location → Location → Bool
  made_by op height l from =
      if moves_or_calls op then moved_made_of (moves_of body height op) (held l) (held from) else value_made_of body op (held l) (held from)

  makes-made : (op : Op) (height : ℕ) (l from : Location) → passes (held l) ≡ true → passes (held from) ≡ true → is_cleared op l ≡ false → makes op l from ≡ true → made_by op height l from ≡ true
  makes-made (Alu operation a b) height l from g h clear e = and-both (makes (Alu operation a b) l from) (not (is_cleared (Alu operation a b) l)) e (ap not clear)
  makes-made (Unary operation a) height l from g h clear e = and-both (makes (Unary operation a) l from) (not (is_cleared (Unary operation a) l)) e (ap not clear)
  makes-made (Shift operation a count) height l from g h clear e = and-both (makes (Shift operation a count) l from) (not (is_cleared (Shift operation a count) l)) e (ap not clear)
  makes-made (Lea q ea) height l from g h clear e = and-both (makes (Lea q ea) l from) (not (is_cleared (Lea q ea) l)) e (ap not clear)
  makes-made (Imul3 q a constant) height l from g h clear e = and-both (makes (Imul3 q a constant) l from) (not (is_cleared (Imul3 q a constant) l)) e (ap not clear)
  makes-made (Enter size) height l from g h clear e = and-both (makes (Enter size) l from) (not (is_cleared (Enter size) l)) e (ap not clear)
  makes-made Leave height l from g h clear e = and-both (makes Leave l from) (not (is_cleared Leave l)) e (ap not clear)
  makes-made (Plain operation) height l from g h clear e = and-both (makes (Plain operation) l from) (not (is_cleared (Plain operation) l)) e (ap not clear)
  makes-made (Jump target) height l from g h clear e = and-both (makes (Jump target) l from) (not (is_cleared (Jump target) l)) e (ap not clear)
  makes-made (Branch condition target) height l from g h clear e = and-both (makes (Branch condition target) l from) (not (is_cleared (Branch condition target) l)) e (ap not clear)
  makes-made (Loop target) height l from g h clear e = and-both (makes (Loop target) l from) (not (is_cleared (Loop target) l)) e (ap not clear)
  makes-made (LoopE target) height l from g h clear e = and-both (makes (LoopE target) l from) (not (is_cleared (LoopE target) l)) e (ap not clear)
  makes-made (LoopNe target) height l from g h clear e = and-both (makes (LoopNe target) l from) (not (is_cleared (LoopNe target) l)) e (ap not clear)
  makes-made (Jcxz target) height l from g h clear e = and-both (makes (Jcxz target) l from) (not (is_cleared (Jcxz target) l)) e (ap not clear)
  makes-made (Table q offset) height l from g h clear e = and-both (makes (Table q offset) l from) (not (is_cleared (Table q offset) l)) e (ap not clear)
  makes-made (Ret size) height l from g h clear e = and-both (makes (Ret size) l from) (not (is_cleared (Ret size) l)) e (ap not clear)
  makes-made Int21 height l from g h clear e = and-both (makes Int21 l from) (not (is_cleared Int21 l)) e (ap not clear)
  makes-made (Mov a b) height l from g h clear e =
      moves-made (of_either a b) a b l from (or-second (is_of_address a (held from)) (is_of_address b (held from))) g h e
  makes-made (Xchg a b) height l from g h clear e = elim (or-parts (moves a b l from) (moves b a l from) e) [
    | inl first ↦ any-first (λ move. is_at move.to (held l) && move.made_of (held from)) (moves_between (of_either a b) (spots_of body a) (spots_of body b)) (moves_between (of_either a b) (spots_of body b) (spots_of body a))
        (moves-made (of_either a b) a b l from (or-second (is_of_address a (held from)) (is_of_address b (held from))) g h first)
    | inr later ↦ any-second (λ move. is_at move.to (held l) && move.made_of (held from)) (moves_between (of_either a b) (spots_of body a) (spots_of body b)) (moves_between (of_either a b) (spots_of body b) (spots_of body a))
        (moves-made (of_either a b) b a l from (or-first (is_of_address a (held from)) (is_of_address b (held from))) g h later)
  ]
  makes-made (Push a) height l from g h clear e = no e
  makes-made (Pop a) height l from g h clear e = no e
  makes-made (Call target) height l from g h clear e = no e

-- OF after a shift or rotate by a constant other than 1: 0, or as it was where that is 0 too.

clear-of : (count a r : ℕ) (was flags : Flags) → flags.of ≡ false → (unless_zero count (a, was) (r, flags)).1.of ≡ (if count == 0 then was.of else false)
clear-of count a r was flags e =
    elim (count == 0) as (λ b. (if b then (let x : ℕ × Flags = (a, was) in x) else (r, flags)).1.of ≡ (if b then was.of else false)) [ true ↦ refl | false ↦ e ]

none-first : (a b : Bool) → a ≡ false → (a && b) ≡ false
none-first true b e = absurd (true≢false e)
none-first false b e = refl

shifted-of : (operation : ShiftName) (number : ℕ) (w : Width) (a count : ℕ) (was : Flags) → MayCount operation (ConstCount number) → (count == 1) ≡ false
    → (shift_result operation w a count was).1.of ≡ (if count == 0 then was.of else false)
unfolding rol_of ror_of shl_of shr_of sar_of result_flags
shifted-of Rol number w a count was may e = clear-of count a _ was _ (none-first (count == 1) _ e)
shifted-of Ror number w a count was may e = clear-of count a _ was _ (none-first (count == 1) _ e)
shifted-of Rcl number w a count was may e = absurd may
shifted-of Rcr number w a count was may e = absurd may
shifted-of Shl number w a count was may e = clear-of count a _ was _ (none-first (count == 1) _ e)
shifted-of Shr number w a count was may e = clear-of count a _ was _ (none-first (count == 1) _ e)
shifted-of Sar number w a count was may e = clear-of count a _ was _ refl

same-of : (b x y : Bool) → (b ≡ true → x ≡ y) → (if b then x else false) ≡ (if b then y else false)
same-of true x y h = h refl
same-of false x y h = refl

never-written : (b c : Bool) → not ((b && false) && c) ≡ true
never-written true c = refl
never-written false c = refl

-- Two states.

agree-from : (from : Location) (s t : State) → AgreeBeside s t → (passes (held from) ≡ true → AgreeIn from s t) → AgreeIn from s t
agree-from (half_of Ax half) s t beside h = h refl
agree-from (half_of Cx half) s t beside h = h refl
agree-from (half_of Dx half) s t beside h = h refl
agree-from (half_of Bx half) s t beside h = h refl
agree-from (half_of Sp half) s t beside h = ap (half_of_word half) beside.sp
agree-from (half_of Bp half) s t beside h = ap (half_of_word half) beside.bp
agree-from (half_of Si half) s t beside h = h refl
agree-from (half_of Di half) s t beside h = h refl
agree-from (flag_of flag) s t beside h = h refl

module _ (body : Body) (height : ℕ) (number : Option ℕ) (callee : Option Body) (cpu : Cpu) (at : ℕ) (s t : State) where
  -- where OF is 0 or as it was
  of-alike : (operation : ShiftName) (a : Operand) (count : ℕ) → MayCount operation (ConstCount count) → not (count % 32 == 1) ≡ true
      → (sure_by body height number callee (Shift operation a (ConstCount count)) (flag_of Of) ≡ false → AgreeIn (flag_of Of) s t)
      → AgreeIn (flag_of Of) (op_step cpu (Shift operation a (ConstCount count)) at s) (op_step cpu (Shift operation a (ConstCount count)) at t)
  of-alike operation a count may e still =
      one s ∙ same-of (count % 32 == 0) s.flags.of t.flags.of (λ none. still (flag-left body height number callee (Shift operation a (ConstCount count)) Of (kept none))) ∙ sym (one t)
    where
      one : (u : State) → flag_in (op_step cpu (Shift operation a (ConstCount count)) at u).flags Of ≡ (if count % 32 == 0 then u.flags.of else false)
      one u =
          let result = shift_result operation (operand_width a) (operand_value u a) (count % 32) u.flags in
          ap (λ f. flag_in f Of) (operand-flags a result.0 (with_flags result.1 u))
          ∙ shifted-of operation count (operand_width a) (operand_value u a) (count % 32) u.flags may (from-not (count % 32 == 1) e)

      kept : (count % 32 == 0) ≡ true → may_keep (Shift operation a (ConstCount count)) number (flag_of Of) ≡ true
      kept none =
          ap (λ b. not ((shift_writes_flag operation Of && not b) && not (is_by_cl operation (ConstCount count)))) none
          ∙ never-written (shift_writes_flag operation Of) (not (is_by_cl operation (ConstCount count)))

  cleared-alike : (op : Op) (l : Location) → IsOperation op → is_cleared op l ≡ true → (sure_by body height number callee op l ≡ false → AgreeIn l s t)
      → AgreeIn l (op_step cpu op at s) (op_step cpu op at t)
  cleared-alike (Shift operation a (ConstCount count)) (flag_of Of) good e still = of-alike operation a count good.may e still
  cleared-alike (Shift operation a (ConstCount count)) (flag_of Cf) good e still = no e
  cleared-alike (Shift operation a (ConstCount count)) (flag_of Zf) good e still = no e
  cleared-alike (Shift operation a (ConstCount count)) (flag_of Sf) good e still = no e
  cleared-alike (Shift operation a (ConstCount count)) (half_of r half) good e still = no e
  cleared-alike (Shift operation a One) l good e still = no e
  cleared-alike (Shift operation a Cl) l good e still = no e
  cleared-alike (Alu operation a b) l good e still = no e
  cleared-alike (Unary operation a) l good e still = no e
  cleared-alike (Mov a b) l good e still = no e
  cleared-alike (Xchg a b) l good e still = no e
  cleared-alike (Lea q ea) l good e still = no e
  cleared-alike (Imul3 q a constant) l good e still = no e
  cleared-alike (Push a) l good e still = no e
  cleared-alike (Pop a) l good e still = no e
  cleared-alike (Enter size) l good e still = no e
  cleared-alike Leave l good e still = no e
  cleared-alike (Plain operation) l good e still = no e
  cleared-alike (Jump target) l good e still = no e
  cleared-alike (Branch condition target) l good e still = no e
  cleared-alike (Loop target) l good e still = no e
  cleared-alike (LoopE target) l good e still = no e
  cleared-alike (LoopNe target) l good e still = no e
  cleared-alike (Jcxz target) l good e still = no e
  cleared-alike (Table q offset) l good e still = no e
  cleared-alike (Call target) l good e still = no e
  cleared-alike (Ret size) l good e still = no e
  cleared-alike Int21 l good e still = no e

  alike-by : (op : Op) (l : Location) → IsOperation op → IsState s → IsState t → AgreeBeside s t → IsCallNumber op number s → IsCallNumber op number t
      → passes (held l) ≡ true → ((from : Location) → (passes (held from) && made_by body op height l from) ≡ true → AgreeIn from s t)
      → (sure_by body height number callee op l ≡ false → AgreeIn l s t) → ((from : Location) → divides_by op from ≡ true → AgreeIn from s t)
      → is_over (op_step cpu op at s).end ≡ false → AgreeIn l (op_step cpu op at s) (op_step cpu op at t)
  alike-by op l good first second beside m n is made still divided goes = go (is_cleared op l) refl
    where
      go : (b : Bool) → is_cleared op l ≡ b → AgreeIn l (op_step cpu op at s) (op_step cpu op at t)
      go true e = cleared-alike op l good e still
      go false e = made-alike cpu op at number s t l good first second beside m n (record {
        made = λ from makes_it. agree-from from s t beside (λ h. made from (and-both (passes (held from)) (made_by body op height l from) h (makes-made body op height l from is h e makes_it)));
        passed = λ keeps. still (location-left body height number callee op l keeps);
        divided = divided;
      }) goes

pub alike-stays : WhatInstructionsMakeAlikeIsAlike
alike-stays bodies body point cpu at s t l good first second beside m n is alike goes =
    alike-by body point.height point.node.number (callee_in bodies (op_of point)) cpu at s t (op_of point) l good first second beside m n is alike.made alike.still alike.divided goes
