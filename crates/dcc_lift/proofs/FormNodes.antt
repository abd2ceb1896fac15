-- The statements of an instruction of the table are sound: its operands stand at good places. A CALL is told elsewhere.
use Rattle.std.proofs.Common.{◌≡◌, ℕ, suc, ◌<◌, ◌≤◌, Bool, true, false, ◌==◌, if◌then◌else◌, List, [], ◌∷◌, Option, Some, None, refl, sym, subst, arith}
use Rattle.std.specs.Prelude.{ℤ, pos, ◌-ℤ◌, neg_ℤ, max, option_map}
use Rattle.std.proofs.Math.Nat.{max-le}
use Rattle.dcc_num.specs.declared.Width.{Width}
use Rattle.dcc_num.specs.declared.Width.TheVariants.{Byte as byte_width, Word as word_width}
use Rattle.dcc_num.specs.declared.Reg.{Reg}
use Rattle.dcc_num.specs.declared.Reg.TheVariants.{Sp, Bp}
use Rattle.dcc_num.specs.declared.Half.{Half as HalfName}
use Rattle.dcc_num.proofs.Differences.{wrapped_below}
use Rattle.dcc_machine.specs.declared.cpu.Cpu.{Cpu}
use Rattle.dcc_prog.specs.declared.frame.Cell.{Cell}
use Rattle.dcc_machine.specs.declared.instr.Ea.{Ea}
use Rattle.dcc_machine.specs.declared.instr.Operand.{Operand}
use Rattle.dcc_machine.specs.declared.instr.Operand.TheVariants.{Word, Byte, Seg, Mem, Const as Constant}
use Rattle.dcc_machine.specs.declared.instr.Op.{Op}
use Rattle.dcc_machine.specs.declared.instr.Op.TheVariants.{Alu, Unary, Shift, Mov, Xchg, Lea, Imul3, Push, Pop, Call as CallOp}
use Rattle.dcc_machine.specs.Machine.{operand_width, is_bp}
use Rattle.dcc_machine.specs.Access.{is_direct}
use Rattle.dcc_prog.specs.Frame.{offset_in_frame}
use Rattle.dcc_prog.specs.Analysed.{bytes_of}
use Rattle.dcc_machine.specs.WellFormed.{IsOperand, IsOperation}
use Rattle.dcc_stack.specs.Slots.{is_within, is_placed}
use Rattle.dcc_ir.specs.declared.syntax.BinOp.TheVariants.{Add}
use Rattle.dcc_ir.specs.Tree.{Expr, Const, Binary, Address}
use Rattle.dcc_ir.specs.Measure.{depth_of}
use Rattle.dcc_ir.specs.WellFormed.{is_expr, is_expr_of}
use Rattle.dcc_ir.specs.Value.{width_of}
use Rattle.dcc_ops.specs.declared.operand_place.Computed.{Computed}
use Rattle.dcc_ops.specs.Computed.{adding, ending, computed_expr}
use Rattle.dcc_ops.specs.Temporaries.{temporary_bits}
use Rattle.dcc_ops.specs.Expressions.{word_of}
use Rattle.dcc_ops.specs.Registers.{register_place}
use Rattle.dcc_ops.specs.OperandPlace.{OperandPlace, memory, computed}
use Rattle.dcc_simulation.specs.Procedures.{Procedure, cells_of, within_cell, cell_place, distance_of, frame_place}
use Rattle.dcc_simulation.specs.Operands.{from_frame, address_of, memory_place, operand_place, first_place}
use Rattle.dcc_simulation.specs.Operands.{second_place}
use Rattle.dcc_simulation.specs.Statements.{top_place, place_below_top, working_stmts}
use Rattle.dcc_simulation.proofs.TabledOperands.{IsAddress, IsSource, IsRegister, HavePlaces, source-of}
use Rattle.dcc_lift.proofs.ListTests.{and_left, and_right, and_both}
use Rattle.dcc_lift.proofs.FormPlaces.{le-true, below-true, is_shallow, is_sound_expr, are_sound, constant-sound, address-sound, IsGoodPlace}
use Rattle.dcc_lift.proofs.FormOperations.{mov-sound, HasGoodPlaces, op-sound}

-- Computed words.

-- a sum so far is a word, and at most so deep
abbrev IsSum : ℕ → Option Expr → Type 0
IsSum depth None = Unit {0}
IsSum depth (Some e) = (is_expr_of temporary_bits 16 e ≡ true) × (depth_of e ≤ depth)

plus-well : (a b : Expr) → is_expr_of temporary_bits 16 a ≡ true → is_expr_of temporary_bits 16 b ≡ true
    → is_expr_of temporary_bits 16 (Binary Add 16 a b) ≡ true
plus-well a b one other =
    let first = and_left (is_expr temporary_bits a) (width_of temporary_bits a == 16) one in
    let wide = and_right (is_expr temporary_bits a) (width_of temporary_bits a == 16) one in
    let second = and_left (is_expr temporary_bits b) (width_of temporary_bits b == 16) other in
    let broad = and_right (is_expr temporary_bits b) (width_of temporary_bits b == 16) other in
    rw (first, wide, second, broad) refl

plus-deep : (depth : ℕ) (a b : Expr) → depth_of a ≤ depth → depth_of b ≤ depth
    → depth_of (Binary Add 16 a b) ≤ suc depth
plus-deep depth a b one other =
    let both : max (depth_of a) (depth_of b) ≤ depth = max-le one other in omega (arith, both)

adding-sum : (depth : ℕ) (r : Option Reg) (sum : Option Expr) → 2 ≤ depth → IsSum depth sum
    → IsSum (suc depth) (adding r sum)
adding-sum depth None None deep is = tt
adding-sum depth None (Some e) deep is = let below = is.1 in (is.0, omega (arith, below))
adding-sum depth (Some r) None deep is = (refl, omega (arith, deep))
adding-sum depth (Some r) (Some e) deep is =
    (plus-well e (word_of r) is.0 refl, plus-deep depth e (word_of r) is.1 deep)

sound-sum : (e : Expr) → is_expr_of temporary_bits 16 e ≡ true → depth_of e ≤ 7 → is_sound_expr 16 e ≡ true
sound-sum e well below = and_both (is_expr_of temporary_bits 16 e) (is_shallow e) well (le-true (depth_of e) 7 below)

word-well : (n : ℕ) → n < 65536 → is_expr_of temporary_bits 16 (Const 16 n) ≡ true
word-well n fits = and_left (is_expr_of temporary_bits 16 (Const 16 n)) true (constant-sound word_width n fits)

ending-sound : (n : ℕ) (sum : Option Expr) → n < 65536 → IsSum 4 sum → is_sound_expr 16 (ending n sum) ≡ true
ending-sound n None fits is = constant-sound word_width n fits
ending-sound n (Some e) fits is = go (n == 0)
  where
    go : (b : Bool) → is_sound_expr 16 (if b then e else Binary Add 16 e (Const 16 n)) ≡ true
    go true = let below = is.1 in sound-sum e is.0 (omega (arith, below))
    go false =
        let deep = plus-deep 4 e (Const 16 n) is.1 (omega arith) in
        sound-sum (Binary Add 16 e (Const 16 n)) (plus-well e (Const 16 n) is.0 (word-well n fits))
        (omega (arith, deep))

-- a distance fits a word, where there is one
abbrev HasWord : Option ℕ → Type 0
HasWord None = Unit {0}
HasWord (Some distance) = distance < 65536

framed-sum : (distance : Option ℕ) → HasWord distance → IsSum 2 (option_map Address distance)
framed-sum None fits = tt
framed-sum (Some n) fits =
    let below = below-true n 65536 fits in (rw below refl, omega arith)

pub computed-sound : (c : Computed) → HasWord c.frame → c.number < 65536 → is_sound_expr 16 (computed_expr c) ≡ true
computed-sound c fits small =
    ending-sound c.number (adding c.index (adding c.base (option_map Address c.frame))) small
    (adding-sum 3 c.index (adding c.base (option_map Address c.frame)) (omega arith)
    (adding-sum 2 c.base (option_map Address c.frame) (omega arith) (framed-sum c.frame fits)))

pub distance-fits : (k : ℤ) → distance_of k < 65536
distance-fits k = wrapped_below word_width (k -ℤ pos 4)

pub address-of-sound : (ea : Ea) → ea.disp < 65536 → is_sound_expr 16 (computed_expr (address_of ea)) ≡ true
address-of-sound ea small = go (is_bp ea.base)
  where
    by_frame : Computed
    by_frame = record { frame = Some (distance_of (offset_in_frame ea)); base = None; index = ea.index; number = 0 }

    by_base : Computed
    by_base = record { frame = None; base = ea.base; index = ea.index; number = ea.disp }

    go : (b : Bool) → is_sound_expr 16 (computed_expr (if b then by_frame else by_base)) ≡ true
    go true = computed-sound by_frame (distance-fits (offset_in_frame ea)) (omega arith)
    go false = computed-sound by_base tt small

-- Places.

good-computed : (e : Expr) → is_sound_expr 16 e ≡ true → IsGoodPlace word_width (computed e)
good-computed e sound = record { width = refl; sound = refl; value = sound }

good-memory : (w : Width) (at : Expr) → is_sound_expr 16 at ≡ true → IsGoodPlace w (memory w at)
good-memory w at sound = record { width = refl; sound = refl; value = sound }

within-good : (w : Width) (number : ℕ) (cell : Cell) (k : ℤ) → IsGoodPlace w (within_cell number cell w k)
within-good byte_width number cell k = record { width = refl; sound = refl; value = tt }
within-good word_width number cell k = record { width = refl; sound = refl; value = tt }

cell-good : (w : Width) (number : ℕ) (cells : List Cell) (k : ℤ) → IsGoodPlace w (cell_place number cells w k)
cell-good byte_width number [] k = record { width = refl; sound = refl; value = omega arith }
cell-good word_width number [] k = record { width = refl; sound = refl; value = omega arith }
cell-good w number (cell ∷ cells) k = go (is_within k (bytes_of cell)) (cell-good w (suc number) cells k)
  where
    go : (b : Bool) → IsGoodPlace w (cell_place (suc number) cells w k)
        → IsGoodPlace w (if b then within_cell number cell w k else cell_place (suc number) cells w k)
    go true later = within-good w number cell k
    go false later = later

-- a byte or a word of a frame
pub frame-good : (p : Procedure) (w : Width) (k : ℤ) → IsGoodPlace w (frame_place p w k)
frame-good p w k = go (is_placed p.frame k)
  where
    go : (b : Bool)
        → IsGoodPlace w (if b then memory w (Address (distance_of k)) else cell_place 0 (cells_of p) w k)
    go true = good-memory w (Address (distance_of k)) (address-sound (distance_of k) (distance-fits k))
    go false = cell-good w 0 (cells_of p) k

memory-good : (p : Procedure) (w : Width) (ea : Ea) → IsAddress ea → IsGoodPlace w (memory_place p w ea)
memory-good p w ea is = go (is_direct ea)
  where
    go : (b : Bool)
        → IsGoodPlace w (if b then frame_place p w (offset_in_frame ea) else memory w (computed_expr (address_of ea)))
    go true = frame-good p w (offset_in_frame ea)
    go false = good-memory w (computed_expr (address_of ea)) (address-of-sound ea is.small)

from-frame-good : (k number : ℤ) → IsGoodPlace word_width (computed (computed_expr (from_frame k number)))
from-frame-good k number =
    good-computed (computed_expr (from_frame k number))
    (computed-sound (from_frame k number) (distance-fits k) (wrapped_below word_width number))

register-good : (r : Reg) (p : Procedure) (height : ℕ) → IsGoodPlace word_width (operand_place p height (Word r))
register-good Sp p height = from-frame-good (pos 0) ((pos 2 -ℤ pos height) -ℤ pos p.delta)
register-good Bp p height = from-frame-good (pos 2 -ℤ pos height) (pos height -ℤ pos 2)
register-good r p height = record { width = refl; sound = refl; value = tt }

half-good : (r : Reg) (half : HalfName) → IsGoodPlace byte_width (register_place (Byte r half))
half-good r half = record { width = refl; sound = refl; value = tt }

pub operand-good : (p : Procedure) (height : ℕ) (a : Operand) → IsOperand a → IsSource a
    → IsGoodPlace (operand_width a) (operand_place p height a)
operand-good p height (Word r) well is = register-good r p height
operand-good p height (Byte r half) well is = half-good r half
operand-good p height (Seg number) well is = absurd is
operand-good p height (Mem w ea) well is = memory-good p w ea is
operand-good p height (Constant w n) well is = record { width = refl; sound = refl; value = well }

pub register-source : (a : Operand) → IsRegister a → IsSource a
register-source (Word r) is = tt
register-source (Byte r half) is = tt
register-source (Seg number) is = absurd is
register-source (Mem w ea) is = absurd is
register-source (Constant w n) is = absurd is

-- Instructions.

-- of a width that another operand has
same-width : (w v : Width) (p : OperandPlace) → v ≡ w → IsGoodPlace v p → IsGoodPlace w p
same-width w v p same good = subst (λ u. IsGoodPlace u p) same good

places-good : (p : Procedure) (height : ℕ) (op : Op) → IsOperation op → HavePlaces op
    → HasGoodPlaces op (first_place p height op) (second_place p height op)
places-good p height (Alu operation a b) well have = (
  operand-good p height a well.first (source-of a have.target),
  same-width (operand_width a) (operand_width b) (operand_place p height b) (sym well.widths)
      (operand-good p height b well.second have.source),
)
places-good p height (Unary operation a) well have = operand-good p height a well (source-of a have)
places-good p height (Shift operation a count) well have = operand-good p height a well.operand (source-of a have)
places-good p height (Mov to from) well have = (
  operand-good p height to well.first (source-of to have.target),
  same-width (operand_width to) (operand_width from) (operand_place p height from) (sym well.widths)
      (operand-good p height from well.second have.source),
)
places-good p height (Xchg a b) well have = (
  operand-good p height a well.first (source-of a have.target),
  same-width (operand_width a) (operand_width b) (operand_place p height b) (sym well.widths)
      (operand-good p height b well.second (register-source b have.register)),
)
places-good p height (Imul3 r a factor) well have = (
  same-width word_width (operand_width a) (operand_place p height a) well.width
      (operand-good p height a well.operand (source-of a have)),
  well.fits,
)
places-good p height op well have = tt

word-place : (p : Procedure) (height : ℕ) (a : Operand) → IsOperand a → operand_width a ≡ word_width → IsSource a
    → IsGoodPlace word_width (operand_place p height a)
word-place p height a well wide is =
    same-width word_width (operand_width a) (operand_place p height a) wide (operand-good p height a well is)

word-register : (r : Reg) → IsGoodPlace word_width (register_place (Word r))
word-register r = record { width = refl; sound = refl; value = tt }

-- the operation is no CALL
abbrev pub IsNoCall : Op → Type 0
IsNoCall (CallOp target) = ⊥
IsNoCall op = Unit {0}

pub working-sound : (cpu : Cpu) (procedures : List Procedure) (p : Procedure) (height : ℕ) (op : Op) (number : Option ℕ)
    → IsOperation op → HavePlaces op → IsNoCall op
    → are_sound (working_stmts cpu procedures p height op number) ≡ true
working-sound cpu procedures p height (Push a) number well have other =
    mov-sound word_width (place_below_top p height) (operand_place p height a)
    (frame-good p word_width (neg_ℤ (pos height))) (word-place p height a well.operand well.width have)
working-sound cpu procedures p height (Pop a) number well have other =
    mov-sound word_width (operand_place p height a) (top_place p height)
    (word-place p height a well.operand well.width (source-of a have))
    (frame-good p word_width (pos 2 -ℤ pos height))
working-sound cpu procedures p height (Lea r ea) number well have other =
    mov-sound word_width (register_place (Word r)) (computed (computed_expr (address_of ea))) (word-register r)
    (good-computed (computed_expr (address_of ea)) (address-of-sound ea have.small))
working-sound cpu procedures p height (CallOp target) number well have other = absurd other
working-sound cpu procedures p height op number well have other =
    op-sound cpu op number (first_place p height op) (second_place p height op) (places-good p height op well have)
