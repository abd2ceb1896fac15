-- Two operations that are tested as equal are one.
use Rattle.std.proofs.Common.{rules, ◌≡◌, ℕ, Bool, true, ◌&&◌, ◌==◌, Option, Some, None, refl, ap, arith}
use Rattle.std.specs.Option.{option_eq}
use Rattle.std.proofs.lemmas.Bool.Decides.{nat_tests}
use denote.Enum.Bare.{same_true}
use Rattle.dcc_machine.proofs.TableLaws.{and_left, and_right, and_both}
use Rattle.dcc_num.specs.contracts.RegPartialEq.TheImpl as reg_eq
use Rattle.dcc_num.specs.contracts.Reg.{the_type as reg_type}
use Rattle.dcc_num.specs.declared.Reg.{Reg}
use Rattle.dcc_num.specs.declared.Reg.TheVariants.{Ax, Cx, Dx, Bx, Sp, Bp, Si, Di}
use Rattle.dcc_num.specs.contracts.HalfPartialEq.TheImpl as half_eq
use Rattle.dcc_num.specs.contracts.Half.{the_type as half_type}
use Rattle.dcc_num.specs.declared.Half.{Half}
use Rattle.dcc_num.specs.declared.Half.TheVariants.{Low, High}
use Rattle.dcc_num.specs.contracts.WidthPartialEq.TheImpl as width_eq
use Rattle.dcc_num.specs.contracts.Width.{the_type as width_type}
use Rattle.dcc_num.specs.declared.Width.{Width}
use Rattle.dcc_num.specs.declared.Width.TheVariants.{Byte as byte_width, Word as word_width}
use Rattle.dcc_machine.specs.contracts.instr.AluPartialEq.TheImpl as alu_eq
use Rattle.dcc_machine.specs.contracts.instr.Alu.{the_type as alu_type}
use Rattle.dcc_machine.specs.declared.instr.Alu.{Alu}
use Rattle.dcc_machine.specs.declared.instr.Alu.TheVariants.{Add, Or, Adc, Sbb, And, Sub, Xor, Cmp, Test}
use Rattle.dcc_machine.specs.contracts.instr.UnaryPartialEq.TheImpl as unary_eq
use Rattle.dcc_machine.specs.contracts.instr.Unary.{the_type as unary_type}
use Rattle.dcc_machine.specs.declared.instr.Unary.{Unary}
use Rattle.dcc_machine.specs.declared.instr.Unary.TheVariants.{Inc, Dec, Neg, Not, Mul, Imul, Div, Idiv}
use Rattle.dcc_machine.specs.contracts.instr.ShiftPartialEq.TheImpl as shift_eq
use Rattle.dcc_machine.specs.contracts.instr.Shift.{the_type as shift_type}
use Rattle.dcc_machine.specs.declared.instr.Shift.{Shift}
use Rattle.dcc_machine.specs.declared.instr.Shift.TheVariants.{Rol, Ror, Rcl, Rcr, Shl, Shr, Sar}
use Rattle.dcc_machine.specs.contracts.instr.CondPartialEq.TheImpl as cond_eq
use Rattle.dcc_machine.specs.contracts.instr.Cond.{the_type as cond_type}
use Rattle.dcc_machine.specs.declared.instr.Cond.{Cond}
use Rattle.dcc_machine.specs.declared.instr.Cond.TheVariants.{O, No, B, Ae, Z, Nz, Be, A, S, Ns, L, Ge, Le, G}
use Rattle.dcc_machine.specs.contracts.instr.PlainPartialEq.TheImpl as plain_eq
use Rattle.dcc_machine.specs.contracts.instr.Plain.{the_type as plain_type}
use Rattle.dcc_machine.specs.declared.instr.Plain.{Plain}
use Rattle.dcc_machine.specs.declared.instr.Plain.TheVariants.{Nop, Cbw, Cwd, Xlat, Clc, Stc, Cmc, Cli, Sti, Cld}
use Rattle.dcc_machine.specs.contracts.instr.EaPartialEq.TheImpl as ea_eq
use Rattle.dcc_machine.specs.contracts.instr.OperandPartialEq.TheImpl as operand_eq
use Rattle.dcc_machine.specs.contracts.instr.CountPartialEq.TheImpl as count_eq
use Rattle.dcc_machine.specs.contracts.instr.OpPartialEq.TheImpl as op_eq
use Rattle.dcc_machine.specs.declared.instr.Ea.{Ea}
use Rattle.dcc_machine.specs.declared.instr.Count.{Count}
use Rattle.dcc_machine.specs.declared.instr.Count.TheVariants.{One, Cl, Const as ConstCount}
use Rattle.dcc_machine.specs.declared.instr.Operand.{Operand}
use Rattle.dcc_machine.specs.declared.instr.Operand.TheVariants.{Word as WordReg, Byte as ByteReg, Seg, Mem, Const}
use Rattle.dcc_machine.specs.declared.instr.Op.{Op}
use Rattle.dcc_machine.specs.declared.instr.Op.TheVariants.{Alu as AluOp, Unary as UnaryOp, Shift as ShiftOp, Mov, Xchg, Lea, Imul3, Push, Pop, Enter, Leave, Plain as PlainOp, Jump, Branch, Loop, LoopE, LoopNe, Jcxz, Table, Call, Ret, Int21}

-- Numbers and enums --------------------------------------------------------------------------

nat-same : (a b : ℕ) → a == b ≡ true → a ≡ b
nat-same a b h = grind (arith, nat_tests)

nat-tested : (a : ℕ) → a == a ≡ true
nat-tested a = grind (arith, nat_tests)

reg-same : (x y : Reg) → (reg_eq.ghosts).eq x y ≡ true → x ≡ y
reg-same x y h = same_true reg_type (search rules) x y h

reg-tested : (x : Reg) → (reg_eq.ghosts).eq x x ≡ true
reg-tested Ax = refl
reg-tested Cx = refl
reg-tested Dx = refl
reg-tested Bx = refl
reg-tested Sp = refl
reg-tested Bp = refl
reg-tested Si = refl
reg-tested Di = refl

half-same : (x y : Half) → (half_eq.ghosts).eq x y ≡ true → x ≡ y
half-same x y h = same_true half_type (search rules) x y h

half-tested : (x : Half) → (half_eq.ghosts).eq x x ≡ true
half-tested Low = refl
half-tested High = refl

width-same : (x y : Width) → (width_eq.ghosts).eq x y ≡ true → x ≡ y
width-same x y h = same_true width_type (search rules) x y h

width-tested : (x : Width) → (width_eq.ghosts).eq x x ≡ true
width-tested byte_width = refl
width-tested word_width = refl

alu-same : (x y : Alu) → (alu_eq.ghosts).eq x y ≡ true → x ≡ y
alu-same x y h = same_true alu_type (search rules) x y h

alu-tested : (x : Alu) → (alu_eq.ghosts).eq x x ≡ true
alu-tested Add = refl
alu-tested Or = refl
alu-tested Adc = refl
alu-tested Sbb = refl
alu-tested And = refl
alu-tested Sub = refl
alu-tested Xor = refl
alu-tested Cmp = refl
alu-tested Test = refl

unary-same : (x y : Unary) → (unary_eq.ghosts).eq x y ≡ true → x ≡ y
unary-same x y h = same_true unary_type (search rules) x y h

unary-tested : (x : Unary) → (unary_eq.ghosts).eq x x ≡ true
unary-tested Inc = refl
unary-tested Dec = refl
unary-tested Neg = refl
unary-tested Not = refl
unary-tested Mul = refl
unary-tested Imul = refl
unary-tested Div = refl
unary-tested Idiv = refl

shift-same : (x y : Shift) → (shift_eq.ghosts).eq x y ≡ true → x ≡ y
shift-same x y h = same_true shift_type (search rules) x y h

shift-tested : (x : Shift) → (shift_eq.ghosts).eq x x ≡ true
shift-tested Rol = refl
shift-tested Ror = refl
shift-tested Rcl = refl
shift-tested Rcr = refl
shift-tested Shl = refl
shift-tested Shr = refl
shift-tested Sar = refl

cond-same : (x y : Cond) → (cond_eq.ghosts).eq x y ≡ true → x ≡ y
cond-same x y h = same_true cond_type (search rules) x y h

cond-tested : (x : Cond) → (cond_eq.ghosts).eq x x ≡ true
cond-tested O = refl
cond-tested No = refl
cond-tested B = refl
cond-tested Ae = refl
cond-tested Z = refl
cond-tested Nz = refl
cond-tested Be = refl
cond-tested A = refl
cond-tested S = refl
cond-tested Ns = refl
cond-tested L = refl
cond-tested Ge = refl
cond-tested Le = refl
cond-tested G = refl

plain-same : (x y : Plain) → (plain_eq.ghosts).eq x y ≡ true → x ≡ y
plain-same x y h = same_true plain_type (search rules) x y h

plain-tested : (x : Plain) → (plain_eq.ghosts).eq x x ≡ true
plain-tested Nop = refl
plain-tested Cbw = refl
plain-tested Cwd = refl
plain-tested Xlat = refl
plain-tested Clc = refl
plain-tested Stc = refl
plain-tested Cmc = refl
plain-tested Cli = refl
plain-tested Sti = refl
plain-tested Cld = refl

-- Addresses and operands ----------------------------------------------------------------------

option-same : (x y : Option Reg) → option_eq (reg_eq.ghosts).eq x y ≡ true → x ≡ y
option-same None None h = refl
option-same None (Some y) h = cc
option-same (Some x) None h = cc
option-same (Some x) (Some y) h = ap (λ r. Some r) (reg-same x y h)

option-tested : (x : Option Reg) → option_eq (reg_eq.ghosts).eq x x ≡ true
option-tested None = refl
option-tested (Some x) = reg-tested x

ea-made : {a b c d : Option Reg} {m n : ℕ} → a ≡ b → c ≡ d → m ≡ n
    → ◌≡◌ {A = Ea} (record { base = a; index = c; disp = m }) (record { base = b; index = d; disp = n })
ea-made p q r = cc

ea-same : (x y : Ea) → (ea_eq.ghosts).eq x y ≡ true → x ≡ y
ea-same x y h =
    let base : Bool = option_eq (reg_eq.ghosts).eq x.base y.base in
    let index : Bool = option_eq (reg_eq.ghosts).eq x.index y.index in
    let rest = and_right base (index && (x.disp == y.disp)) h in
    ea-made (option-same x.base y.base (and_left base (index && (x.disp == y.disp)) h))
    (option-same x.index y.index (and_left index (x.disp == y.disp) rest)) (nat-same x.disp y.disp (and_right index (x.disp == y.disp) rest))

ea-tested : (x : Ea) → (ea_eq.ghosts).eq x x ≡ true
ea-tested x = and_both _ _ (option-tested x.base) (and_both _ _ (option-tested x.index) (nat-tested x.disp))

operand-same : (x y : Operand) → (operand_eq.ghosts).eq x y ≡ true → x ≡ y
operand-same (WordReg a0) (WordReg b0) h = ap (λ z. WordReg z) (reg-same a0 b0 h)
operand-same (ByteReg a0 a1) (ByteReg b0 b1) h =
    let p0 = reg-same a0 b0 (and_left ((reg_eq.ghosts).eq a0 b0) ((half_eq.ghosts).eq a1 b1) h) in
    let h0 = and_right ((reg_eq.ghosts).eq a0 b0) ((half_eq.ghosts).eq a1 b1) h in
    let p1 = half-same a1 b1 h0 in
    cc
operand-same (Seg a0) (Seg b0) h = ap (λ z. Seg z) (nat-same a0 b0 h)
operand-same (Mem a0 a1) (Mem b0 b1) h =
    let p0 = width-same a0 b0 (and_left ((width_eq.ghosts).eq a0 b0) ((ea_eq.ghosts).eq a1 b1) h) in
    let h0 = and_right ((width_eq.ghosts).eq a0 b0) ((ea_eq.ghosts).eq a1 b1) h in
    let p1 = ea-same a1 b1 h0 in
    cc
operand-same (Const a0 a1) (Const b0 b1) h =
    let p0 = width-same a0 b0 (and_left ((width_eq.ghosts).eq a0 b0) (a1 == b1) h) in
    let h0 = and_right ((width_eq.ghosts).eq a0 b0) (a1 == b1) h in
    let p1 = nat-same a1 b1 h0 in
    cc
operand-same x y h = cc

operand-tested : (x : Operand) → (operand_eq.ghosts).eq x x ≡ true
operand-tested (WordReg a0) = (reg-tested a0)
operand-tested (ByteReg a0 a1) = (and_both ((reg_eq.ghosts).eq a0 a0) ((half_eq.ghosts).eq a1 a1) (reg-tested a0) (half-tested a1))
operand-tested (Seg a0) = (nat-tested a0)
operand-tested (Mem a0 a1) = (and_both ((width_eq.ghosts).eq a0 a0) ((ea_eq.ghosts).eq a1 a1) (width-tested a0) (ea-tested a1))
operand-tested (Const a0 a1) = (and_both ((width_eq.ghosts).eq a0 a0) (a1 == a1) (width-tested a0) (nat-tested a1))

count-same : (x y : Count) → (count_eq.ghosts).eq x y ≡ true → x ≡ y
count-same One One h = refl
count-same Cl Cl h = refl
count-same (ConstCount a0) (ConstCount b0) h = ap (λ z. ConstCount z) (nat-same a0 b0 h)
count-same x y h = cc

count-tested : (x : Count) → (count_eq.ghosts).eq x x ≡ true
count-tested One = refl
count-tested Cl = refl
count-tested (ConstCount a0) = (nat-tested a0)

-- Operations ----------------------------------------------------------------------------------

pub op-same : (x y : Op) → (op_eq.ghosts).eq x y ≡ true → x ≡ y
op-same (AluOp a0 a1 a2) (AluOp b0 b1 b2) h =
    let p0 = alu-same a0 b0 (and_left ((alu_eq.ghosts).eq a0 b0) (((operand_eq.ghosts).eq a1 b1) && ((operand_eq.ghosts).eq a2 b2)) h) in
    let h0 = and_right ((alu_eq.ghosts).eq a0 b0) (((operand_eq.ghosts).eq a1 b1) && ((operand_eq.ghosts).eq a2 b2)) h in
    let p1 = operand-same a1 b1 (and_left ((operand_eq.ghosts).eq a1 b1) ((operand_eq.ghosts).eq a2 b2) h0) in
    let h1 = and_right ((operand_eq.ghosts).eq a1 b1) ((operand_eq.ghosts).eq a2 b2) h0 in
    let p2 = operand-same a2 b2 h1 in
    cc
op-same (UnaryOp a0 a1) (UnaryOp b0 b1) h =
    let p0 = unary-same a0 b0 (and_left ((unary_eq.ghosts).eq a0 b0) ((operand_eq.ghosts).eq a1 b1) h) in
    let h0 = and_right ((unary_eq.ghosts).eq a0 b0) ((operand_eq.ghosts).eq a1 b1) h in
    let p1 = operand-same a1 b1 h0 in
    cc
op-same (ShiftOp a0 a1 a2) (ShiftOp b0 b1 b2) h =
    let p0 = shift-same a0 b0 (and_left ((shift_eq.ghosts).eq a0 b0) (((operand_eq.ghosts).eq a1 b1) && ((count_eq.ghosts).eq a2 b2)) h) in
    let h0 = and_right ((shift_eq.ghosts).eq a0 b0) (((operand_eq.ghosts).eq a1 b1) && ((count_eq.ghosts).eq a2 b2)) h in
    let p1 = operand-same a1 b1 (and_left ((operand_eq.ghosts).eq a1 b1) ((count_eq.ghosts).eq a2 b2) h0) in
    let h1 = and_right ((operand_eq.ghosts).eq a1 b1) ((count_eq.ghosts).eq a2 b2) h0 in
    let p2 = count-same a2 b2 h1 in
    cc
op-same (Mov a0 a1) (Mov b0 b1) h =
    let p0 = operand-same a0 b0 (and_left ((operand_eq.ghosts).eq a0 b0) ((operand_eq.ghosts).eq a1 b1) h) in
    let h0 = and_right ((operand_eq.ghosts).eq a0 b0) ((operand_eq.ghosts).eq a1 b1) h in
    let p1 = operand-same a1 b1 h0 in
    cc
op-same (Xchg a0 a1) (Xchg b0 b1) h =
    let p0 = operand-same a0 b0 (and_left ((operand_eq.ghosts).eq a0 b0) ((operand_eq.ghosts).eq a1 b1) h) in
    let h0 = and_right ((operand_eq.ghosts).eq a0 b0) ((operand_eq.ghosts).eq a1 b1) h in
    let p1 = operand-same a1 b1 h0 in
    cc
op-same (Lea a0 a1) (Lea b0 b1) h =
    let p0 = reg-same a0 b0 (and_left ((reg_eq.ghosts).eq a0 b0) ((ea_eq.ghosts).eq a1 b1) h) in
    let h0 = and_right ((reg_eq.ghosts).eq a0 b0) ((ea_eq.ghosts).eq a1 b1) h in
    let p1 = ea-same a1 b1 h0 in
    cc
op-same (Imul3 a0 a1 a2) (Imul3 b0 b1 b2) h =
    let p0 = reg-same a0 b0 (and_left ((reg_eq.ghosts).eq a0 b0) (((operand_eq.ghosts).eq a1 b1) && (a2 == b2)) h) in
    let h0 = and_right ((reg_eq.ghosts).eq a0 b0) (((operand_eq.ghosts).eq a1 b1) && (a2 == b2)) h in
    let p1 = operand-same a1 b1 (and_left ((operand_eq.ghosts).eq a1 b1) (a2 == b2) h0) in
    let h1 = and_right ((operand_eq.ghosts).eq a1 b1) (a2 == b2) h0 in
    let p2 = nat-same a2 b2 h1 in
    cc
op-same (Push a0) (Push b0) h = ap (λ z. Push z) (operand-same a0 b0 h)
op-same (Pop a0) (Pop b0) h = ap (λ z. Pop z) (operand-same a0 b0 h)
op-same (Enter a0) (Enter b0) h = ap (λ z. Enter z) (nat-same a0 b0 h)
op-same Leave Leave h = refl
op-same (PlainOp a0) (PlainOp b0) h = ap (λ z. PlainOp z) (plain-same a0 b0 h)
op-same (Jump a0) (Jump b0) h = ap (λ z. Jump z) (nat-same a0 b0 h)
op-same (Branch a0 a1) (Branch b0 b1) h =
    let p0 = cond-same a0 b0 (and_left ((cond_eq.ghosts).eq a0 b0) (a1 == b1) h) in
    let h0 = and_right ((cond_eq.ghosts).eq a0 b0) (a1 == b1) h in
    let p1 = nat-same a1 b1 h0 in
    cc
op-same (Loop a0) (Loop b0) h = ap (λ z. Loop z) (nat-same a0 b0 h)
op-same (LoopE a0) (LoopE b0) h = ap (λ z. LoopE z) (nat-same a0 b0 h)
op-same (LoopNe a0) (LoopNe b0) h = ap (λ z. LoopNe z) (nat-same a0 b0 h)
op-same (Jcxz a0) (Jcxz b0) h = ap (λ z. Jcxz z) (nat-same a0 b0 h)
op-same (Table a0 a1) (Table b0 b1) h =
    let p0 = reg-same a0 b0 (and_left ((reg_eq.ghosts).eq a0 b0) (a1 == b1) h) in
    let h0 = and_right ((reg_eq.ghosts).eq a0 b0) (a1 == b1) h in
    let p1 = nat-same a1 b1 h0 in
    cc
op-same (Call a0) (Call b0) h = ap (λ z. Call z) (nat-same a0 b0 h)
op-same (Ret a0) (Ret b0) h = ap (λ z. Ret z) (nat-same a0 b0 h)
op-same Int21 Int21 h = refl
op-same x y h = cc

pub op-tested : (x : Op) → (op_eq.ghosts).eq x x ≡ true
op-tested (AluOp a0 a1 a2) = (and_both ((alu_eq.ghosts).eq a0 a0) (((operand_eq.ghosts).eq a1 a1) && ((operand_eq.ghosts).eq a2 a2)) (alu-tested a0) (and_both ((operand_eq.ghosts).eq a1 a1) ((operand_eq.ghosts).eq a2 a2) (operand-tested a1) (operand-tested a2)))
op-tested (UnaryOp a0 a1) = (and_both ((unary_eq.ghosts).eq a0 a0) ((operand_eq.ghosts).eq a1 a1) (unary-tested a0) (operand-tested a1))
op-tested (ShiftOp a0 a1 a2) = (and_both ((shift_eq.ghosts).eq a0 a0) (((operand_eq.ghosts).eq a1 a1) && ((count_eq.ghosts).eq a2 a2)) (shift-tested a0) (and_both ((operand_eq.ghosts).eq a1 a1) ((count_eq.ghosts).eq a2 a2) (operand-tested a1) (count-tested a2)))
op-tested (Mov a0 a1) = (and_both ((operand_eq.ghosts).eq a0 a0) ((operand_eq.ghosts).eq a1 a1) (operand-tested a0) (operand-tested a1))
op-tested (Xchg a0 a1) = (and_both ((operand_eq.ghosts).eq a0 a0) ((operand_eq.ghosts).eq a1 a1) (operand-tested a0) (operand-tested a1))
op-tested (Lea a0 a1) = (and_both ((reg_eq.ghosts).eq a0 a0) ((ea_eq.ghosts).eq a1 a1) (reg-tested a0) (ea-tested a1))
op-tested (Imul3 a0 a1 a2) = (and_both ((reg_eq.ghosts).eq a0 a0) (((operand_eq.ghosts).eq a1 a1) && (a2 == a2)) (reg-tested a0) (and_both ((operand_eq.ghosts).eq a1 a1) (a2 == a2) (operand-tested a1) (nat-tested a2)))
op-tested (Push a0) = (operand-tested a0)
op-tested (Pop a0) = (operand-tested a0)
op-tested (Enter a0) = (nat-tested a0)
op-tested Leave = refl
op-tested (PlainOp a0) = (plain-tested a0)
op-tested (Jump a0) = (nat-tested a0)
op-tested (Branch a0 a1) = (and_both ((cond_eq.ghosts).eq a0 a0) (a1 == a1) (cond-tested a0) (nat-tested a1))
op-tested (Loop a0) = (nat-tested a0)
op-tested (LoopE a0) = (nat-tested a0)
op-tested (LoopNe a0) = (nat-tested a0)
op-tested (Jcxz a0) = (nat-tested a0)
op-tested (Table a0 a1) = (and_both ((reg_eq.ghosts).eq a0 a0) (a1 == a1) (reg-tested a0) (nat-tested a1))
op-tested (Call a0) = (nat-tested a0)
op-tested (Ret a0) = (nat-tested a0)
op-tested Int21 = refl
