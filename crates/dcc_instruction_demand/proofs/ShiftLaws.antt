-- Shifts and rotates: what the work of their statements makes, and what dcc_machine_demand tells of them, by tables.
use Rattle.std.proofs.Common.{◌≡◌, ℤ, Bool, true, false, not, ◌&&◌, ◌||◌, if◌then◌else◌, List, [], ◌∷◌, ◌++◌, refl, sym, ap, ◌∙◌, true≢false}
use Rattle.std.specs.List.{list_any}
use Rattle.dcc_num.specs.declared.Width.{Width}
use Rattle.dcc_num.specs.declared.Width.TheVariants.{Byte as byte_width, Word as word_width}
use Rattle.dcc_num.specs.declared.FlagName.{FlagName}
use Rattle.dcc_num.specs.declared.FlagName.TheVariants.{Cf, Of}
use Rattle.dcc_machine.specs.declared.instr.Shift.{Shift}
use Rattle.dcc_machine.specs.declared.instr.Shift.TheVariants.{Rol, Ror, Rcl, Rcr, Shl, Shr, Sar}
use Rattle.dcc_machine.specs.declared.instr.Count.TheVariants.{One, Cl}
use Rattle.dcc_machine.specs.Writes.{shift_writes_flag}
use Rattle.dcc_machine.specs.Wanted.{Location, flag_of, is_flag, is_through_carry, is_constant_flag, brings_carry}
use Rattle.dcc_ir.specs.declared.syntax.Loc.TheVariants.{Flag}
use Rattle.dcc_ir.specs.declared.syntax.BinOp.TheVariants.{Xor as XorOp, Shl as ShlOp, Shr as ShrOp, Sar as SarOp}
use Rattle.dcc_ir.specs.Tree.{Binary, Stmt}
use Rattle.dcc_ops.specs.Expressions.{left, result, bit, sign, below_sign, lowest, shifted, nearly_shifted, rol_value, ror_value}
use Rattle.dcc_ops.specs.Statements.{result_taking, shift_flags as flags_of_shift, rotate_flags, shift_working}
use Rattle.dcc_lift.proofs.ListTests.{and_left, and_right}
use Rattle.dcc_machine_demand.specs.Holders.{Holder, held, in_frame}
use Rattle.dcc_instruction_demand.proofs.ValueLaws.{is_written}
use Rattle.dcc_instruction_demand.proofs.ClosedLaws.{same_test, tests_same}
use Rattle.dcc_instruction_demand.proofs.FormLaws.{Input, first, second, carry, itself, has_itself, made_by, IsWork}
use Rattle.dcc_instruction_demand.proofs.WorkLaws.{all_flags, every_flag, worked, flags_written}

-- What the result and the flags are made of, where the count is in CL or not, and where OF is 0 for it or not.

abbrev pub shift_inputs : Shift → List Input
shift_inputs operation = if is_through_carry operation then first ∷ carry ∷ [] else first ∷ second ∷ []

abbrev base_inputs : Shift → FlagName → List Input
base_inputs Sar Of = []
base_inputs Shr Of = first ∷ []
base_inputs Rcl Of = first ∷ carry ∷ []
base_inputs Rcr Of = first ∷ carry ∷ []
base_inputs Rcl f = first ∷ []
base_inputs Rcr f = first ∷ []
base_inputs operation f = first ∷ second ∷ []

abbrev pub is_overflow : FlagName → Bool
is_overflow Of = true
is_overflow f = false

abbrev pub shift_flags : Shift → Bool → Bool → FlagName → List Input
shift_flags operation cl cleared f =
    if not (shift_writes_flag operation f) then itself ∷ []
    else if cl && not (is_through_carry operation) then second ∷ itself ∷ base_inputs operation f
    else if cleared && is_overflow f then []
    else base_inputs operation f

-- what is not written stays
pub unwritten_inputs : (operation : Shift) (cl cleared : Bool) (f : FlagName) → shift_writes_flag operation f ≡ false → shift_flags operation cl cleared f ≡ itself ∷ []
unwritten_inputs operation cl cleared f e =
    ap (λ s. if not s then itself ∷ [] else if cl && not (is_through_carry operation) then second ∷ itself ∷ base_inputs operation f else if cleared && is_overflow f then [] else base_inputs operation f) e

abbrev pub Works : Shift → Width → List Stmt → Bool → Bool → Type 0
Works operation w working cl cleared =
    IsWork w working (shift_inputs operation) (shift_flags operation cl cleared) × ((f : FlagName) → shift_writes_flag operation f ≡ is_written working (Flag f))

works_by : (operation : Shift) (w : Width) (working : List Stmt) (cl cleared : Bool) → IsWork w working (shift_inputs operation) (shift_flags operation cl cleared)
    → all_flags (λ f. same_test (shift_writes_flag operation f) (is_written working (Flag f))) ≡ true → Works operation w working cl cleared
works_by operation w working cl cleared work t = (work, flags_written working (shift_writes_flag operation) t)

-- by a constant, which is 1 or not
abbrev pub const_working : Bool → Shift → Width → List Stmt
const_working c Shl w =
    result_taking w (shifted ShlOp w)
    ++ flags_of_shift w One (if c then Binary XorOp 1 (sign w (nearly_shifted ShlOp w)) (sign w (result w)) else bit 0) (sign w (nearly_shifted ShlOp w))
const_working c Shr w = result_taking w (shifted ShrOp w) ++ flags_of_shift w One (if c then sign w (left w) else bit 0) (lowest (nearly_shifted ShrOp w))
const_working c Sar w = result_taking w (shifted SarOp w) ++ flags_of_shift w One (bit 0) (lowest (nearly_shifted SarOp w))
const_working c Rol w = result_taking w (rol_value w) ++ rotate_flags w One (if c then Binary XorOp 1 (lowest (result w)) (sign w (result w)) else bit 0) (lowest (result w))
const_working c Ror w = result_taking w (ror_value w) ++ rotate_flags w One (if c then Binary XorOp 1 (sign w (result w)) (below_sign w (result w)) else bit 0) (sign w (result w))
const_working c operation w = []

-- What dcc_machine_demand tells: the operand is read, CL is the place, CF is the place.

abbrev pub result_made : Shift → Bool → Bool → Bool → Bool → Bool
result_made operation cl r y k = r || (((cl && not (is_through_carry operation)) && y) || (is_through_carry operation &&
    k))

abbrev pub flag_made : Shift → Bool → Bool → FlagName → Bool → Bool → Bool → Bool
flag_made operation cl cleared f r y k =
    ((not (is_constant_flag operation f) && r) || (((cl && not (is_through_carry operation)) && y) || (brings_carry operation (flag_of f) && k))) && not (cleared && is_overflow f)

abbrev pub input_value : Bool → Bool → Bool → Input → Bool
input_value r c k first = r
input_value r c k second = c
input_value r c k carry = k
input_value r c k itself = false

abbrev pub made_value : List Input → Bool → Bool → Bool → Bool
made_value inputs r c k = list_any (input_value r c k) inputs

abbrev each : (Bool → Bool) → Bool
each test = test true && test false

each_one : (test : Bool → Bool) → each test ≡ true → (b : Bool) → test b ≡ true
each_one test t true = and_left (test true) (test false) t
each_one test t false = and_right (test true) (test false) t

abbrev every_three : (Bool → Bool → Bool → Bool) → Bool
every_three test = each (λ r. each (λ y. each (test r y)))

three : (test : Bool → Bool → Bool → Bool) → every_three test ≡ true → (r y k : Bool) → test r y k ≡ true
three test t r y k = each_one (test r y) (each_one (λ y. each (test r y)) (each_one (λ r. each (λ y. each (test r y))) t r) y) k

-- the table of an operation
abbrev result_told : Shift → Bool → Bool
result_told operation cl = every_three (λ r y k. same_test (result_made operation cl r y k) (made_value (shift_inputs operation) r (cl && y) k))

abbrev flag_told : Shift → Bool → Bool → FlagName → Bool
flag_told operation cl cleared f =
    every_three (λ r y k. not (shift_writes_flag operation f) || same_test (flag_made operation cl cleared f r y k) (made_value (shift_flags operation cl cleared f) r (cl && y) k))

abbrev sure_told : Shift → Bool → Bool → FlagName → Bool
sure_told operation cl cleared f =
    same_test (shift_writes_flag operation f && (shift_writes_flag operation f && not (cl && not (is_through_carry operation)))) (not (has_itself (shift_flags operation cl cleared f)))

abbrev is_told : Shift → Bool → Bool → Bool
is_told operation cl cleared = result_told operation cl && (all_flags (flag_told operation cl cleared) && all_flags (sure_told operation cl cleared))

-- the count is in CL, or a constant, which RCL and RCR don't have
abbrev pub may_be : Shift → Bool → Bool → Bool
may_be operation cl cleared = not cleared || (not cl && not (is_through_carry operation))

-- Tables.

pub one_work : (operation : Shift) (w : Width) → Works operation w (shift_working operation w One) false false
one_work Shl byte_width = works_by Shl byte_width (shift_working Shl byte_width One) false false (worked byte_width (shift_working Shl byte_width One) (shift_inputs Shl) (shift_flags Shl false false) refl (λ r h. refl) (λ n h. refl) (λ r h. refl) (λ n h. refl)) refl
one_work Shl word_width = works_by Shl word_width (shift_working Shl word_width One) false false (worked word_width (shift_working Shl word_width One) (shift_inputs Shl) (shift_flags Shl false false) refl (λ r h. refl) (λ n h. refl) (λ r h. refl) (λ n h. refl)) refl
one_work Shr byte_width = works_by Shr byte_width (shift_working Shr byte_width One) false false (worked byte_width (shift_working Shr byte_width One) (shift_inputs Shr) (shift_flags Shr false false) refl (λ r h. refl) (λ n h. refl) (λ r h. refl) (λ n h. refl)) refl
one_work Shr word_width = works_by Shr word_width (shift_working Shr word_width One) false false (worked word_width (shift_working Shr word_width One) (shift_inputs Shr) (shift_flags Shr false false) refl (λ r h. refl) (λ n h. refl) (λ r h. refl) (λ n h. refl)) refl
one_work Sar byte_width = works_by Sar byte_width (shift_working Sar byte_width One) false false (worked byte_width (shift_working Sar byte_width One) (shift_inputs Sar) (shift_flags Sar false false) refl (λ r h. refl) (λ n h. refl) (λ r h. refl) (λ n h. refl)) refl
one_work Sar word_width = works_by Sar word_width (shift_working Sar word_width One) false false (worked word_width (shift_working Sar word_width One) (shift_inputs Sar) (shift_flags Sar false false) refl (λ r h. refl) (λ n h. refl) (λ r h. refl) (λ n h. refl)) refl
one_work Rol byte_width = works_by Rol byte_width (shift_working Rol byte_width One) false false (worked byte_width (shift_working Rol byte_width One) (shift_inputs Rol) (shift_flags Rol false false) refl (λ r h. refl) (λ n h. refl) (λ r h. refl) (λ n h. refl)) refl
one_work Rol word_width = works_by Rol word_width (shift_working Rol word_width One) false false (worked word_width (shift_working Rol word_width One) (shift_inputs Rol) (shift_flags Rol false false) refl (λ r h. refl) (λ n h. refl) (λ r h. refl) (λ n h. refl)) refl
one_work Ror byte_width = works_by Ror byte_width (shift_working Ror byte_width One) false false (worked byte_width (shift_working Ror byte_width One) (shift_inputs Ror) (shift_flags Ror false false) refl (λ r h. refl) (λ n h. refl) (λ r h. refl) (λ n h. refl)) refl
one_work Ror word_width = works_by Ror word_width (shift_working Ror word_width One) false false (worked word_width (shift_working Ror word_width One) (shift_inputs Ror) (shift_flags Ror false false) refl (λ r h. refl) (λ n h. refl) (λ r h. refl) (λ n h. refl)) refl
one_work Rcl byte_width = works_by Rcl byte_width (shift_working Rcl byte_width One) false false (worked byte_width (shift_working Rcl byte_width One) (shift_inputs Rcl) (shift_flags Rcl false false) refl (λ r h. refl) (λ n h. refl) (λ r h. refl) (λ n h. refl)) refl
one_work Rcl word_width = works_by Rcl word_width (shift_working Rcl word_width One) false false (worked word_width (shift_working Rcl word_width One) (shift_inputs Rcl) (shift_flags Rcl false false) refl (λ r h. refl) (λ n h. refl) (λ r h. refl) (λ n h. refl)) refl
one_work Rcr byte_width = works_by Rcr byte_width (shift_working Rcr byte_width One) false false (worked byte_width (shift_working Rcr byte_width One) (shift_inputs Rcr) (shift_flags Rcr false false) refl (λ r h. refl) (λ n h. refl) (λ r h. refl) (λ n h. refl)) refl
one_work Rcr word_width = works_by Rcr word_width (shift_working Rcr word_width One) false false (worked word_width (shift_working Rcr word_width One) (shift_inputs Rcr) (shift_flags Rcr false false) refl (λ r h. refl) (λ n h. refl) (λ r h. refl) (λ n h. refl)) refl

pub cl_work : (operation : Shift) (w : Width) → Works operation w (shift_working operation w Cl) true false
cl_work Shl byte_width = works_by Shl byte_width (shift_working Shl byte_width Cl) true false (worked byte_width (shift_working Shl byte_width Cl) (shift_inputs Shl) (shift_flags Shl true false) refl (λ r h. refl) (λ n h. refl) (λ r h. refl) (λ n h. refl)) refl
cl_work Shl word_width = works_by Shl word_width (shift_working Shl word_width Cl) true false (worked word_width (shift_working Shl word_width Cl) (shift_inputs Shl) (shift_flags Shl true false) refl (λ r h. refl) (λ n h. refl) (λ r h. refl) (λ n h. refl)) refl
cl_work Shr byte_width = works_by Shr byte_width (shift_working Shr byte_width Cl) true false (worked byte_width (shift_working Shr byte_width Cl) (shift_inputs Shr) (shift_flags Shr true false) refl (λ r h. refl) (λ n h. refl) (λ r h. refl) (λ n h. refl)) refl
cl_work Shr word_width = works_by Shr word_width (shift_working Shr word_width Cl) true false (worked word_width (shift_working Shr word_width Cl) (shift_inputs Shr) (shift_flags Shr true false) refl (λ r h. refl) (λ n h. refl) (λ r h. refl) (λ n h. refl)) refl
cl_work Sar byte_width = works_by Sar byte_width (shift_working Sar byte_width Cl) true false (worked byte_width (shift_working Sar byte_width Cl) (shift_inputs Sar) (shift_flags Sar true false) refl (λ r h. refl) (λ n h. refl) (λ r h. refl) (λ n h. refl)) refl
cl_work Sar word_width = works_by Sar word_width (shift_working Sar word_width Cl) true false (worked word_width (shift_working Sar word_width Cl) (shift_inputs Sar) (shift_flags Sar true false) refl (λ r h. refl) (λ n h. refl) (λ r h. refl) (λ n h. refl)) refl
cl_work Rol byte_width = works_by Rol byte_width (shift_working Rol byte_width Cl) true false (worked byte_width (shift_working Rol byte_width Cl) (shift_inputs Rol) (shift_flags Rol true false) refl (λ r h. refl) (λ n h. refl) (λ r h. refl) (λ n h. refl)) refl
cl_work Rol word_width = works_by Rol word_width (shift_working Rol word_width Cl) true false (worked word_width (shift_working Rol word_width Cl) (shift_inputs Rol) (shift_flags Rol true false) refl (λ r h. refl) (λ n h. refl) (λ r h. refl) (λ n h. refl)) refl
cl_work Ror byte_width = works_by Ror byte_width (shift_working Ror byte_width Cl) true false (worked byte_width (shift_working Ror byte_width Cl) (shift_inputs Ror) (shift_flags Ror true false) refl (λ r h. refl) (λ n h. refl) (λ r h. refl) (λ n h. refl)) refl
cl_work Ror word_width = works_by Ror word_width (shift_working Ror word_width Cl) true false (worked word_width (shift_working Ror word_width Cl) (shift_inputs Ror) (shift_flags Ror true false) refl (λ r h. refl) (λ n h. refl) (λ r h. refl) (λ n h. refl)) refl
cl_work Rcl byte_width = works_by Rcl byte_width (shift_working Rcl byte_width Cl) true false (worked byte_width (shift_working Rcl byte_width Cl) (shift_inputs Rcl) (shift_flags Rcl true false) refl (λ r h. refl) (λ n h. refl) (λ r h. refl) (λ n h. refl)) refl
cl_work Rcl word_width = works_by Rcl word_width (shift_working Rcl word_width Cl) true false (worked word_width (shift_working Rcl word_width Cl) (shift_inputs Rcl) (shift_flags Rcl true false) refl (λ r h. refl) (λ n h. refl) (λ r h. refl) (λ n h. refl)) refl
cl_work Rcr byte_width = works_by Rcr byte_width (shift_working Rcr byte_width Cl) true false (worked byte_width (shift_working Rcr byte_width Cl) (shift_inputs Rcr) (shift_flags Rcr true false) refl (λ r h. refl) (λ n h. refl) (λ r h. refl) (λ n h. refl)) refl
cl_work Rcr word_width = works_by Rcr word_width (shift_working Rcr word_width Cl) true false (worked word_width (shift_working Rcr word_width Cl) (shift_inputs Rcr) (shift_flags Rcr true false) refl (λ r h. refl) (λ n h. refl) (λ r h. refl) (λ n h. refl)) refl

pub const_work : (c : Bool) (operation : Shift) (w : Width) → is_through_carry operation ≡ false → Works operation w (const_working c operation w) false (not c)
const_work true Shl byte_width e = works_by Shl byte_width (const_working true Shl byte_width) false false (worked byte_width (const_working true Shl byte_width) (shift_inputs Shl) (shift_flags Shl false false) refl (λ r h. refl) (λ n h. refl) (λ r h. refl) (λ n h. refl)) refl
const_work true Shl word_width e = works_by Shl word_width (const_working true Shl word_width) false false (worked word_width (const_working true Shl word_width) (shift_inputs Shl) (shift_flags Shl false false) refl (λ r h. refl) (λ n h. refl) (λ r h. refl) (λ n h. refl)) refl
const_work true Shr byte_width e = works_by Shr byte_width (const_working true Shr byte_width) false false (worked byte_width (const_working true Shr byte_width) (shift_inputs Shr) (shift_flags Shr false false) refl (λ r h. refl) (λ n h. refl) (λ r h. refl) (λ n h. refl)) refl
const_work true Shr word_width e = works_by Shr word_width (const_working true Shr word_width) false false (worked word_width (const_working true Shr word_width) (shift_inputs Shr) (shift_flags Shr false false) refl (λ r h. refl) (λ n h. refl) (λ r h. refl) (λ n h. refl)) refl
const_work true Sar byte_width e = works_by Sar byte_width (const_working true Sar byte_width) false false (worked byte_width (const_working true Sar byte_width) (shift_inputs Sar) (shift_flags Sar false false) refl (λ r h. refl) (λ n h. refl) (λ r h. refl) (λ n h. refl)) refl
const_work true Sar word_width e = works_by Sar word_width (const_working true Sar word_width) false false (worked word_width (const_working true Sar word_width) (shift_inputs Sar) (shift_flags Sar false false) refl (λ r h. refl) (λ n h. refl) (λ r h. refl) (λ n h. refl)) refl
const_work true Rol byte_width e = works_by Rol byte_width (const_working true Rol byte_width) false false (worked byte_width (const_working true Rol byte_width) (shift_inputs Rol) (shift_flags Rol false false) refl (λ r h. refl) (λ n h. refl) (λ r h. refl) (λ n h. refl)) refl
const_work true Rol word_width e = works_by Rol word_width (const_working true Rol word_width) false false (worked word_width (const_working true Rol word_width) (shift_inputs Rol) (shift_flags Rol false false) refl (λ r h. refl) (λ n h. refl) (λ r h. refl) (λ n h. refl)) refl
const_work true Ror byte_width e = works_by Ror byte_width (const_working true Ror byte_width) false false (worked byte_width (const_working true Ror byte_width) (shift_inputs Ror) (shift_flags Ror false false) refl (λ r h. refl) (λ n h. refl) (λ r h. refl) (λ n h. refl)) refl
const_work true Ror word_width e = works_by Ror word_width (const_working true Ror word_width) false false (worked word_width (const_working true Ror word_width) (shift_inputs Ror) (shift_flags Ror false false) refl (λ r h. refl) (λ n h. refl) (λ r h. refl) (λ n h. refl)) refl
const_work false Shl byte_width e = works_by Shl byte_width (const_working false Shl byte_width) false true (worked byte_width (const_working false Shl byte_width) (shift_inputs Shl) (shift_flags Shl false true) refl (λ r h. refl) (λ n h. refl) (λ r h. refl) (λ n h. refl)) refl
const_work false Shl word_width e = works_by Shl word_width (const_working false Shl word_width) false true (worked word_width (const_working false Shl word_width) (shift_inputs Shl) (shift_flags Shl false true) refl (λ r h. refl) (λ n h. refl) (λ r h. refl) (λ n h. refl)) refl
const_work false Shr byte_width e = works_by Shr byte_width (const_working false Shr byte_width) false true (worked byte_width (const_working false Shr byte_width) (shift_inputs Shr) (shift_flags Shr false true) refl (λ r h. refl) (λ n h. refl) (λ r h. refl) (λ n h. refl)) refl
const_work false Shr word_width e = works_by Shr word_width (const_working false Shr word_width) false true (worked word_width (const_working false Shr word_width) (shift_inputs Shr) (shift_flags Shr false true) refl (λ r h. refl) (λ n h. refl) (λ r h. refl) (λ n h. refl)) refl
const_work false Sar byte_width e = works_by Sar byte_width (const_working false Sar byte_width) false true (worked byte_width (const_working false Sar byte_width) (shift_inputs Sar) (shift_flags Sar false true) refl (λ r h. refl) (λ n h. refl) (λ r h. refl) (λ n h. refl)) refl
const_work false Sar word_width e = works_by Sar word_width (const_working false Sar word_width) false true (worked word_width (const_working false Sar word_width) (shift_inputs Sar) (shift_flags Sar false true) refl (λ r h. refl) (λ n h. refl) (λ r h. refl) (λ n h. refl)) refl
const_work false Rol byte_width e = works_by Rol byte_width (const_working false Rol byte_width) false true (worked byte_width (const_working false Rol byte_width) (shift_inputs Rol) (shift_flags Rol false true) refl (λ r h. refl) (λ n h. refl) (λ r h. refl) (λ n h. refl)) refl
const_work false Rol word_width e = works_by Rol word_width (const_working false Rol word_width) false true (worked word_width (const_working false Rol word_width) (shift_inputs Rol) (shift_flags Rol false true) refl (λ r h. refl) (λ n h. refl) (λ r h. refl) (λ n h. refl)) refl
const_work false Ror byte_width e = works_by Ror byte_width (const_working false Ror byte_width) false true (worked byte_width (const_working false Ror byte_width) (shift_inputs Ror) (shift_flags Ror false true) refl (λ r h. refl) (λ n h. refl) (λ r h. refl) (λ n h. refl)) refl
const_work false Ror word_width e = works_by Ror word_width (const_working false Ror word_width) false true (worked word_width (const_working false Ror word_width) (shift_inputs Ror) (shift_flags Ror false true) refl (λ r h. refl) (λ n h. refl) (λ r h. refl) (λ n h. refl)) refl
const_work c Rcl w e = absurd (true≢false e)
const_work c Rcr w e = absurd (true≢false e)

told : (operation : Shift) (cl cleared : Bool) → may_be operation cl cleared ≡ true → is_told operation cl cleared ≡ true
told Shl true true e = absurd (true≢false (sym e))
told Shl true false e = refl
told Shl false true e = refl
told Shl false false e = refl
told Shr true true e = absurd (true≢false (sym e))
told Shr true false e = refl
told Shr false true e = refl
told Shr false false e = refl
told Sar true true e = absurd (true≢false (sym e))
told Sar true false e = refl
told Sar false true e = refl
told Sar false false e = refl
told Rol true true e = absurd (true≢false (sym e))
told Rol true false e = refl
told Rol false true e = refl
told Rol false false e = refl
told Ror true true e = absurd (true≢false (sym e))
told Ror true false e = refl
told Ror false true e = refl
told Ror false false e = refl
told Rcl true true e = absurd (true≢false (sym e))
told Rcl true false e = refl
told Rcl false true e = absurd (true≢false (sym e))
told Rcl false false e = refl
told Rcr true true e = absurd (true≢false (sym e))
told Rcr true false e = refl
told Rcr false true e = absurd (true≢false (sym e))
told Rcr false false e = refl

module _ (operation : Shift) (cl cleared : Bool) (may : may_be operation cl cleared ≡ true) where
  pub result_is_told : (r y k : Bool) → result_made operation cl r y k ≡ made_value (shift_inputs operation) r (cl && y) k
  result_is_told r y k =
      tests_same (result_made operation cl r y k) (made_value (shift_inputs operation) r (cl && y) k)
      (three (λ r y k. same_test (result_made operation cl r y k) (made_value (shift_inputs operation) r (cl && y) k))
      (and_left (result_told operation cl) (all_flags (flag_told operation cl cleared) && all_flags (sure_told operation cl cleared)) (told operation cl cleared may)) r y k)

  rest : (all_flags (flag_told operation cl cleared) && all_flags (sure_told operation cl cleared)) ≡ true
  rest = and_right (result_told operation cl) (all_flags (flag_told operation cl cleared) && all_flags (sure_told operation cl cleared)) (told operation cl cleared may)

  pub flag_is_told : (f : FlagName) → shift_writes_flag operation f ≡ true → (r y k : Bool) → flag_made operation cl cleared f r y k ≡ made_value (shift_flags operation cl cleared f) r (cl && y) k
  flag_is_told f e r y k =
      tests_same (flag_made operation cl cleared f r y k) (made_value (shift_flags operation cl cleared f) r (cl && y) k)
      (sym (ap (λ b. not b || same_test (flag_made operation cl cleared f r y k) (made_value (shift_flags operation cl cleared f) r (cl && y) k)) e)
      ∙ three (λ r y k. not (shift_writes_flag operation f) || same_test (flag_made operation cl cleared f r y k) (made_value (shift_flags operation cl cleared f) r (cl && y) k))
      (every_flag (flag_told operation cl cleared) (and_left (all_flags (flag_told operation cl cleared)) (all_flags (sure_told operation cl cleared)) rest) f) r y k)

  pub sure_is_told : (f : FlagName) → (shift_writes_flag operation f && (shift_writes_flag operation f && not (cl && not (is_through_carry operation)))) ≡ not (has_itself (shift_flags operation cl cleared f))
  sure_is_told f =
      tests_same (shift_writes_flag operation f && (shift_writes_flag operation f && not (cl && not (is_through_carry operation)))) (not (has_itself (shift_flags operation cl cleared f)))
      (every_flag (sure_told operation cl cleared) (and_right (all_flags (flag_told operation cl cleared)) (all_flags (sure_told operation cl cleared)) rest) f)

-- What places are made of.

pub made_held : (ra rb : Holder → Bool) (inputs : List Input) (l : Location) → made_by ra rb inputs (held l) ≡ made_value inputs (ra (held l)) (rb (held l)) (is_flag Cf l)
made_held ra rb [] l = refl
made_held ra rb (first ∷ inputs) l = ap (λ b. ra (held l) || b) (made_held ra rb inputs l)
made_held ra rb (second ∷ inputs) l = ap (λ b. rb (held l) || b) (made_held ra rb inputs l)
made_held ra rb (carry ∷ inputs) l = ap (λ b. is_flag Cf l || b) (made_held ra rb inputs l)
made_held ra rb (itself ∷ inputs) l = made_held ra rb inputs l

pub made_framed : (ra rb : Holder → Bool) (inputs : List Input) (k : ℤ) → made_by ra rb inputs (in_frame k) ≡ made_value inputs (ra (in_frame k)) (rb (in_frame k)) false
made_framed ra rb [] k = refl
made_framed ra rb (first ∷ inputs) k = ap (λ b. ra (in_frame k) || b) (made_framed ra rb inputs k)
made_framed ra rb (second ∷ inputs) k = ap (λ b. rb (in_frame k) || b) (made_framed ra rb inputs k)
made_framed ra rb (carry ∷ inputs) k = made_framed ra rb inputs k
made_framed ra rb (itself ∷ inputs) k = made_framed ra rb inputs k
