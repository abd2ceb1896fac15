-- Shifts and rotates: what their statements leave in the temporary of the result and in the flags is what the machine
-- gives.
use Rattle.std.proofs.Common.{arith, ◌≡◌, ◌∙◌, refl, sym, ap, subst, ℕ, ◌+◌, ◌-◌, ◌*◌, ◌/◌, ◌%◌, ◌^◌, ◌<◌, ◌≤◌, Bool, true, false, ◌&&◌, nat_eq, true≢false, eqb-true, ne_eqb, [], ◌∷◌, ◌++◌}
use Rattle.std.specs.Prelude.{if◌then◌else◌, ◌==◌, bit_and, bit_xor}
use Rattle.std.specs.Int.{from_bool}
use Rattle.std.specs.List.{list_all}
use Rattle.std.proofs.lemmas.Bool.{eqb-false}
use Rattle.std.proofs.lemmas.Nat.{shr_le, and_mask}
use Rattle.dcc_run.specs.End.{is_over}
use Rattle.dcc_num.specs.declared.Width.{Width}
use Rattle.dcc_num.specs.declared.Width.TheVariants.{Byte as byte_width, Word as word_width}
use Rattle.dcc_num.specs.declared.Reg.TheVariants.{Cx}
use Rattle.dcc_num.specs.declared.Half.TheVariants.{Low}
use Rattle.dcc_num.specs.declared.Flags.{Flags}
use Rattle.dcc_num.specs.declared.FlagName.{FlagName}
use Rattle.dcc_num.specs.declared.FlagName.TheVariants.{Cf, Zf, Sf, Of}
use Rattle.dcc_num.specs.Numbers.{bits_of, limit_of, half_of, has_sign, is_set, differ, residue_of, signed_of, halved_of, wrapped_of, result_flags}
use Rattle.dcc_num.specs.Shift.{shl_of, shr_of, sar_of, rol_of, ror_of, rcl_of, rcr_of, rotated_of, top_bits_differ, rotate_flags as turned_flags}
use Rattle.dcc_num.proofs.Shifts.{rotated_below}
use Rattle.dcc_num.proofs.Differences.{wrapped_below}
use Rattle.dcc_num.proofs.Steps.{wrapped_signed}
use Rattle.dcc_machine.specs.declared.cpu.Cpu.{Cpu}
use Rattle.dcc_machine.specs.declared.cpu.Cpu.TheVariants.{I8086, I186}
use Rattle.dcc_machine.specs.declared.instr.Count.{Count}
use Rattle.dcc_machine.specs.declared.instr.Count.TheVariants.{One, Cl, Const as ConstCount}
use Rattle.dcc_machine.specs.declared.instr.Shift.{Shift}
use Rattle.dcc_machine.specs.declared.instr.Shift.TheVariants.{Rol, Ror, Rcl, Rcr, Shl, Shr, Sar}
use Rattle.dcc_machine.specs.declared.instr.Operand.{Operand}
use Rattle.dcc_machine.specs.declared.instr.Operand.TheVariants.{Byte}
use Rattle.dcc_machine.specs.Machine.{State as Machine, operand_value, operand_width}
use Rattle.dcc_machine.specs.Operations.{with_result, count_in, shift_result, shift_step}
use Rattle.dcc_machine.specs.Writes.{never_shifts}
use Rattle.dcc_machine.specs.Wanted.{is_through_carry, is_in_cl}
use Rattle.dcc_machine.specs.WellFormed.{MayCount, IsShift}
use Rattle.dcc_ir.specs.declared.syntax.Loc.TheVariants.{Half, Flag}
use Rattle.dcc_ir.specs.declared.syntax.BinOp.TheVariants.{Xor as XorOp, Shl as ShlOp, Shr as ShrOp, Sar as SarOp}
use Rattle.dcc_ir.specs.Location.{Values, with_value}
use Rattle.dcc_ir.specs.Tree.{Expr, Get, Binary, Set}
use Rattle.dcc_ir.specs.Value.{Environment, value_of}
use Rattle.dcc_ir.specs.Run.{State, scene_of, value_in, setting, execute}
use Rattle.dcc_ir.proofs.ExecuteLaws.{execute-append}
use Rattle.dcc_ops.specs.Temporaries.{left_place, right_place, result_place, carry_place}
use Rattle.dcc_ops.specs.OperandPlace.{OperandPlace, taking, storing}
use Rattle.dcc_ops.specs.Expressions.{bit, count_expr, left, result, sign, below_sign, lowest, is_zero, unless_zero, if_one, shifted, nearly_shifted, rol_value, ror_value, rcl_value, rcr_value}
use Rattle.dcc_ops.specs.Statements.{result_taking, shift_flags, rotate_flags, shift_working, count_taking, staying, shifting, shift_stmts}
use Rattle.dcc_ops.specs.Executed.{executed}
use Rattle.dcc_ops.specs.Coupling.{Relation, HoldFlags, IsCoupling, IsRead, IsWritten}
use Rattle.dcc_ops.proofs.ShiftValues.{sign_value, bit_value, differ_value, both_value, one_less, last_out, lowest_out, signed_is, lowest_of_signed, unmoved, rotation_is, rotation_below, rest_is, or_turned, or_turned_back, carry_below, carry_above, carry_above_small, unturned, unturned_back}
use Rattle.dcc_ops.proofs.ShiftCounts.{HoldsByEach, holds_by_count}
use Rattle.dcc_ops.proofs.CouplingLaws.{sets_scratch, left_is, right_is, result_is, left_stays, right_taken, Working, Took, Holding, temporary_set, register_value, register_small, took, finished}

-- Temporaries.

-- a scene with these values
abbrev pub scene_with : Environment → Values → Environment
scene_with scene values = record scene { values = values }

-- what the temporaries of the operands hold
pub record Holds (w : Width) (scene : Environment) (a b : ℕ) : Type 0 where
  pub left : scene.values (left_place w) ≡ a
  pub right : scene.values (right_place w) ≡ b

-- what the temporaries of the operands and of the result hold
pub record Yields (w : Width) (scene : Environment) (a b r : ℕ) : Type 0 where
  pub holds : Holds w scene a b
  pub result : scene.values (result_place w) ≡ r

-- the result goes there
yields : (w : Width) (scene : Environment) (e : Expr) (a b r : ℕ) → Holds w scene a b → value_of scene e ≡ r
    → Yields w (executed (result_taking w e) scene) a b r
yields byte_width scene e a b r h is = record { holds = record { left = h.left; right = h.right }; result = is }
yields word_width scene e a b r h is = record { holds = record { left = h.left; right = h.right }; result = is }

-- a flag changes none of this
yields_flag : (w : Width) (scene : Environment) (f : FlagName) (v a b r : ℕ) → Yields w scene a b r
    → Yields w (scene_with scene (with_value scene.values (Flag f) v)) a b r
yields_flag byte_width scene f v a b r y =
    record { holds = record { left = y.holds.left; right = y.holds.right }; result = y.result }
yields_flag word_width scene f v a b r y =
    record { holds = record { left = y.holds.left; right = y.holds.right }; result = y.result }

-- CF that comes in changes nothing of what the operands' temporaries hold
holds_carry : (w : Width) (scene : Environment) (v a b : ℕ) → Holds w scene a b
    → Holds w (scene_with scene (with_value scene.values carry_place v)) a b
holds_carry byte_width scene v a b h = record { left = h.left; right = h.right }
holds_carry word_width scene v a b h = record { left = h.left; right = h.right }

flags_carry : (was : Flags) (scene : Environment) (v : ℕ) → HoldFlags was scene.values
    → HoldFlags was (with_value scene.values carry_place v)
flags_carry was scene v h = record { carry = h.carry; zero = h.zero; negative = h.negative; overflow = h.overflow }

flags_result : (w : Width) (was : Flags) (scene : Environment) (v : ℕ) → HoldFlags was scene.values
    → HoldFlags was (with_value scene.values (result_place w) v)
flags_result byte_width was scene v h =
    record { carry = h.carry; zero = h.zero; negative = h.negative; overflow = h.overflow }
flags_result word_width was scene v h =
    record { carry = h.carry; zero = h.zero; negative = h.negative; overflow = h.overflow }

result_taken : (w : Width) (values : Values) (a : ℕ) → with_value values (result_place w) a (result_place w) ≡ a
result_taken byte_width values a = refl
result_taken word_width values a = refl

-- Bits of what the temporaries hold.

sign_bit : (w : Width) (scene : Environment) (e : Expr) (x : ℕ) → value_of scene e ≡ x → x < limit_of w
    → value_of scene (sign w e) ≡ from_bool (has_sign w x)
sign_bit w scene e x is small = ap (λ (n : ℕ). n / 2 ^ (bits_of w - 1) % 2 ^ 1) is ∙ sign_value w x small

below_sign_bit : (w : Width) (scene : Environment) (e : Expr) (x : ℕ) → value_of scene e ≡ x
    → value_of scene (below_sign w e) ≡ from_bool (is_set x (bits_of w - 2))
below_sign_bit w scene e x is = ap (λ (n : ℕ). n / 2 ^ (bits_of w - 2) % 2 ^ 1) is ∙ bit_value x (bits_of w - 2)

lowest_bit : (scene : Environment) (e : Expr) (x : ℕ) → value_of scene e ≡ x
    → value_of scene (lowest e) ≡ from_bool (is_set x 0)
lowest_bit scene e x is = ap (λ (n : ℕ). n / 2 ^ 0 % 2 ^ 1) is ∙ bit_value x 0

differing : (scene : Environment) (e f : Expr) (p q : Bool) → value_of scene e ≡ from_bool p → value_of scene f
    ≡ from_bool q
    → value_of scene (Binary XorOp 1 e f) ≡ from_bool (differ p q)
differing scene e f p q first second = ap (λ (n : ℕ). bit_xor n (value_of scene f)) first
    ∙ ap (λ (n : ℕ). bit_xor (from_bool p) n) second ∙ differ_value p q

-- a number that the count may be: a count of 1 is 1, a constant is taken modulo 32, and one by which something is
-- shifted is not 0
pub record Counts (count : Count) (n : ℕ) : Type 0 where
  pub one : count ≡ One → n ≡ 1
  pub constant : (m : ℕ) → count ≡ ConstCount m → n ≡ m % 32
  pub some : is_in_cl count ≡ false → 0 < n

-- a bit for a count of 1
one_counted : (w : Width) (scene : Environment) (e : Expr) (n : ℕ) (x : Bool) → scene.values (right_place w) ≡ n
    → value_of scene e ≡ from_bool x
    → value_of scene (if_one w Cl e) ≡ from_bool ((n == 1) && x)
one_counted w scene e n x counted is = ap (λ (k : ℕ). bit_and (from_bool (nat_eq k 1)) (value_of scene e)) counted
    ∙ ap (λ (k : ℕ). bit_and (from_bool (nat_eq n 1)) k) is ∙ both_value (nat_eq n 1) x

one_bit : (w : Width) (count : Count) (scene : Environment) (e : Expr) (n : ℕ) (x : Bool) → scene.values (right_place w)
    ≡ n
    → Counts count n
    → value_of scene e ≡ from_bool x → value_of scene (if_one w count e) ≡ from_bool ((n == 1) && x)
one_bit w One scene e n x counted c is = is ∙ ap (λ (k : ℕ). from_bool (nat_eq k 1 && x)) (sym (c.one refl))
one_bit w Cl scene e n x counted c is = one_counted w scene e n x counted is
one_bit w (ConstCount m) scene e n x counted c is = by (m % 32 == 1) refl
  where
    told : {b : Bool} → (m % 32 == 1) ≡ b → from_bool (b && x) ≡ from_bool ((n == 1) && x)
    told t = ap (λ b. from_bool (b && x)) (sym (ap (λ k. k == 1) (c.constant m refl) ∙ t))

    by : (b : Bool) → (m % 32 == 1) ≡ b → value_of scene (if b then e else bit 0) ≡ from_bool ((n == 1) && x)
    by true t = is ∙ told t
    by false t = told t

-- a flag that stays where the count is 0
shifted_bit : (scene : Environment) (e : Expr) (n : ℕ) (was x : Bool) → 0 < n → (0 < n → value_of scene e ≡ from_bool x)
    → value_of scene e ≡ from_bool (if n == 0 then was else x)
shifted_bit scene e n was x some is = is some
    ∙ ap (λ b. from_bool (if b then was else x)) (sym (ne_eqb n 0 (λ none. absurd (omega (arith, some, none)))))

kept_bit : (w : Width) (count : Count) (f : FlagName) (scene : Environment) (e : Expr) (n : ℕ) (was x : Bool)
    → scene.values (right_place w) ≡ n → Counts count n
    → scene.values (Flag f) ≡ from_bool was → (0 < n → value_of scene e ≡ from_bool x)
    → value_of scene (unless_zero w count f e) ≡ from_bool (if n == 0 then was else x)
kept_bit w Cl f scene e n was x counted c stood is =
    ap (λ (k : ℕ). if nat_eq (from_bool (nat_eq k 0)) 1 then scene.values (Flag f) else value_of scene e) counted
    ∙ chosen (nat_eq n 0) refl
  where
    chosen : (b : Bool) → nat_eq n 0 ≡ b
        → (if nat_eq (from_bool b) 1 then scene.values (Flag f) else value_of scene e)
        ≡ from_bool (if b then was else x)
    chosen true e = stood
    chosen false e = is (omega (arith, eqb-false n 0 e))
kept_bit w One f scene e n was x counted c stood is = shifted_bit scene e n was x (c.some refl) is
kept_bit w (ConstCount m) f scene e n was x counted c stood is = shifted_bit scene e n was x (c.some refl) is

-- Flags.

-- a flag of the flags that are chosen
flag_chosen : (b : Bool) (was moved f : Flags) (g : Flags → Bool) → f ≡ (if b then was else moved)
    → from_bool (if b then g was else g moved) ≡ from_bool (g f)
flag_chosen true was moved f g e = ap (λ (x : Flags). from_bool (g x)) (sym e)
flag_chosen false was moved f g e = ap (λ (x : Flags). from_bool (g x)) (sym e)

-- after the flags of a shift, where these numbers are in the temporaries
shift_flags_kept : (w : Width) (count : Count) (overflow carry : Expr) (was : Flags) (scene : Environment) (a n r : ℕ)
    (o c : Bool) (f : Flags)
    → HoldFlags was scene.values → Yields w scene a n r → r < limit_of w → Counts count n
    → ((seen : Environment) → Yields w seen a n r → 0 < n → value_of seen overflow ≡ from_bool o)
    → ((seen : Environment) → Yields w seen a n r → 0 < n → value_of seen carry ≡ from_bool c)
    → f ≡ (if n == 0 then was else record { cf = c; zf = r == 0; sf = has_sign w r; of = o })
    → HoldFlags f (executed (shift_flags w count overflow carry) scene).values
    × Yields w (executed (shift_flags w count overflow carry) scene) a n r
shift_flags_kept w count overflow carry was scene a n r o c f p y small one of_is cf_is e =
    let v1 : ℕ = value_of scene (unless_zero w count Of overflow) in
    let scene1 : Environment = scene_with scene (with_value scene.values (Flag Of) v1) in
    let y1 : Yields w scene1 a n r = yields_flag w scene Of v1 a n r y in
    let v2 : ℕ = value_of scene1 (unless_zero w count Sf (sign w (result w))) in
    let scene2 : Environment = scene_with scene1 (with_value scene1.values (Flag Sf) v2) in
    let y2 : Yields w scene2 a n r = yields_flag w scene1 Sf v2 a n r y1 in
    let v3 : ℕ = value_of scene2 (unless_zero w count Zf (is_zero w (result w))) in
    let scene3 : Environment = scene_with scene2 (with_value scene2.values (Flag Zf) v3) in
    let y3 : Yields w scene3 a n r = yields_flag w scene2 Zf v3 a n r y2 in
    let v4 : ℕ = value_of scene3 (unless_zero w count Cf carry) in (
      record {
        overflow = kept_bit w count Of scene overflow n was.of o y.holds.right one p.overflow (of_is scene y)
            ∙ told (λ g. g.of);
        negative = kept_bit w count Sf scene1 (sign w (result w)) n was.sf (has_sign w r) y1.holds.right one p.negative
            (λ _. sign_bit w scene1 (result w) r y1.result small) ∙ told (λ g. g.sf);
        zero = kept_bit w count Zf scene2 (is_zero w (result w)) n was.zf (nat_eq r 0) y2.holds.right one p.zero
            (λ _. ap (λ (k : ℕ). from_bool (nat_eq k 0)) y2.result) ∙ told (λ g. g.zf);
        carry = kept_bit w count Cf scene3 carry n was.cf c y3.holds.right one p.carry (cf_is scene3 y3)
            ∙ told (λ g. g.cf);
      },
      yields_flag w scene3 Cf v4 a n r y3,
    )
  where
    moved : Flags
    moved = record { cf = c; zf = r == 0; sf = has_sign w r; of = o }

    told : (g : Flags → Bool) → from_bool (if n == 0 then g was else g moved) ≡ from_bool (g f)
    told g = flag_chosen (n == 0) was moved f g e

-- flags and temporaries after the flags of a rotate by a count
rotate_flags_kept : (w : Width) (count : Count) (overflow carry : Expr) (was : Flags) (scene : Environment) (a n r : ℕ)
    (o c : Bool) (f : Flags)
    → HoldFlags was scene.values → Yields w scene a n r → Counts count n
    → ((seen : Environment) → Yields w seen a n r → 0 < n → value_of seen overflow ≡ from_bool o)
    → ((seen : Environment) → Yields w seen a n r → 0 < n → value_of seen carry ≡ from_bool c)
    → f ≡ (if n == 0 then was else turned_flags was c o)
    → HoldFlags f (executed (rotate_flags w count overflow carry) scene).values
    × Yields w (executed (rotate_flags w count overflow carry) scene) a n r
rotate_flags_kept w count overflow carry was scene a n r o c f p y one of_is cf_is e =
    let v1 : ℕ = value_of scene (unless_zero w count Of overflow) in
    let scene1 : Environment = scene_with scene (with_value scene.values (Flag Of) v1) in
    let y1 : Yields w scene1 a n r = yields_flag w scene Of v1 a n r y in
    let v2 : ℕ = value_of scene1 (unless_zero w count Cf carry) in (
      record {
        zero = p.zero ∙ sym (ap from_bool (ap (λ (x : Flags). x.zf) e ∙ same_zf (n == 0)));
        negative = p.negative ∙ sym (ap from_bool (ap (λ (x : Flags). x.sf) e ∙ same_sf (n == 0)));
        overflow = kept_bit w count Of scene overflow n was.of o y.holds.right one p.overflow (of_is scene y)
            ∙ told (λ g. g.of);
        carry = kept_bit w count Cf scene1 carry n was.cf c y1.holds.right one p.carry (cf_is scene1 y1)
            ∙ told (λ g. g.cf);
      },
      yields_flag w scene1 Cf v2 a n r y1,
    )
  where
    moved : Flags
    moved = turned_flags was c o

    same_zf : (b : Bool) → (if b then was else moved).zf ≡ was.zf
    same_zf true = refl
    same_zf false = refl

    same_sf : (b : Bool) → (if b then was else moved).sf ≡ was.sf
    same_sf true = refl
    same_sf false = refl

    told : (g : Flags → Bool) → from_bool (if n == 0 then g was else g moved) ≡ from_bool (g f)
    told g = flag_chosen (n == 0) was moved f g e

-- flags and temporaries after the flags of a rotation by one place through CF
rotation_flags_kept : (w : Width) (overflow carry : Expr) (was : Flags) (scene : Environment) (a n r : ℕ) (o c : Bool)
    → HoldFlags was scene.values → Yields w scene a n r
    → ((seen : Environment) → Yields w seen a n r → value_of seen overflow ≡ from_bool o)
    → ((seen : Environment) → Yields w seen a n r → value_of seen carry ≡ from_bool c)
    → HoldFlags (turned_flags was c o) (executed (rotate_flags w One overflow carry) scene).values
    × Yields w (executed (rotate_flags w One overflow carry) scene) a n r
rotation_flags_kept w overflow carry was scene a n r o c p y of_is cf_is =
    let v1 : ℕ = value_of scene overflow in
    let scene1 : Environment = scene_with scene (with_value scene.values (Flag Of) v1) in
    let y1 : Yields w scene1 a n r = yields_flag w scene Of v1 a n r y in
    let v2 : ℕ = value_of scene1 carry in (
      record { zero = p.zero; negative = p.negative; overflow = of_is scene y; carry = cf_is scene1 y1 },
      yields_flag w
          scene1 Cf v2 a n r y1,
    )

-- Operations.

-- a pair that stays where the count is 0
flags_chosen : (b : Bool) (x y : ℕ × Flags) → (if b then x else y).1 ≡ (if b then x.1 else y.1)
flags_chosen true x y = refl
flags_chosen false x y = refl

value_chosen : (n : ℕ) (x y : ℕ × Flags) → (n ≡ 0 → x.0 ≡ y.0) → (b : Bool) → nat_eq n 0 ≡ b
    → (if b then x else y).0 ≡ y.0
value_chosen n x y still true e = still (eqb-true n 0 e)
value_chosen n x y still false e = refl

-- what a shift or a rotate takes
pub record Takes (w : Width) (count : Count) (was : Flags) (scene : Environment) (a n : ℕ) : Type 0 where
  pub shown : HoldFlags was scene.values
  pub holds : Holds w scene a n
  pub operand : a < limit_of w
  pub below : n < 256
  pub counts : Counts count n

count_small : (w : Width) (n : ℕ) → n < 256 → n < limit_of w
count_small byte_width n small = small
count_small word_width n small = omega arith

remainder_small : (w : Width) (x : ℕ) → x % limit_of w < limit_of w
remainder_small byte_width x = omega arith
remainder_small word_width x = omega arith

-- the operand but for the last place
nearly_left : (w : Width) (seen : Environment) (a n : ℕ) → Holds w seen a n → 0 < n → n < 256
    → value_of seen (nearly_shifted ShlOp w) ≡ a * 2 ^ (n - 1) % limit_of w
nearly_left w seen a n h some small = rw (h.left, h.right, one_less w n some (count_small w n small)) refl

shl_works : (w : Width) (count : Count) (was : Flags) (scene : Environment) (a n : ℕ) → Takes w count was scene a n
    → Working w (shl_of w a n was) (executed (shift_working Shl w count) scene)
unfolding shl_of result_flags
shl_works w count was scene a n t =
    let r : ℕ = a * 2 ^ n % limit_of w in
    let out : Bool = is_set (a * 2 ^ n) (bits_of w) in
    let o : Bool = (n == 1) && differ out (has_sign w r) in
    let g : Flags = record { cf = out; zf = r == 0; sf = has_sign w r; of = o } in
    let is : value_of scene (shifted ShlOp w) ≡ r = rw (t.holds.left, t.holds.right) refl in
    let y = yields w scene (shifted ShlOp w) a n r t.holds is in
    let after : Environment = executed (result_taking w (shifted ShlOp w)) scene in
    let small : r < limit_of w = remainder_small w (a * 2 ^ n) in
    let top : (seen : Environment) → Yields w seen a n r → 0 < n
    → value_of seen (sign w (nearly_shifted ShlOp w)) ≡ from_bool out =
    λ seen z some. sign_bit w seen (nearly_shifted ShlOp w) (a * 2 ^ (n - 1) % limit_of w)
    (nearly_left w seen a n z.holds some t.below)
    (remainder_small w (a * 2 ^ (n - 1))) ∙ ap from_bool (last_out w a n some) in
    let over : (seen : Environment) → Yields w seen a n r → 0 < n
    → value_of seen (if_one w count (Binary XorOp 1 (sign w (nearly_shifted ShlOp w)) (sign w (result w))))
    ≡ from_bool o =
    λ seen z some. one_bit w count seen (Binary XorOp 1 (sign w (nearly_shifted ShlOp w)) (sign w (result w))) n
    (differ out (has_sign w r)) z.holds.right t.counts
    (differing seen (sign w (nearly_shifted ShlOp w)) (sign w (result w)) out (has_sign w r) (top seen z some)
    (sign_bit w seen (result w) r z.result small)) in
    let kept = shift_flags_kept w count
    (if_one w count (Binary XorOp 1 (sign w (nearly_shifted ShlOp w)) (sign w (result w))))
    (sign w (nearly_shifted ShlOp w)) was after a n r o out
    (shl_of w a n was).1 (flags_result w was scene (value_of scene (shifted ShlOp w)) t.shown) y small t.counts over top
    (flags_chosen (n == 0) (a, was) (r, g)) in
    let value : (shl_of w a n was).0 ≡ r =
    value_chosen n (a, was) (r, g) (λ e. rw e (sym (unmoved w a t.operand))) (n == 0) refl in
    record { value = kept.1.result ∙ sym value; flags = kept.0 }

nearly_right : (w : Width) (seen : Environment) (a n : ℕ) → Holds w seen a n → 0 < n → n < 256
    → value_of seen (nearly_shifted ShrOp w) ≡ a / 2 ^ (n - 1)
nearly_right w seen a n h some small = rw (h.left, h.right, one_less w n some (count_small w n small)) refl

shr_works : (w : Width) (count : Count) (was : Flags) (scene : Environment) (a n : ℕ) → Takes w count was scene a n
    → Working w (shr_of w a n was) (executed (shift_working Shr w count) scene)
unfolding shr_of result_flags
shr_works w count was scene a n t =
    let r : ℕ = a / 2 ^ n in
    let out : Bool = is_set a (n - 1) in
    let o : Bool = (n == 1) && has_sign w a in
    let g : Flags = record { cf = out; zf = r == 0; sf = has_sign w r; of = o } in
    let is : value_of scene (shifted ShrOp w) ≡ r = rw (t.holds.left, t.holds.right) refl in
    let y = yields w scene (shifted ShrOp w) a n r t.holds is in
    let after : Environment = executed (result_taking w (shifted ShrOp w)) scene in
    let less : r ≤ a = shr_le a n in
    let small : r < limit_of w = omega (arith, less, t.operand) in
    let last : (seen : Environment) → Yields w seen a n r → 0 < n
    → value_of seen (lowest (nearly_shifted ShrOp w)) ≡ from_bool out =
    λ seen z some. lowest_bit seen (nearly_shifted ShrOp w) (a / 2 ^ (n - 1))
    (nearly_right w seen a n z.holds some t.below) ∙ ap from_bool (lowest_out a n) in
    let over : (seen : Environment) → Yields w seen a n r → 0 < n
    → value_of seen (if_one w count (sign w (left w))) ≡ from_bool o =
    λ seen z some. one_bit w count seen (sign w (left w)) n (has_sign w a) z.holds.right t.counts
    (sign_bit w seen (left w) a z.holds.left t.operand) in
    let kept =
    shift_flags_kept w count (if_one w count (sign w (left w))) (lowest (nearly_shifted ShrOp w)) was after a n r o out
    (shr_of w a n was).1 (flags_result w was scene (value_of scene (shifted ShrOp w)) t.shown)
    y small t.counts over last (flags_chosen (n == 0) (a, was) (r, g)) in
    let value : (shr_of w a n was).0 ≡ r = value_chosen n (a, was) (r, g) (λ e. rw e (omega arith)) (n == 0) refl in
    record { value = kept.1.result ∙ sym value; flags = kept.0 }

signed_moved : (w : Width) (seen : Environment) (a n : ℕ) → Holds w seen a n
    → value_of seen (shifted SarOp w) ≡ wrapped_of w (halved_of (signed_of w a) n)
signed_moved w seen a n h = rw (h.left, h.right, signed_is w a) refl

nearly_signed : (w : Width) (seen : Environment) (a n : ℕ) → Holds w seen a n → 0 < n → n < 256
    → value_of seen (nearly_shifted SarOp w) ≡ wrapped_of w (halved_of (signed_of w a) (n - 1))
nearly_signed w seen a n h some small =
    rw (h.left, h.right, one_less w n some (count_small w n small), signed_is w a) refl

sar_works : (w : Width) (count : Count) (was : Flags) (scene : Environment) (a n : ℕ) → Takes w count was scene a n
    → Working w (sar_of w a n was) (executed (shift_working Sar w count) scene)
unfolding sar_of result_flags
sar_works w count was scene a n t =
    let r : ℕ = wrapped_of w (halved_of (signed_of w a) n) in
    let out : Bool = nat_eq (residue_of 2 (halved_of (signed_of w a) (n - 1))) 1 in
    let g : Flags = record { cf = out; zf = r == 0; sf = has_sign w r; of = false } in
    let y = yields w scene (shifted SarOp w) a n r t.holds (signed_moved w scene a n t.holds) in
    let after : Environment = executed (result_taking w (shifted SarOp w)) scene in
    let small : r < limit_of w = wrapped_below w (halved_of (signed_of w a) n) in
    let last : (seen : Environment) → Yields w seen a n r → 0 < n
    → value_of seen (lowest (nearly_shifted SarOp w)) ≡ from_bool out =
    λ seen z some. lowest_bit seen (nearly_shifted SarOp w) (wrapped_of w (halved_of (signed_of w a) (n - 1)))
    (nearly_signed w seen a n z.holds some t.below)
    ∙ ap from_bool (lowest_of_signed w (halved_of (signed_of w a) (n - 1))) in
    let kept = shift_flags_kept w count (bit 0) (lowest (nearly_shifted SarOp w)) was after a n r false out
    (sar_of w a n was).1 (flags_result w was scene (value_of scene (shifted SarOp w)) t.shown) y small t.counts
    (λ seen z some. refl) last (flags_chosen (n == 0) (a, was) (r, g)) in
    let value : (sar_of w a n was).0 ≡ r =
    value_chosen n (a, was) (r, g) (λ e. rw e (wrapped_signed w a t.operand)) (n == 0) refl in
    record { value = kept.1.result ∙ sym value; flags = kept.0 }

rol_works : (w : Width) (count : Count) (was : Flags) (scene : Environment) (a n : ℕ) → Takes w count was scene a n
    → Working w (rol_of w a n was) (executed (shift_working Rol w count) scene)
unfolding rol_of
rol_works w count was scene a n t =
    let places : ℕ = n % bits_of w in
    let fewer : places < bits_of w = rotation_below w n in
    let within : places ≤ bits_of w = omega arith in
    let r : ℕ = rotated_of w a places in
    let out : Bool = is_set r 0 in
    let o : Bool = (n == 1) && differ out (has_sign w r) in
    let is : value_of scene (rol_value w) ≡ r =
    rw (t.holds.left, t.holds.right, rotation_is w n, rest_is w places fewer)
    (or_turned a (bits_of w) places t.operand within) in
    let y = yields w scene (rol_value w) a n r t.holds is in
    let after : Environment = executed (result_taking w (rol_value w)) scene in
    let small : r < limit_of w = rotated_below a (bits_of w) places t.operand within in
    let last : (seen : Environment) → Yields w seen a n r → 0 < n
    → value_of seen (lowest (result w)) ≡ from_bool out = λ seen z some. lowest_bit seen (result w) r z.result in
    let over : (seen : Environment) → Yields w seen a n r → 0 < n
    → value_of seen (if_one w count (Binary XorOp 1 (lowest (result w)) (sign w (result w)))) ≡ from_bool o =
    λ seen z some. one_bit w count seen (Binary XorOp 1 (lowest (result w)) (sign w (result w))) n
    (differ out (has_sign w r)) z.holds.right t.counts
    (differing seen (lowest (result w)) (sign w (result w)) out (has_sign w r) (last seen z some)
    (sign_bit w seen (result w) r z.result small)) in
    let kept = rotate_flags_kept w count (if_one w count (Binary XorOp 1 (lowest (result w)) (sign w (result w))))
    (lowest (result w)) was after a n r o out
    (rol_of w a n was).1 (flags_result w was scene (value_of scene (rol_value w)) t.shown)
    y t.counts over last (flags_chosen (n == 0) (a, was) (r, turned_flags was out o)) in
    let value : (rol_of w a n was).0 ≡ r =
    value_chosen n (a, was) (r, turned_flags was out o) (λ e. rw e (unturned w a t.operand)) (n == 0) refl in
    record { value = kept.1.result ∙ sym value; flags = kept.0 }

ror_works : (w : Width) (count : Count) (was : Flags) (scene : Environment) (a n : ℕ) → Takes w count was scene a n
    → Working w (ror_of w a n was) (executed (shift_working Ror w count) scene)
unfolding ror_of
ror_works w count was scene a n t =
    let fewer : n % bits_of w < bits_of w = rotation_below w n in
    let places : ℕ = bits_of w - n % bits_of w in
    let within : places ≤ bits_of w = omega arith in
    let r : ℕ = rotated_of w a places in
    let out : Bool = has_sign w r in
    let o : Bool = (n == 1) && top_bits_differ w r in
    let is : value_of scene (ror_value w) ≡ r =
    rw (t.holds.left, t.holds.right, rotation_is w n, rest_is w (n % bits_of w) fewer)
    (or_turned_back w a (n % bits_of w) t.operand fewer) in
    let y = yields w scene (ror_value w) a n r t.holds is in
    let after : Environment = executed (result_taking w (ror_value w)) scene in
    let small : r < limit_of w = rotated_below a (bits_of w) places t.operand within in
    let top : (seen : Environment) → Yields w seen a n r → 0 < n
    → value_of seen (sign w (result w)) ≡ from_bool out = λ seen z some. sign_bit w seen (result w) r z.result small in
    let over : (seen : Environment) → Yields w seen a n r → 0 < n
    → value_of seen (if_one w count (Binary XorOp 1 (sign w (result w)) (below_sign w (result w)))) ≡ from_bool o =
    λ seen z some. one_bit w count seen (Binary XorOp 1 (sign w (result w)) (below_sign w (result w))) n
    (top_bits_differ w r) z.holds.right t.counts
    (differing seen (sign w (result w)) (below_sign w (result w)) out (is_set r (bits_of w - 2)) (top seen z some)
    (below_sign_bit w seen (result w) r z.result)) in
    let kept = rotate_flags_kept w count (if_one w count (Binary XorOp 1 (sign w (result w)) (below_sign w (result w))))
    (sign w (result w)) was after a n r o out
    (ror_of w a n was).1 (flags_result w was scene (value_of scene (ror_value w)) t.shown)
    y t.counts over top (flags_chosen (n == 0) (a, was) (r, turned_flags was out o)) in
    let value : (ror_of w a n was).0 ≡ r =
    value_chosen n (a, was) (r, turned_flags was out o) (λ e. rw e (unturned_back w a t.operand)) (n == 0) refl in
    record { value = kept.1.result ∙ sym value; flags = kept.0 }

-- CF comes in
rcl_value_is : (w : Width) (seen : Environment) (a : ℕ) (c : Bool) → seen.values (left_place w) ≡ a
    → seen.values carry_place ≡ from_bool c
    → value_of seen (rcl_value w) ≡ (2 * a + from_bool c) % limit_of w
rcl_value_is w seen a c held came = rw (held, came) (carry_below w a c)

rcr_value_is : (w : Width) (seen : Environment) (a : ℕ) (c : Bool) → a < limit_of w → seen.values (left_place w) ≡ a
    → seen.values carry_place ≡ from_bool c
    → value_of seen (rcr_value w) ≡ a / 2 + from_bool c * half_of w
rcr_value_is w seen a c small held came = rw (held, came) (carry_above w a c small)

rcl_works : (w : Width) (count : Count) (was : Flags) (scene : Environment) (a n : ℕ) → Takes w count was scene a n
    → Working w (rcl_of w a was) (executed (shift_working Rcl w count) scene)
unfolding rcl_of
rcl_works w count was scene a n t =
    let r : ℕ = (2 * a + from_bool was.cf) % limit_of w in
    let brought : Environment = scene_with scene (with_value scene.values carry_place (scene.values (Flag Cf))) in
    let holds = holds_carry w scene (scene.values (Flag Cf)) a n t.holds in
    let shown : HoldFlags was brought.values = flags_carry was scene (scene.values (Flag Cf)) t.shown in
    let y = yields w brought (rcl_value w) a n r holds (rcl_value_is w brought a was.cf holds.left t.shown.carry) in
    let after : Environment = executed (result_taking w (rcl_value w)) brought in
    let small : r < limit_of w = remainder_small w (2 * a + from_bool was.cf) in
    let out : (seen : Environment) → Yields w seen a n r
    → value_of seen (sign w (left w)) ≡ from_bool (has_sign w a) =
    λ seen z. sign_bit w seen (left w) a z.holds.left t.operand in
    let kept = rotation_flags_kept w (Binary XorOp 1 (sign w (left w)) (sign w (result w))) (sign w (left w))
    was after a n r (differ (has_sign w a) (has_sign w r)) (has_sign w a)
    (flags_result w was brought (value_of brought (rcl_value w)) shown) y
    (λ seen z. differing seen (sign w (left w)) (sign w (result w)) (has_sign w a) (has_sign w r) (out seen z)
    (sign_bit w seen (result w) r z.result small)) out in
    record { value = kept.1.result; flags = kept.0 }

rcr_works : (w : Width) (count : Count) (was : Flags) (scene : Environment) (a n : ℕ) → Takes w count was scene a n
    → Working w (rcr_of w a was) (executed (shift_working Rcr w count) scene)
unfolding rcr_of
rcr_works w count was scene a n t =
    let r : ℕ = a / 2 + from_bool was.cf * half_of w in
    let brought : Environment = scene_with scene (with_value scene.values carry_place (scene.values (Flag Cf))) in
    let holds = holds_carry w scene (scene.values (Flag Cf)) a n t.holds in
    let shown : HoldFlags was brought.values = flags_carry was scene (scene.values (Flag Cf)) t.shown in
    let y = yields w brought (rcr_value w) a n r holds
    (rcr_value_is w brought a was.cf t.operand holds.left t.shown.carry) in
    let after : Environment = executed (result_taking w (rcr_value w)) brought in
    let small : r < limit_of w = carry_above_small w a was.cf t.operand in
    let kept = rotation_flags_kept w (Binary XorOp 1 (sign w (result w)) (below_sign w (result w))) (lowest (left w))
    was after a n r (top_bits_differ w r) (is_set a 0)
    (flags_result w was brought (value_of brought (rcr_value w)) shown) y
    (λ seen z. differing seen (sign w (result w)) (below_sign w (result w)) (has_sign w r) (is_set r (bits_of w - 2))
    (sign_bit w seen (result w) r z.result small) (below_sign_bit w seen (result w) r z.result))
    (λ seen z. lowest_bit seen (left w) a z.holds.left) in
    record { value = kept.1.result; flags = kept.0 }

pub shift_works : (operation : Shift) (w : Width) (count : Count) (was : Flags) (scene : Environment) (a n : ℕ)
    → Takes w count was scene a n
    → Working w (shift_result operation w a n was) (executed (shift_working operation w count) scene)
shift_works Rol w count was scene a n t = rol_works w count was scene a n t
shift_works Ror w count was scene a n t = ror_works w count was scene a n t
shift_works Rcl w count was scene a n t = rcl_works w count was scene a n t
shift_works Rcr w count was scene a n t = rcr_works w count was scene a n t
shift_works Shl w count was scene a n t = shl_works w count was scene a n t
shift_works Shr w count was scene a n t = shr_works w count was scene a n t
shift_works Sar w count was scene a n t = sar_works w count was scene a n t

-- The whole.

-- by no place, but for RCL and RCR, nothing changes
unshifted : (operation : Shift) (w : Width) (a : ℕ) (was : Flags) → is_through_carry operation ≡ false
    → shift_result operation w a 0 was ≡ (a, was)
unfolding shl_of shr_of sar_of rol_of ror_of
unshifted Rol w a was straight = refl
unshifted Ror w a was straight = refl
unshifted Rcl w a was straight = absurd (true≢false straight)
unshifted Rcr w a was straight = absurd (true≢false straight)
unshifted Shl w a was straight = refl
unshifted Shr w a was straight = refl
unshifted Sar w a was straight = refl

-- a constant that never shifts is 0 modulo 32, and neither RCL nor RCR has one
none_counted : (cpu : Cpu) (count : Count) (s : Machine) → never_shifts count ≡ true → count_in cpu count s ≡ 0
none_counted cpu One s never = absurd (true≢false (sym never))
none_counted cpu Cl s never = absurd (true≢false (sym never))
none_counted cpu (ConstCount n) s never = eqb-true (n % 32) 0 never

pub never_rotates : (operation : Shift) (count : Count) → MayCount operation count → never_shifts count ≡ true
    → is_through_carry operation ≡ false
never_rotates operation One may never = absurd (true≢false (sym never))
never_rotates operation Cl may never = absurd (true≢false (sym never))
never_rotates Rcl (ConstCount n) may never = absurd may
never_rotates Rcr (ConstCount n) may never = absurd may
never_rotates operation (ConstCount n) may never = refl

some_counted : (cpu : Cpu) (count : Count) (s : Machine) → never_shifts count ≡ false → is_in_cl count ≡ false
    → 0 < count_in cpu count s
some_counted cpu One s shifts constant = omega arith
some_counted cpu Cl s shifts constant = absurd (true≢false constant)
some_counted cpu (ConstCount n) s shifts constant = omega (arith, eqb-false (n % 32) 0 shifts)

-- the statements of a shift or rotate are on temporaries and flags
shift_scratch : (operation : Shift) (w : Width) (count : Count)
    → list_all sets_scratch (shift_working operation w count) ≡ true
shift_scratch operation w count = holds_by_count (list_all sets_scratch) operation w count (each w operation)
  where
    each : (w : Width) (operation : Shift) → HoldsByEach (list_all sets_scratch) operation w
    each byte_width Rol = record { one = refl; cl = refl; other = refl }
    each word_width Rol = record { one = refl; cl = refl; other = refl }
    each _ _ = record { one = refl; cl = refl; other = refl }

module _ (R After : Relation) (coupling : IsCoupling R) where
  -- the count, while the machine's state stays
  cl_value : (s : Machine) (t : State) → R s t → t.running.values (Half Cx Low) ≡ operand_value s (Byte Cx Low)
  cl_value s t rel = register_value R coupling s t (Byte Cx Low) refl rel

  count_value : (cpu : Cpu) (w : Width) (count : Count) (s : Machine) (t : State) → R s t
      → value_in t (count_expr cpu w count) ≡ count_in cpu count s
  count_value I8086 byte_width Cl s t rel = cl_value s t rel
  count_value I8086 word_width Cl s t rel = cl_value s t rel
  count_value I186 byte_width Cl s t rel = and_mask (t.running.values (Half Cx Low)) 5
      ∙ ap (λ n. n % 32) (cl_value s t rel)
  count_value I186 word_width Cl s t rel = and_mask (t.running.values (Half Cx Low)) 5
      ∙ ap (λ n. n % 32) (cl_value s t rel)
  count_value cpu w One s t rel = refl
  count_value cpu w (ConstCount n) s t rel = refl

  count_below : (cpu : Cpu) (count : Count) (s : Machine) (t : State) → R s t → count_in cpu count s < 256
  count_below I8086 Cl s t rel = register_small R coupling s t (Byte Cx Low) refl tt rel
  count_below I186 Cl s t rel = omega arith
  count_below cpu One s t rel = omega arith
  count_below cpu (ConstCount n) s t rel = omega arith

  counted_took : (cpu : Cpu) (x : Operand) (p : OperandPlace) (count : Count) (s : Machine) (t : State) → IsRead R s x p
      → R s t
      → Holding R (operand_width x) s (execute (count_taking cpu (operand_width x) p count) t) (operand_value s x)
      (count_in cpu count s)
  counted_took cpu x p count s t read rel =
      let w = operand_width x in
      let a = operand_value s x in
      let n = count_in cpu count s in
      let e = count_expr cpu w count in
      let one : Took R s t (execute (taking (left_place w) p ∷ []) t) (left_place w) a =
      took R coupling s t w x p (left_place w) read refl (left_is w) rel in
      let t1 = execute (taking (left_place w) p ∷ []) t in
      let run : execute (Set (right_place w) e ∷ []) t1 ≡ setting (right_place w) n t1
      = ap (λ end. if is_over end then t1 else setting (right_place w) (value_in t1 e) t1)
      (coupling.running s t1 one.stands)
      ∙ ap (λ v. setting (right_place w) v t1) (count_value cpu w count s t1 one.stands) in
      let fits : n < limit_of w = count_small w n (count_below cpu count s t1 one.stands) in
      subst (λ (u : State). Holding R w s u a n)
      (sym (execute-append (taking (left_place w) p ∷ []) (Set (right_place w) e ∷ []) t ∙ run)) (record {
        stands = temporary_set R coupling s t1 w (right_place w) n (right_is w) fits one.stands;
        left = ap (λ (f : Values). with_value f (right_place w) n (left_place w)) one.values
            ∙ left_stays w t.running.values a n;
        right = right_taken w t1.running.values n;
      })

  shifting_performed : (cpu : Cpu) (operation : Shift) (x : Operand) (p : OperandPlace) (count : Count) (s : Machine)
      (t : State) → IsRead R s x p → IsWritten R After s x p
      → never_shifts count ≡ false → R s t
      → After (shift_step cpu operation x count s) (execute (shifting cpu operation (operand_width x) p count) t)
  shifting_performed cpu operation x p count s t read written shifts rel =
      let w = operand_width x in
      let a = operand_value s x in
      let n = count_in cpu count s in
      let u = execute (count_taking cpu w p count) t in
      let hold : Holding R w s u a n = counted_took cpu x p count s t read rel in
      let takes : Takes w count s.flags (scene_of u) a n = record {
        shown = coupling.flags s u hold.stands;
        holds = record { left = hold.left; right = hold.right };
        operand = read.small s.flags t rel;
        below = count_below cpu count s t rel;
        counts = record {
          one = λ e. ap (λ c. count_in cpu c s) e;
          constant = λ m e. ap (λ c. count_in cpu c s) e;
          some = some_counted cpu count s shifts;
        };
      } in
      let work : Working w (shift_result operation w a n s.flags)
      (executed (shift_working operation w count) (scene_of u)) =
      shift_works operation w count s.flags (scene_of u) a n takes in
      subst (After (shift_step cpu operation x count s))
      (sym (execute-append (count_taking cpu w p count) (shift_working operation w count ++ storing p (result w)) t))
      (finished R coupling After s u x p (shift_working operation w count) (shift_result operation w a n s.flags)
      written (shift_scratch operation w count) work hold.stands)

  -- by no place it takes its own value
  staying_performed : (cpu : Cpu) (operation : Shift) (x : Operand) (p : OperandPlace) (count : Count) (s : Machine)
      (t : State) → MayCount operation count → IsRead R s x p
      → IsWritten R After s x p → never_shifts count ≡ true → R s t
      → After (shift_step cpu operation x count s) (execute (staying (operand_width x) p) t)
  staying_performed cpu operation x p count s t may read written never rel =
      let w = operand_width x in
      let a = operand_value s x in
      let u = execute (taking (result_place w) p ∷ []) t in
      let one : Took R s t u (result_place w) a =
      took R coupling s t w x p (result_place w) read refl (result_is w) rel in
      let held : u.running.values (result_place w) ≡ a = ap (λ (f : Values). f (result_place w)) one.values
      ∙ result_taken w t.running.values a in
      let same : shift_result operation w a (count_in cpu count s) s.flags ≡ (a, s.flags) =
      ap (λ n. shift_result operation w a n s.flags) (none_counted cpu count s never)
      ∙ unshifted operation w a s.flags (never_rotates operation count may never) in
      subst (λ outcome. After (with_result x outcome s) (execute (staying w p) t)) (sym same)
      (subst (After (with_result x (a, s.flags) s))
      (sym (execute-append (taking (result_place w) p ∷ []) (storing p (result w)) t))
      (subst (λ n. After (with_result x (n, s.flags) s) (execute (storing p (Get (result_place w))) u)) held
      (written.taken s.flags u (result_place w) one.stands (result_is w))))

  pub shift_performed : (cpu : Cpu) (operation : Shift) (x : Operand) (p : OperandPlace) (count : Count) (s : Machine)
      (t : State) → IsShift operation x count → IsRead R s x p
      → IsWritten R After s x p → R s t
      → After (shift_step cpu operation x count s) (execute (shift_stmts cpu operation (operand_width x) p count) t)
  shift_performed cpu operation x p count s t ok read written rel =
      elim (never_shifts count) as (λ b. never_shifts count ≡ b
      → After (shift_step cpu operation x count s)
      (execute (if b then staying (operand_width x) p else shifting cpu operation (operand_width x) p count) t)) [
        | true ↦ λ never. staying_performed cpu operation x p count s t ok.may read written never rel
        | false ↦ λ shifts. shifting_performed cpu operation x p count s t read written shifts rel
      ] refl
