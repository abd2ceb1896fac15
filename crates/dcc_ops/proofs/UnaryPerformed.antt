-- INC, DEC, NEG and NOT: their statements do to the run what they do to the machine.
use Rattle.std.proofs.Common.{◌≡◌, ◌∙◌, sym, ap, refl, subst, ℕ, ◌-◌, ◌<◌, true, false, List, [], ◌∷◌, ◌++◌, arith}
use Rattle.std.specs.Int.{from_bool}
use Rattle.std.specs.List.{list_all}
use Rattle.dcc_num.specs.declared.Width.{Width}
use Rattle.dcc_num.specs.declared.Width.TheVariants.{Byte as byte_width, Word as word_width}
use Rattle.dcc_num.specs.declared.FlagName.TheVariants.{Cf}
use Rattle.dcc_num.specs.declared.Flags.{Flags}
use Rattle.dcc_num.specs.Numbers.{limit_of}
use Rattle.dcc_num.specs.Sum.{sum_of, difference_of, negation_of, keeping_carry, increment_of, decrement_of}
use Rattle.dcc_machine.specs.declared.instr.Unary.TheVariants.{Inc, Dec, Neg, Not}
use Rattle.dcc_machine.specs.declared.instr.Operand.{Operand}
use Rattle.dcc_machine.specs.declared.instr.Operand.TheVariants.{Const as Constant}
use Rattle.dcc_machine.specs.Machine.{State as Machine, operand_value, operand_width, with_operand}
use Rattle.dcc_machine.specs.Operations.{with_result}
use Rattle.dcc_ir.specs.declared.syntax.Loc.TheVariants.{Flag, Temp}
use Rattle.dcc_ir.specs.declared.syntax.BinOp.TheVariants.{Eq}
use Rattle.dcc_ir.specs.Location.{Values, with_value}
use Rattle.dcc_ir.specs.Tree.{Stmt}
use Rattle.dcc_ir.specs.Value.{Environment}
use Rattle.dcc_ir.specs.Run.{State, scene_of, execute}
use Rattle.dcc_ir.proofs.ExecuteLaws.{execute-append}
use Rattle.dcc_ops.specs.Temporaries.{left_place, right_place}
use Rattle.dcc_ops.specs.OperandPlace.{OperandPlace, constant, taking, storing}
use Rattle.dcc_ops.specs.Expressions.{left, right, result, at_width, sign, is_zero, sum, sum_overflow, difference, difference_overflow}
use Rattle.dcc_ops.specs.Statements.{operands_taking, result_taking, sum_flags, difference_flags, subtracting, complementing, unary_stmts}
use Rattle.dcc_ops.specs.Executed.{executed}
use Rattle.dcc_ops.specs.Coupling.{Relation, HoldFlags, IsCoupling, IsRead, IsWritten}
use Rattle.dcc_ops.proofs.CouplingLaws.{sets_scratch, Working, Holding, Took, left_is, took, both_took, register_read, finished}
use Rattle.dcc_ops.proofs.SumValues.{sum_result, sum_below, sum_sign, sum_zero, difference_result, difference_below, difference_sign, difference_equal}
use Rattle.dcc_ops.proofs.AluPerformed.{worked_three, sum_overflow_value, difference_overflow_value, sign_flag, zero_flag, difference_worked, alu_scratch}
use Rattle.dcc_machine.specs.declared.instr.Alu.TheVariants.{Sub}

one_below : (w : Width) → 1 < limit_of w
one_below byte_width = omega arith
one_below word_width = omega arith

-- a sum that keeps CF
increment_worked : (w : Width) (flags : Flags) (scene : Environment) → scene.values (Flag Cf) ≡ from_bool flags.cf
    → scene.values (left_place w) < limit_of w → scene.values (right_place w) < limit_of w
    → Working w (keeping_carry flags (sum_of w (scene.values (left_place w)) (scene.values (right_place w)) false))
    (executed (result_taking w (sum w) ++ sum_flags w) scene)
increment_worked byte_width flags scene carry first second =
    let a = scene.values (Temp 0) in
    let b = scene.values (Temp 1) in
    let outcome : ℕ × Flags = sum_of byte_width a b false in
    let r = sum_result byte_width a b in
    worked_three byte_width scene (sum byte_width) (sum_overflow byte_width) (sign byte_width (result byte_width))
    (is_zero byte_width (result byte_width)) (keeping_carry flags outcome) r
    (sum_overflow_value byte_width a b _ false first second r)
    (sign_flag byte_width _ outcome r (sum_below byte_width a b false) (sum_sign byte_width a b false))
    (zero_flag _ outcome r (sum_zero byte_width a b false))
    carry
increment_worked word_width flags scene carry first second =
    let a = scene.values (Temp 3) in
    let b = scene.values (Temp 4) in
    let outcome : ℕ × Flags = sum_of word_width a b false in
    let r = sum_result word_width a b in
    worked_three word_width scene (sum word_width) (sum_overflow word_width) (sign word_width (result word_width))
    (is_zero word_width (result word_width)) (keeping_carry flags outcome) r
    (sum_overflow_value word_width a b _ false first second r)
    (sign_flag word_width _ outcome r (sum_below word_width a b false) (sum_sign word_width a b false))
    (zero_flag _ outcome r (sum_zero word_width a b false))
    carry

-- a difference that keeps CF
decrement_worked : (w : Width) (flags : Flags) (scene : Environment) → scene.values (Flag Cf) ≡ from_bool flags.cf
    → scene.values (left_place w) < limit_of w → scene.values (right_place w) < limit_of w
    → Working w (keeping_carry flags
    (difference_of w (scene.values (left_place w)) (scene.values (right_place w)) false))
    (executed (result_taking w (difference w) ++ difference_flags w) scene)
decrement_worked byte_width flags scene carry first second =
    let a = scene.values (Temp 0) in
    let b = scene.values (Temp 1) in
    let outcome : ℕ × Flags = difference_of byte_width a b false in
    let r = difference_result byte_width a b in
    worked_three byte_width scene (difference byte_width) (difference_overflow byte_width)
    (sign byte_width (result byte_width))
    (at_width Eq byte_width (left byte_width) (right byte_width)) (keeping_carry flags outcome) r
    (difference_overflow_value byte_width a b 0 _ false first second refl r)
    (sign_flag byte_width _ outcome r (difference_below byte_width a b false) (difference_sign byte_width a b false))
    (ap from_bool (difference_equal byte_width a b first second))
    carry
decrement_worked word_width flags scene carry first second =
    let a = scene.values (Temp 3) in
    let b = scene.values (Temp 4) in
    let outcome : ℕ × Flags = difference_of word_width a b false in
    let r = difference_result word_width a b in
    worked_three word_width scene (difference word_width) (difference_overflow word_width)
    (sign word_width (result word_width))
    (at_width Eq word_width (left word_width) (right word_width)) (keeping_carry flags outcome) r
    (difference_overflow_value word_width a b 0 _ false first second refl r)
    (sign_flag word_width _ outcome r (difference_below word_width a b false) (difference_sign word_width a b false))
    (ap from_bool (difference_equal word_width a b first second))
    carry

none_below : (w : Width) → 0 < limit_of w
none_below byte_width = omega arith
none_below word_width = omega arith

increment_scratch : (w : Width) → list_all sets_scratch (result_taking w (sum w) ++ sum_flags w) ≡ true
increment_scratch byte_width = refl
increment_scratch word_width = refl

decrement_scratch : (w : Width) → list_all sets_scratch (result_taking w (difference w) ++ difference_flags w) ≡ true
decrement_scratch byte_width = refl
decrement_scratch word_width = refl

complement_scratch : (w : Width) → list_all sets_scratch (complementing w) ≡ true
complement_scratch byte_width = refl
complement_scratch word_width = refl

-- NOT sets no flags
complement_worked : (w : Width) (flags : Flags) (scene : Environment) (a : ℕ) → HoldFlags flags scene.values
    → scene.values (left_place w) ≡ a
    → Working w (limit_of w - 1 - a, flags) (executed (complementing w) scene)
complement_worked byte_width flags scene a h e = record {
  value = ap (λ n. 256 - 1 - n) e;
  flags = record { carry = h.carry; zero = h.zero; negative = h.negative; overflow = h.overflow };
}
complement_worked word_width flags scene a h e = record {
  value = ap (λ n. 65536 - 1 - n) e;
  flags = record { carry = h.carry; zero = h.zero; negative = h.negative; overflow = h.overflow };
}

left_taken : (w : Width) (values : Values) (a : ℕ) → with_value values (left_place w) a (left_place w) ≡ a
left_taken byte_width values a = refl
left_taken word_width values a = refl

module _ (R After : Relation) (coupling : IsCoupling R) (x : Operand) (p : OperandPlace) (s : Machine) (t : State)
    (read : IsRead R s x p) (written : IsWritten R After s x p) (rel : R s t) where
  small : operand_value s x < limit_of (operand_width x)
  small = read.small s.flags t rel

  -- two operands are taken, a result and flags are made of them, and the operand takes the result
  combined : (a b : Operand) (c d : OperandPlace) (stmts : List Stmt) (outcome : ℕ × Flags) → IsRead R s a c
      → IsRead R s b d
      → operand_width a ≡ operand_width x → operand_width b ≡ operand_width x
      → list_all sets_scratch stmts ≡ true
      → ((u : State) → Holding R (operand_width x) s u (operand_value s a) (operand_value s b)
      → Working (operand_width x) outcome (executed stmts (scene_of u)))
      → After (with_result x outcome s)
      (execute (operands_taking (operand_width x) c d ++ (stmts ++ storing p (result (operand_width x)))) t)
  combined a b c d stmts outcome first second one other ok works =
      let w = operand_width x in
      let u = execute (operands_taking w c d) t in
      let hold : Holding R w s u (operand_value s a) (operand_value s b) =
      both_took R coupling s t w a b c d first second one other rel in
      subst (After (with_result x outcome s))
      (sym (execute-append (operands_taking w c d) (stmts ++ storing p (result w)) t))
      (finished R coupling After s u x p stmts outcome written ok (works u hold) hold.stands)

  number_read : (n : ℕ) → n < limit_of (operand_width x)
      → IsRead R s (Constant (operand_width x) n) (constant (operand_width x) n)
  number_read n fits = register_read R coupling s (Constant (operand_width x) n) refl fits

  pub inc_performed : After (with_result x (increment_of (operand_width x) (operand_value s x) s.flags) s)
      (execute (unary_stmts Inc (operand_width x) p) t)
  unfolding increment_of
  inc_performed =
      let w = operand_width x in
      let a = operand_value s x in
      combined x (Constant w 1) p (constant w 1) (result_taking w (sum w) ++ sum_flags w)
      (keeping_carry s.flags (sum_of w a 1 false)) read (number_read 1 (one_below w)) refl refl (increment_scratch w)
      (λ u hold. subst (λ v. Working w (keeping_carry s.flags (sum_of w v 1 false))
      (executed (result_taking w (sum w) ++ sum_flags w) (scene_of u))) hold.left
      (subst (λ v. Working w (keeping_carry s.flags (sum_of w (u.running.values (left_place w)) v false))
      (executed (result_taking w (sum w) ++ sum_flags w) (scene_of u))) hold.right
      (increment_worked w s.flags (scene_of u) (coupling.flags s u hold.stands).carry
      (subst (λ n. n < limit_of w) (sym hold.left) small)
      (subst (λ n. n < limit_of w) (sym hold.right) (one_below w)))))

  pub dec_performed : After (with_result x (decrement_of (operand_width x) (operand_value s x) s.flags) s)
      (execute (unary_stmts Dec (operand_width x) p) t)
  unfolding decrement_of
  dec_performed =
      let w = operand_width x in
      let a = operand_value s x in
      combined x (Constant w 1) p (constant w 1) (result_taking w (difference w) ++ difference_flags w)
      (keeping_carry s.flags (difference_of w a 1 false)) read (number_read 1 (one_below w)) refl refl
      (decrement_scratch w)
      (λ u hold. subst (λ v. Working w (keeping_carry s.flags (difference_of w v 1 false))
      (executed (result_taking w (difference w) ++ difference_flags w) (scene_of u))) hold.left
      (subst (λ v. Working w (keeping_carry s.flags (difference_of w (u.running.values (left_place w)) v false))
      (executed (result_taking w (difference w) ++ difference_flags w) (scene_of u))) hold.right
      (decrement_worked w s.flags (scene_of u) (coupling.flags s u hold.stands).carry
      (subst (λ n. n < limit_of w) (sym hold.left) small)
      (subst (λ n. n < limit_of w) (sym hold.right) (one_below w)))))

  pub neg_performed : After (with_result x (negation_of (operand_width x) (operand_value s x)) s)
      (execute (unary_stmts Neg (operand_width x) p) t)
  unfolding negation_of
  neg_performed =
      let w = operand_width x in
      let a = operand_value s x in
      combined (Constant w 0) x (constant w 0) p (subtracting w) (difference_of w 0 a false)
      (number_read 0 (none_below w)) read refl refl (alu_scratch Sub w)
      (λ u hold. subst (λ v. Working w (difference_of w v a false) (executed (subtracting w) (scene_of u))) hold.left
      (subst (λ v. Working w (difference_of w (u.running.values (left_place w)) v false)
      (executed (subtracting w) (scene_of u))) hold.right
      (difference_worked w (scene_of u) (subst (λ n. n < limit_of w) (sym hold.left) (none_below w))
      (subst (λ n. n < limit_of w) (sym hold.right) small))))

  pub not_performed : After (with_operand s x (limit_of (operand_width x) - 1 - operand_value s x))
      (execute (unary_stmts Not (operand_width x) p) t)
  not_performed =
      let w = operand_width x in
      let a = operand_value s x in
      let u = execute (taking (left_place w) p ∷ []) t in
      let one : Took R s t u (left_place w) a = took R coupling s t w x p (left_place w) read refl (left_is w) rel in
      let held : u.running.values (left_place w) ≡ a = ap (λ (f : Values). f (left_place w)) one.values
      ∙ left_taken w t.running.values a in
      let work = complement_worked w s.flags (scene_of u) a (coupling.flags s u one.stands) held in
      subst (After (with_operand s x (limit_of w - 1 - a)))
      (sym (execute-append (taking (left_place w) p ∷ []) (complementing w ++ storing p (result w)) t))
      (finished R coupling After s u x p (complementing w) (limit_of w - 1 - a, s.flags) written (complement_scratch w)
      work one.stands)
