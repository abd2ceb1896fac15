-- The rules on constants: what they answer is the value.
use Rattle.std.proofs.Common.{◌≡◌, ℕ, zero, suc, ◌+◌, ◌-◌, ◌*◌, ◌/◌, ◌%◌, ◌^◌, ◌<◌, ◌≤◌, Bool, true, false, ◌&&◌, ◌||◌, not, List, [], ◌∷◌, length, Option, Some, None, Result, Ok, option_map, refl, sym, ap, ◌∙◌, subst, arith, true≢false, eqb-true, ltb-true, inl, inr}
use Rattle.std.specs.Prelude.{if◌then◌else◌, ◌==◌, nat_lt, nat_le, slice_index}
use Rattle.std.proofs.lemmas.Bool.{lt-ltb}
use Rattle.std.proofs.lemmas.Nat.{pow_pos}
use Rattle.dcc_ir.specs.declared.syntax.Expr.{Expr as Expression}
use Rattle.dcc_ir.specs.declared.syntax.UnOp.{UnOp}
use Rattle.dcc_ir.specs.declared.syntax.BinOp.{BinOp}
use Rattle.dcc_ir.specs.declared.syntax.BinOp.TheVariants.{Add, Sub, Mul, DivS, DivU, RemS, RemU, And, Or, Xor, Shl, Shr, Sar, Eq, LtS, LtU, LeS, LeU}
use Rattle.dcc_ir.specs.Views.{expr_of}
use Rattle.dcc_ir.specs.Tree.{Expr, Const, Get, Load, Unary, Binary, Widen, Part, Join, Choose, Address}
use Rattle.dcc_ir.specs.Value.{is_comparison, is_test, width_of, signed_at, pattern_at, unary_value, binary_value, Environment, value_of, Fits}
use Rattle.dcc_ir.specs.WellFormed.{is_width, is_division, divides_safely, is_expr}
use Rattle.dcc_ir.specs.Forms.{same_binary, is_constant, is_constant_of, is_shift, are_constants, is_binary, is_shift_of_constants, is_comparison_of_constants, is_unary_of_constant, is_cut_constant, is_joined_constant}
use Rattle.dcc_ir.specs.Measure.{nodes_of}
use Rattle.dcc_ir.proofs.FitLaws.{both, either, value_fits}
use Rattle.dcc_ir.proofs.PathLaws.{decided}
use Rattle.dcc_rules.specs.Simpler.{MeansSame, KeepsMeaning, IsSimplerUnder}
use Rattle.dcc_rules.specs.Forms.{has_form_under}
use Rattle.dcc_rules.specs.Rules.{AnswersUnder, MeetsRuleUnder}
use Rattle.dcc_rules.proofs.AmongLaws.{both_hold}
use Rattle.dcc_stdrules.specs.declared.constants.Operators.{Operators}
use Rattle.dcc_stdrules.specs.declared.constants.Operators.TheVariants.{Only, Shifts, Comparisons}
use Rattle.dcc_stdrules.specs.Rewriting.{answer_where}
use Rattle.dcc_stdrules.specs.Constants.{has_operator, is_computed, value_in, is_plain, width_told, number_told, IsComputed}
use Rattle.dcc_stdrules.proofs.SameLaws.{binary_same}
use Rattle.dcc_stdrules.proofs.WithinLaws.{constant_within, binary_nodes, unary_nodes}
use Rattle.dcc_stdrules.proofs.FormLaws.{constant_is, answer_meets}
use Rattle.dcc_stdrules.proofs.OperandLaws.{Answer, Operated, operated}
use Rattle.dcc_stdrules.proofs.HalfLaws.{UnaryParts, unary_parts, PartParts, part_parts, JoinParts, join_parts, WidenParts, widen_parts}

-- A state whose values and memory are all 0.

pub record Zeros (n : ℕ) : Type 0 where
  pub bytes : List ℕ
  pub len : length bytes ≡ n
  pub small : (k : ℕ) → slice_index bytes k < 256

zeros : (n : ℕ) → Zeros n
zeros zero = record { bytes = []; len = refl; small = λ k. omega arith }
zeros (suc n) =
    let less = zeros n in
    record { bytes = 0 ∷ less.bytes; len = ap suc less.len; small = λ k. at_place less k }
  where
    at_place : (less : Zeros n) (k : ℕ) → slice_index (0 ∷ less.bytes) k < 256
    at_place less zero = omega arith
    at_place less (suc k) = less.small k

some_memory : Zeros 65536
some_memory = zeros 65536

scene_of_zeros : List ℕ → Environment
scene_of_zeros bits = record { bits = bits; values = λ l. 0; base = 0; memory = some_memory.bytes }

zeros_fit : (bits : List ℕ) → Fits (scene_of_zeros bits)
unfolding scene_of_zeros
zeros_fit bits = record { values = λ l. pow_pos _; len = some_memory.len; bytes = some_memory.small }

-- the value of a well-formed expression fits its width, whatever the state
number_fits : (bits : List ℕ) (given : Expr) (n : ℕ) → is_expr bits given ≡ true → ((scene : Environment) → scene.bits ≡ bits → value_of scene given ≡ n) → n < 2 ^ width_of bits given
unfolding scene_of_zeros
number_fits bits given n ok is =
    subst (λ k. k < 2 ^ width_of bits given) (is (scene_of_zeros bits) refl) (value_fits (scene_of_zeros bits) (zeros_fit bits) given ok)

-- An expression of constants: it is plain where it is well formed, and its value and width are those of one constant.
pub record OfConstants (bits : List ℕ) (given : Expr) : Type 0 where
  pub nodes : 1 < nodes_of given
  pub number : ℕ
  pub width : is_expr bits given ≡ true → is_width (width_of bits given) ≡ true
  pub plain : is_expr bits given ≡ true → is_plain given ≡ true
  pub value : is_expr bits given ≡ true → value_in given ≡ Const (width_of bits given) number
  pub constant : (scene : Environment) → scene.bits ≡ bits → value_of scene given ≡ number

keeps_constant : (bits : List ℕ) (given : Expr) → OfConstants bits given → KeepsMeaning bits given (value_in given)
keeps_constant bits given h widths ok =
    subst (λ (x : Expr). MeansSame bits given x) (sym (h.value ok)) (record {
      formed = both_hold (is_width (width_of bits given)) (nat_lt h.number (2 ^ width_of bits given)) (h.width ok)
          (lt-ltb h.number (2 ^ width_of bits given) (number_fits bits given h.number ok h.constant));
      width = refl;
      value = λ scene is fits. sym (h.constant scene is);
    })

told_simpler : (bits : List ℕ) (given : Expr) (answer : Option Expr) → OfConstants bits given → IsComputed true given answer → IsSimplerUnder bits given (Const (width_told answer) (number_told answer))
told_simpler bits given answer h m = record {
  meaning = λ widths ok.
      let same : Some (value_in given) ≡ Some (Const (width_told answer) (number_told answer)) = sym (m.value refl (h.plain ok)) ∙ m.form in
      let is : value_in given ≡ Const (width_told answer) (number_told answer) = cc in
      subst (λ (x : Expr). MeansSame bits given x) is (keeps_constant bits given h widths ok);
  nodes = (constant_within given (width_told answer) (number_told answer) h.nodes).nodes;
  adds = (constant_within given (width_told answer) (number_told answer) h.nodes).adds;
}

-- what a rule of the number may answer that computes the value of expressions of constants
pub computed_meets : (id : ℕ) (bits : List ℕ) (e : Expression) (o : Option Expression) (test : Bool) → has_form_under id bits (expr_of e) ≡ test
    → (test ≡ true → OfConstants bits (expr_of e)) → IsComputed test (expr_of e) (option_map expr_of o) → MeetsRuleUnder id bits e (Ok o)
computed_meets id bits e o test form consts m =
    answer_meets id bits (expr_of e) (option_map expr_of o) test (Const (width_told (option_map expr_of o)) (number_told (option_map expr_of o))) form
    (λ t. told_simpler bits (expr_of e) (option_map expr_of o) (consts t) (subst (λ b. IsComputed b (expr_of e) (option_map expr_of o)) t m)) m.form

-- What the code computes.

pub not_computed : (test : Bool) (given : Expr) → test ≡ false → IsComputed test given None
not_computed true given e = absurd (true≢false e)
not_computed false given e = record { form = refl; value = λ t. absurd (true≢false (sym t)) }

pub computed_as : (test : Bool) (given : Expr) (w n : ℕ) → test ≡ true → (is_plain given ≡ true → Const w n ≡ value_in given) → IsComputed test given (Some (Const w n))
computed_as true given w n e same = record { form = refl; value = λ t plain. ap (λ x. Some x) (same plain) }
computed_as false given w n e same = absurd (true≢false (sym e))

-- Operators on two constants.

either_width : (c : Bool) (w : ℕ) → is_width w ≡ true → is_width (if c then 1 else w) ≡ true
either_width true w e = refl
either_width false w e = e

binary_constants : (bits : List ℕ) (f : BinOp) (w m n : ℕ) → is_division f ≡ false → OfConstants bits (Binary f w (Const w m) (Const w n))
binary_constants bits f w m n whole = record {
  nodes = omega arith;
  number = binary_value f w m n;
  width = λ ok. either_width (is_comparison f) w (operated bits f w (Const w m) (Const w n) ok).width;
  plain = λ ok. both_hold (is_width w) (not (is_division f)) (operated bits f w (Const w m) (Const w n) ok).width (ap not whole);
  value = λ ok. refl;
  constant = λ scene is. refl;
}

of_two_constants : (bits : List ℕ) (f : BinOp) (w : ℕ) (a b : Expr) → is_division f ≡ false → are_constants w a b ≡ true → OfConstants bits (Binary f w a b)
of_two_constants bits f w a b whole t =
    let p = both (is_constant_of w a) (is_constant_of w b) t in
    let m = constant_is w a p.0 in
    let n = constant_is w b p.1 in
    subst (λ (x : Expr). OfConstants bits (Binary f w x b)) (sym m.1) (subst (λ (x : Expr). OfConstants bits (Binary f w (Const w m.0) x)) (sym n.1) (binary_constants bits f w m.0 n.0 whole))

computed_constants : (bits : List ℕ) (operators : Operators) → ((f : BinOp) → has_operator operators f ≡ true → is_division f ≡ false) → (e : Expr) → is_computed operators e ≡ true → OfConstants bits e
computed_constants bits operators none (Binary f w a b) t =
    let p = both (has_operator operators f) (are_constants w a b) t in
    of_two_constants bits f w a b (none f p.0) p.1
computed_constants bits operators none (Const v n) t = absurd (true≢false (sym t))
computed_constants bits operators none (Get l) t = absurd (true≢false (sym t))
computed_constants bits operators none (Load v y) t = absurd (true≢false (sym t))
computed_constants bits operators none (Unary g v y) t = absurd (true≢false (sym t))
computed_constants bits operators none (Widen s v y) t = absurd (true≢false (sym t))
computed_constants bits operators none (Part v m y) t = absurd (true≢false (sym t))
computed_constants bits operators none (Join y z) t = absurd (true≢false (sym t))
computed_constants bits operators none (Choose q y z) t = absurd (true≢false (sym t))
computed_constants bits operators none (Address d) t = absurd (true≢false (sym t))

only_form : (f : BinOp) (e : Expr) → is_binary f are_constants e ≡ is_computed (Only f) e
only_form f (Const v n) = refl
only_form f (Get l) = refl
only_form f (Load v y) = refl
only_form f (Unary g v y) = refl
only_form f (Binary g v y z) = refl
only_form f (Widen s v y) = refl
only_form f (Part v m y) = refl
only_form f (Join y z) = refl
only_form f (Choose q y z) = refl
only_form f (Address d) = refl

shift_form : (e : Expr) → is_shift_of_constants e ≡ is_computed Shifts e
shift_form (Const v n) = refl
shift_form (Get l) = refl
shift_form (Load v y) = refl
shift_form (Unary g v y) = refl
shift_form (Binary g v y z) = refl
shift_form (Widen s v y) = refl
shift_form (Part v m y) = refl
shift_form (Join y z) = refl
shift_form (Choose q y z) = refl
shift_form (Address d) = refl

comparison_form : (e : Expr) → is_comparison_of_constants e ≡ is_computed Comparisons e
comparison_form (Const v n) = refl
comparison_form (Get l) = refl
comparison_form (Load v y) = refl
comparison_form (Unary g v y) = refl
comparison_form (Binary g v y z) = refl
comparison_form (Widen s v y) = refl
comparison_form (Part v m y) = refl
comparison_form (Join y z) = refl
comparison_form (Choose q y z) = refl
comparison_form (Address d) = refl

-- no shift and no comparison is a division
shifts_divide_nothing : (f : BinOp) → has_operator Shifts f ≡ true → is_division f ≡ false
shifts_divide_nothing Add t = refl
shifts_divide_nothing Sub t = refl
shifts_divide_nothing Mul t = refl
shifts_divide_nothing DivS t = absurd (true≢false (sym t))
shifts_divide_nothing DivU t = absurd (true≢false (sym t))
shifts_divide_nothing RemS t = absurd (true≢false (sym t))
shifts_divide_nothing RemU t = absurd (true≢false (sym t))
shifts_divide_nothing And t = refl
shifts_divide_nothing Or t = refl
shifts_divide_nothing Xor t = refl
shifts_divide_nothing Shl t = refl
shifts_divide_nothing Shr t = refl
shifts_divide_nothing Sar t = refl
shifts_divide_nothing Eq t = refl
shifts_divide_nothing LtS t = refl
shifts_divide_nothing LtU t = refl
shifts_divide_nothing LeS t = refl
shifts_divide_nothing LeU t = refl

comparisons_divide_nothing : (f : BinOp) → has_operator Comparisons f ≡ true → is_division f ≡ false
comparisons_divide_nothing Add t = refl
comparisons_divide_nothing Sub t = refl
comparisons_divide_nothing Mul t = refl
comparisons_divide_nothing DivS t = absurd (true≢false (sym t))
comparisons_divide_nothing DivU t = absurd (true≢false (sym t))
comparisons_divide_nothing RemS t = absurd (true≢false (sym t))
comparisons_divide_nothing RemU t = absurd (true≢false (sym t))
comparisons_divide_nothing And t = refl
comparisons_divide_nothing Or t = refl
comparisons_divide_nothing Xor t = refl
comparisons_divide_nothing Shl t = refl
comparisons_divide_nothing Shr t = refl
comparisons_divide_nothing Sar t = refl
comparisons_divide_nothing Eq t = refl
comparisons_divide_nothing LtS t = refl
comparisons_divide_nothing LtU t = refl
comparisons_divide_nothing LeS t = refl
comparisons_divide_nothing LeU t = refl

only_divides_nothing : (f : BinOp) → is_division f ≡ false → (g : BinOp) → has_operator (Only f) g ≡ true → is_division g ≡ false
only_divides_nothing f whole g t = ap is_division (binary_same g f t) ∙ whole

pub meets_21 : (bits : List ℕ) (e : Expression) (o : Option Expression) → IsComputed (is_computed (Only Add) (expr_of e)) (expr_of e) (option_map expr_of o) → MeetsRuleUnder 21 bits e (Ok o)
meets_21 bits e o m =
    computed_meets 21 bits e o (is_computed (Only Add) (expr_of e)) (only_form Add (expr_of e)) (λ t. computed_constants bits (Only Add) (only_divides_nothing Add refl) (expr_of e) t) m

pub meets_22 : (bits : List ℕ) (e : Expression) (o : Option Expression) → IsComputed (is_computed (Only Sub) (expr_of e)) (expr_of e) (option_map expr_of o) → MeetsRuleUnder 22 bits e (Ok o)
meets_22 bits e o m =
    computed_meets 22 bits e o (is_computed (Only Sub) (expr_of e)) (only_form Sub (expr_of e)) (λ t. computed_constants bits (Only Sub) (only_divides_nothing Sub refl) (expr_of e) t) m

pub meets_23 : (bits : List ℕ) (e : Expression) (o : Option Expression) → IsComputed (is_computed (Only Mul) (expr_of e)) (expr_of e) (option_map expr_of o) → MeetsRuleUnder 23 bits e (Ok o)
meets_23 bits e o m =
    computed_meets 23 bits e o (is_computed (Only Mul) (expr_of e)) (only_form Mul (expr_of e)) (λ t. computed_constants bits (Only Mul) (only_divides_nothing Mul refl) (expr_of e) t) m

pub meets_24 : (bits : List ℕ) (e : Expression) (o : Option Expression) → IsComputed (is_computed (Only And) (expr_of e)) (expr_of e) (option_map expr_of o) → MeetsRuleUnder 24 bits e (Ok o)
meets_24 bits e o m =
    computed_meets 24 bits e o (is_computed (Only And) (expr_of e)) (only_form And (expr_of e)) (λ t. computed_constants bits (Only And) (only_divides_nothing And refl) (expr_of e) t) m

pub meets_25 : (bits : List ℕ) (e : Expression) (o : Option Expression) → IsComputed (is_computed (Only Or) (expr_of e)) (expr_of e) (option_map expr_of o) → MeetsRuleUnder 25 bits e (Ok o)
meets_25 bits e o m =
    computed_meets 25 bits e o (is_computed (Only Or) (expr_of e)) (only_form Or (expr_of e)) (λ t. computed_constants bits (Only Or) (only_divides_nothing Or refl) (expr_of e) t) m

pub meets_26 : (bits : List ℕ) (e : Expression) (o : Option Expression) → IsComputed (is_computed (Only Xor) (expr_of e)) (expr_of e) (option_map expr_of o) → MeetsRuleUnder 26 bits e (Ok o)
meets_26 bits e o m =
    computed_meets 26 bits e o (is_computed (Only Xor) (expr_of e)) (only_form Xor (expr_of e)) (λ t. computed_constants bits (Only Xor) (only_divides_nothing Xor refl) (expr_of e) t) m

pub meets_27 : (bits : List ℕ) (e : Expression) (o : Option Expression) → IsComputed (is_computed Shifts (expr_of e)) (expr_of e) (option_map expr_of o) → MeetsRuleUnder 27 bits e (Ok o)
meets_27 bits e o m = computed_meets 27 bits e o (is_computed Shifts (expr_of e)) (shift_form (expr_of e)) (λ t. computed_constants bits Shifts shifts_divide_nothing (expr_of e) t) m

pub meets_28 : (bits : List ℕ) (e : Expression) (o : Option Expression) → IsComputed (is_computed Comparisons (expr_of e)) (expr_of e) (option_map expr_of o) → MeetsRuleUnder 28 bits e (Ok o)
meets_28 bits e o m = computed_meets 28 bits e o (is_computed Comparisons (expr_of e)) (comparison_form (expr_of e)) (λ t. computed_constants bits Comparisons comparisons_divide_nothing (expr_of e) t) m

-- An operator on one constant.

unary_constant : (bits : List ℕ) (f : UnOp) (w n : ℕ) → OfConstants bits (Unary f w (Const w n))
unary_constant bits f w n = record {
  nodes = omega arith;
  number = unary_value f w n;
  width = λ ok. either_width (is_test f) w (unary_parts bits f w (Const w n) ok).width;
  plain = λ ok. (unary_parts bits f w (Const w n) ok).width;
  value = λ ok. refl;
  constant = λ scene is. refl;
}

of_one_constant : (bits : List ℕ) (e : Expr) → is_unary_of_constant e ≡ true → OfConstants bits e
of_one_constant bits (Unary f w a) t =
    let n = constant_is w a t in
    subst (λ (x : Expr). OfConstants bits (Unary f w x)) (sym n.1) (unary_constant bits f w n.0)
of_one_constant bits (Const v n) t = absurd (true≢false (sym t))
of_one_constant bits (Get l) t = absurd (true≢false (sym t))
of_one_constant bits (Load v y) t = absurd (true≢false (sym t))
of_one_constant bits (Binary g v y z) t = absurd (true≢false (sym t))
of_one_constant bits (Widen s v y) t = absurd (true≢false (sym t))
of_one_constant bits (Part v m y) t = absurd (true≢false (sym t))
of_one_constant bits (Join y z) t = absurd (true≢false (sym t))
of_one_constant bits (Choose q y z) t = absurd (true≢false (sym t))
of_one_constant bits (Address d) t = absurd (true≢false (sym t))

pub meets_29 : (bits : List ℕ) (e : Expression) (o : Option Expression) → IsComputed (is_unary_of_constant (expr_of e)) (expr_of e) (option_map expr_of o) → MeetsRuleUnder 29 bits e (Ok o)
meets_29 bits e o m = computed_meets 29 bits e o (is_unary_of_constant (expr_of e)) refl (λ t. of_one_constant bits (expr_of e) t) m

-- Parts of constants, widened constants, joined constants.

part_of_constant : (bits : List ℕ) (w first v n : ℕ) → OfConstants bits (Part w first (Const v n))
part_of_constant bits w first v n = record {
  nodes = omega arith;
  number = n / 2 ^ first % 2 ^ w;
  width = λ ok. (part_parts bits w first (Const v n) ok).width;
  plain = λ ok. (part_parts bits w first (Const v n) ok).width;
  value = λ ok. refl;
  constant = λ scene is. refl;
}

widened_constant : (bits : List ℕ) (signed : Bool) (w v n : ℕ) → OfConstants bits (Widen signed w (Const v n))
widened_constant bits signed w v n = record {
  nodes = omega arith;
  number = if signed then pattern_at w (signed_at v n) else n;
  width = λ ok. (widen_parts bits signed w (Const v n) ok).width;
  plain = λ ok.
      let h = widen_parts bits signed w (Const v n) ok in
      both_hold (is_width v) (is_width w) (both (is_width v) (nat_lt n (2 ^ v)) h.operand).0 h.width;
  value = λ ok. refl;
  constant = λ scene is. refl;
}

of_cut_constant : (bits : List ℕ) (e : Expr) → is_cut_constant e ≡ true → OfConstants bits e
of_cut_constant bits (Part w first (Const v n)) t = part_of_constant bits w first v n
of_cut_constant bits (Part w first (Get l)) t = absurd (true≢false (sym t))
of_cut_constant bits (Part w first (Load v y)) t = absurd (true≢false (sym t))
of_cut_constant bits (Part w first (Unary g v y)) t = absurd (true≢false (sym t))
of_cut_constant bits (Part w first (Binary g v y z)) t = absurd (true≢false (sym t))
of_cut_constant bits (Part w first (Widen s v y)) t = absurd (true≢false (sym t))
of_cut_constant bits (Part w first (Part v m y)) t = absurd (true≢false (sym t))
of_cut_constant bits (Part w first (Join y z)) t = absurd (true≢false (sym t))
of_cut_constant bits (Part w first (Choose q y z)) t = absurd (true≢false (sym t))
of_cut_constant bits (Part w first (Address d)) t = absurd (true≢false (sym t))
of_cut_constant bits (Widen signed w (Const v n)) t = widened_constant bits signed w v n
of_cut_constant bits (Widen signed w (Get l)) t = absurd (true≢false (sym t))
of_cut_constant bits (Widen signed w (Load v y)) t = absurd (true≢false (sym t))
of_cut_constant bits (Widen signed w (Unary g v y)) t = absurd (true≢false (sym t))
of_cut_constant bits (Widen signed w (Binary g v y z)) t = absurd (true≢false (sym t))
of_cut_constant bits (Widen signed w (Widen s v y)) t = absurd (true≢false (sym t))
of_cut_constant bits (Widen signed w (Part v m y)) t = absurd (true≢false (sym t))
of_cut_constant bits (Widen signed w (Join y z)) t = absurd (true≢false (sym t))
of_cut_constant bits (Widen signed w (Choose q y z)) t = absurd (true≢false (sym t))
of_cut_constant bits (Widen signed w (Address d)) t = absurd (true≢false (sym t))
of_cut_constant bits (Const v n) t = absurd (true≢false (sym t))
of_cut_constant bits (Get l) t = absurd (true≢false (sym t))
of_cut_constant bits (Load v y) t = absurd (true≢false (sym t))
of_cut_constant bits (Unary g v y) t = absurd (true≢false (sym t))
of_cut_constant bits (Binary g v y z) t = absurd (true≢false (sym t))
of_cut_constant bits (Join y z) t = absurd (true≢false (sym t))
of_cut_constant bits (Choose q y z) t = absurd (true≢false (sym t))
of_cut_constant bits (Address d) t = absurd (true≢false (sym t))

pub meets_33 : (bits : List ℕ) (e : Expression) (o : Option Expression) → IsComputed (is_cut_constant (expr_of e)) (expr_of e) (option_map expr_of o) → MeetsRuleUnder 33 bits e (Ok o)
meets_33 bits e o m = computed_meets 33 bits e o (is_cut_constant (expr_of e)) refl (λ t. of_cut_constant bits (expr_of e) t) m

-- the widths of halves, and of what they make
halves_width : (u : ℕ) → (u == 8 || u == 16) ≡ true → is_width (u + u) ≡ true
halves_width u t = elim (either (u == 8) (u == 16) t) [
  | inl e ↦ let is : u ≡ 8 = eqb-true u 8 e in subst (λ k. is_width (k + k) ≡ true) (sym is) refl
  | inr e ↦ let is : u ≡ 16 = eqb-true u 16 e in subst (λ k. is_width (k + k) ≡ true) (sym is) refl
]

joined_constants : (bits : List ℕ) (v m u n : ℕ) → OfConstants bits (Join (Const v m) (Const u n))
joined_constants bits v m u n = record {
  nodes = omega arith;
  number = m * 2 ^ u + n;
  width = λ ok.
      let h = join_parts bits (Const v m) (Const u n) ok in
      subst (λ k. is_width (k + u) ≡ true) (sym h.alike) (halves_width u (halves ok));
  plain = λ ok.
      let h = join_parts bits (Const v m) (Const u n) ok in
      both_hold (v == u && (u == 8 || u == 16) && nat_lt m (2 ^ v)) (nat_lt n (2 ^ u))
      (both_hold (v == u && (u == 8 || u == 16)) (nat_lt m (2 ^ v)) (both_hold (v == u) (u == 8 || u == 16) (alike ok) (halves ok)) (both (is_width v) (nat_lt m (2 ^ v)) h.high).1)
      (both (is_width u) (nat_lt n (2 ^ u)) h.low).1;
  value = λ ok. refl;
  constant = λ scene is. refl;
}
  where
    three : is_expr bits (Join (Const v m) (Const u n)) ≡ true → ((is_expr bits (Const v m) && is_expr bits (Const u n) && (v == u)) ≡ true) × ((u == 8 || u == 16) ≡ true)
    three ok = both (is_expr bits (Const v m) && is_expr bits (Const u n) && (v == u)) (u == 8 || u == 16) ok

    halves : is_expr bits (Join (Const v m) (Const u n)) ≡ true → (u == 8 || u == 16) ≡ true
    halves ok = (three ok).1

    alike : is_expr bits (Join (Const v m) (Const u n)) ≡ true → (v == u) ≡ true
    alike ok = (both (is_expr bits (Const v m) && is_expr bits (Const u n)) (v == u) (three ok).0).1

of_joined_constants : (bits : List ℕ) (e : Expr) → is_joined_constant e ≡ true → OfConstants bits e
of_joined_constants bits (Join (Const v m) (Const u n)) t = joined_constants bits v m u n
of_joined_constants bits (Join (Const v2 m2) (Get l)) t = absurd (true≢false (sym t))
of_joined_constants bits (Join (Const v2 m2) (Load v y)) t = absurd (true≢false (sym t))
of_joined_constants bits (Join (Const v2 m2) (Unary g v y)) t = absurd (true≢false (sym t))
of_joined_constants bits (Join (Const v2 m2) (Binary g v y z)) t = absurd (true≢false (sym t))
of_joined_constants bits (Join (Const v2 m2) (Widen s v y)) t = absurd (true≢false (sym t))
of_joined_constants bits (Join (Const v2 m2) (Part v m y)) t = absurd (true≢false (sym t))
of_joined_constants bits (Join (Const v2 m2) (Join y z)) t = absurd (true≢false (sym t))
of_joined_constants bits (Join (Const v2 m2) (Choose q y z)) t = absurd (true≢false (sym t))
of_joined_constants bits (Join (Const v2 m2) (Address d)) t = absurd (true≢false (sym t))
of_joined_constants bits (Join (Get l) z2) t = absurd (true≢false (sym t))
of_joined_constants bits (Join (Load v y) z2) t = absurd (true≢false (sym t))
of_joined_constants bits (Join (Unary g v y) z2) t = absurd (true≢false (sym t))
of_joined_constants bits (Join (Binary g v y z) z2) t = absurd (true≢false (sym t))
of_joined_constants bits (Join (Widen s v y) z2) t = absurd (true≢false (sym t))
of_joined_constants bits (Join (Part v m y) z2) t = absurd (true≢false (sym t))
of_joined_constants bits (Join (Join y z) z2) t = absurd (true≢false (sym t))
of_joined_constants bits (Join (Choose q y z) z2) t = absurd (true≢false (sym t))
of_joined_constants bits (Join (Address d) z2) t = absurd (true≢false (sym t))
of_joined_constants bits (Const v n) t = absurd (true≢false (sym t))
of_joined_constants bits (Get l) t = absurd (true≢false (sym t))
of_joined_constants bits (Load v y) t = absurd (true≢false (sym t))
of_joined_constants bits (Unary g v y) t = absurd (true≢false (sym t))
of_joined_constants bits (Binary g v y z) t = absurd (true≢false (sym t))
of_joined_constants bits (Widen s v y) t = absurd (true≢false (sym t))
of_joined_constants bits (Part v m y) t = absurd (true≢false (sym t))
of_joined_constants bits (Choose q y z) t = absurd (true≢false (sym t))
of_joined_constants bits (Address d) t = absurd (true≢false (sym t))

pub meets_34 : (bits : List ℕ) (e : Expression) (o : Option Expression) → IsComputed (is_joined_constant (expr_of e)) (expr_of e) (option_map expr_of o) → MeetsRuleUnder 34 bits e (Ok o)
meets_34 bits e o m = computed_meets 34 bits e o (is_joined_constant (expr_of e)) refl (λ t. of_joined_constants bits (expr_of e) t) m
