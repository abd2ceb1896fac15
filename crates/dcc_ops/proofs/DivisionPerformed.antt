-- Divisions whose upper half is prepared: their statements do to the run what the operations do to the machine, or end
-- both by a divide fault.
use Rattle.std.proofs.Common.{arith, ◌≡◌, ◌∙◌, refl, sym, ap, ap₂, subst, ℕ, ◌+◌, ◌*◌, ◌/◌, ◌%◌, ◌<◌, Bool, true, false, ◌==◌, if◌then◌else◌, List, [], ◌∷◌, ◌++◌, Option, Some, None}
use Rattle.std.specs.Prelude.{int_div, int_rem}
use Rattle.std.proofs.Math.Nat.{div-le_self, mod-le}
use Rattle.dcc_run.specs.End.{Divide, is_over}
use Rattle.dcc_num.specs.declared.Width.{Width}
use Rattle.dcc_num.specs.declared.Width.TheVariants.{Byte as byte_width, Word as word_width}
use Rattle.dcc_num.specs.declared.Reg.TheVariants.{Ax, Dx}
use Rattle.dcc_num.specs.Numbers.{bits_of, limit_of, no_flags}
use Rattle.dcc_num.specs.Quotient.{division_of as pair_of, signed_division_of as signed_pair_of}
use Rattle.dcc_machine.specs.declared.instr.Operand.{Operand}
use Rattle.dcc_machine.specs.Machine.{State as Machine, with_word_in, operand_value, operand_width}
use Rattle.dcc_machine.specs.Operations.{with_end, with_flags, with_pair, with_division, accumulator_in, upper_in}
use Rattle.dcc_ir.specs.declared.syntax.Loc.TheVariants.{Temp}
use Rattle.dcc_ir.specs.declared.syntax.BinOp.{BinOp}
use Rattle.dcc_ir.specs.declared.syntax.BinOp.TheVariants.{DivS, DivU, RemS, RemU}
use Rattle.dcc_ir.specs.Location.{Values, with_value}
use Rattle.dcc_ir.specs.Tree.{Stmt, Div}
use Rattle.dcc_ir.specs.Value.{division_at, faults_signed, signed_at, pattern_at}
use Rattle.dcc_ir.specs.Run.{State, scene_of, setting, ended, execute, dividing as dividing_step}
use Rattle.dcc_ir.proofs.ExecuteLaws.{execute-append, execute_first, execute_over}
use Rattle.dcc_ops.specs.Temporaries.{left_place, right_place, result_place}
use Rattle.dcc_ops.specs.OperandPlace.{OperandPlace}
use Rattle.dcc_ops.specs.Registers.{register_place}
use Rattle.dcc_ops.specs.Expressions.{left, right, result, at_width, bit}
use Rattle.dcc_ops.specs.Statements.{accumulator, operands_taking, word_taking, flags_taking, carry_taking, division_storing, dividing}
use Rattle.dcc_ops.specs.Executed.{executed}
use Rattle.dcc_ops.specs.Coupling.{Relation, IsCoupling, IsRead}
use Rattle.dcc_ops.specs.Divisions.{IsDivided, divides, faults, DivisionsArePerformed}
use Rattle.dcc_ops.proofs.DivisionValues.{unsigned_is, signed_is, pattern_below}
use Rattle.dcc_ops.proofs.CouplingLaws.{Holding, result_is, left_is, sets_run, worked_on, sets_values, scratch_values, temporary_set, held_below, word_set, word_bytes, register_taken, both_took}
use Rattle.dcc_ops.proofs.ProductPerformed.{accumulator_width, accumulator_value, accumulator_read, accumulator_below}

-- The statements of divisions, by parts.

abbrev quotient_operator : Bool → BinOp
quotient_operator true = DivS
quotient_operator false = DivU

abbrev remainder_operator : Bool → BinOp
remainder_operator true = RemS
remainder_operator false = RemU

-- the quotient and the remainder go to temporaries
abbrev halves_dividing : Width → Bool → List Stmt
halves_dividing w signed =
    Div (result_place w) (at_width (quotient_operator signed) w (left w) (right w))
    ∷ Div (left_place w) (at_width (remainder_operator signed) w (left w) (right w)) ∷ []

-- no flag is set
abbrev flags_clearing : List Stmt
flags_clearing = flags_taking (bit 0) (bit 0) (bit 0) ++ carry_taking (bit 0)

left_kept : (w : Width) (values : Values) (v : ℕ)
    → with_value values (result_place w) v (left_place w) ≡ values (left_place w)
left_kept byte_width values v = refl
left_kept word_width values v = refl

right_kept : (w : Width) (values : Values) (v : ℕ)
    → with_value values (result_place w) v (right_place w) ≡ values (right_place w)
right_kept byte_width values v = refl
right_kept word_width values v = refl

both_held : (w : Width) (values : Values) (q r : ℕ)
    → (with_value (with_value values (result_place w) q) (left_place w) r (result_place w) ≡ q)
    × (with_value (with_value values (result_place w) q) (left_place w) r (left_place w) ≡ r)
both_held byte_width values q r = (refl, refl)
both_held word_width values q r = (refl, refl)

flags_apart : (w : Width) (u : State)
    → ((executed flags_clearing (scene_of u)).values (result_place w) ≡ u.running.values (result_place w))
    × ((executed flags_clearing (scene_of u)).values (left_place w) ≡ u.running.values (left_place w))
flags_apart byte_width u = (refl, refl)
flags_apart word_width u = (refl, refl)

module _ (R : Relation) (coupling : IsCoupling R) where
  going : (s : Machine) (t : State) → R s t → is_over t.end ≡ false
  going s t rel = ap is_over (coupling.running s t rel)

  -- the machine and the inner run both end by the divide fault
  faulted : (w : Width) (signed : Bool) (at : ℕ) (s : Machine) (u : State) (a b : ℕ) (rest : List Stmt)
      → Holding R w s u a b → division_at (quotient_operator signed) (bits_of w) a b ≡ None
      → IsDivided R at s (with_end Divide at s) (execute (halves_dividing w signed ++ rest) u)
  faulted w signed at s u a b rest hold none =
      let first = at_width (quotient_operator signed) w (left w) (right w) in
      let second = Div (left_place w) (at_width (remainder_operator signed) w (left w) (right w)) in
      let given : division_at (quotient_operator signed) (bits_of w) (u.running.values (left_place w))
      (u.running.values (right_place w)) ≡ None
      = ap₂ (division_at (quotient_operator signed) (bits_of w)) hold.left hold.right ∙ none in
      let run : execute (halves_dividing w signed ++ rest) u ≡ ended Divide u
      = execute_first (Div (result_place w) first) (second ∷ rest) u (going s u hold.stands)
      ∙ ap (λ o. execute (second ∷ rest) (dividing_step (result_place w) o u)) given
      ∙ execute_over (second ∷ rest) (ended Divide u) refl in
      subst (IsDivided R at s (with_end Divide at s)) (sym run) (faults hold.stands)

  -- the quotient and the remainder go to their registers
  halves_stored : (w : Width) (s : Machine) (u : State) (q r : ℕ) → u.running.values (result_place w) ≡ q
      → u.running.values (left_place w) ≡ r → R s u
      → R (with_pair w q r s) (execute (division_storing w) u)
  halves_stored byte_width s u q r first second rel =
      subst (R (with_pair byte_width q r s))
      (sym (sets_run (division_storing byte_width) u refl (coupling.running s u rel)))
      (word_set R coupling s u Ax (r * 256 + q) (u.running.values (Temp 2)) (u.running.values (Temp 0)) refl
      (held_below R coupling s u byte_width (Temp 2) refl rel)
      (held_below R coupling s u byte_width (Temp 0) refl rel) (ap₂ (λ h l. h * 256 + l) (sym second) (sym first)) rel)
  halves_stored word_width s u q r first second rel =
      let t1 = execute (word_taking Ax 0 (result word_width)) u in
      let one : R (with_word_in s Ax q) t1
      = register_taken R coupling s u Ax 0 5 q refl
      (sym first ∙ word_bytes (u.running.values (Temp 5)) (held_below R coupling s u word_width (Temp 5) refl rel))
      rel in
      let held : t1.running.values (Temp 3) ≡ r =
      ap (λ (f : Values). f (Temp 3)) (sets_values R coupling (word_taking Ax 0 (result word_width)) s u refl rel)
      ∙ second in
      subst (R (with_pair word_width q r s))
      (sym (execute-append (word_taking Ax 0 (result word_width)) (word_taking Dx 0 (left word_width)) u))
      (register_taken R coupling (with_word_in s Ax q) t1 Dx 0 3 r refl
      (sym held ∙ word_bytes (t1.running.values (Temp 3))
      (held_below R coupling (with_word_in s Ax q) t1 word_width (Temp 3) refl one)) one)

  divided : (w : Width) (signed : Bool) (s : Machine) (u : State) (a b q r : ℕ) → Holding R w s u a b
      → division_at (quotient_operator signed) (bits_of w) a b ≡ Some q
      → division_at (remainder_operator signed) (bits_of w) a b ≡ Some r → q < limit_of w → r < limit_of w
      → R (with_pair w q r (with_flags no_flags s))
      (execute (halves_dividing w signed ++ (flags_clearing ++ division_storing w)) u)
  divided w signed s u a b q r hold first second small less =
      let rest = flags_clearing ++ division_storing w in
      let one = at_width (quotient_operator signed) w (left w) (right w) in
      let two = at_width (remainder_operator signed) w (left w) (right w) in
      let values = u.running.values in
      let u1 = setting (result_place w) q u in
      let u2 = setting (left_place w) r u1 in
      let rel1 : R s u1 = temporary_set R coupling s u w (result_place w) q (result_is w) small hold.stands in
      let rel2 : R s u2 = temporary_set R coupling s u1 w (left_place w) r (left_is w) less rel1 in
      let quotient : division_at (quotient_operator signed) (bits_of w) (values (left_place w)) (values (right_place w))
      ≡ Some q
      = ap₂ (division_at (quotient_operator signed) (bits_of w)) hold.left hold.right ∙ first in
      let remainder : division_at (remainder_operator signed) (bits_of w) (u1.running.values (left_place w))
      (u1.running.values (right_place w)) ≡ Some r
      = ap₂ (division_at (remainder_operator signed) (bits_of w)) (left_kept w values q ∙ hold.left)
      (right_kept w values q ∙ hold.right) ∙ second in
      let run : execute (halves_dividing w signed ++ rest) u ≡ execute rest u2
      = execute_first (Div (result_place w) one) (Div (left_place w) two ∷ rest) u (going s u hold.stands)
      ∙ ap (λ o. execute (Div (left_place w) two ∷ rest) (dividing_step (result_place w) o u)) quotient
      ∙ execute_first (Div (left_place w) two) rest u1 (going s u1 rel1)
      ∙ ap (λ o. execute rest (dividing_step (left_place w) o u1)) remainder in
      let u3 = execute flags_clearing u2 in
      let rel3 : R (with_flags no_flags s) u3 =
      worked_on R coupling flags_clearing s u2 no_flags refl
      (record { carry = refl; zero = refl; negative = refl; overflow = refl }) rel2 in
      let same = scratch_values R coupling flags_clearing s u2 refl rel2 in
      let held = both_held w values q r in
      let apart = flags_apart w u2 in
      subst (R (with_pair w q r (with_flags no_flags s)))
      (sym (run ∙ execute-append flags_clearing (division_storing w) u2))
      (halves_stored w (with_flags no_flags s) u3 q r (ap (λ (f : Values). f (result_place w)) same ∙ apart.0 ∙ held.0)
      (ap (λ (f : Values). f (left_place w)) same ∙ apart.1 ∙ held.1) rel3)

  -- the lower half and the divisor
  taken : (s : Machine) (t : State) (x : Operand) (p : OperandPlace) → IsRead R s x p → R s t
      → Holding R (operand_width x) s
      (execute (operands_taking (operand_width x) (register_place (accumulator (operand_width x))) p) t)
      (accumulator_in (operand_width x) s) (operand_value s x)
  taken s t x p read rel =
      let w = operand_width x in
      subst (λ n. Holding R w s (execute (operands_taking w (register_place (accumulator w)) p) t) n
      (operand_value s x)) (accumulator_value w s)
      (both_took R coupling s t w (accumulator w) x (register_place (accumulator w)) p (accumulator_read R coupling w s)
      read (accumulator_width w) refl rel)

  -- after the operands, by the outcome on numbers
  outcome : (w : Width) (signed : Bool) (at : ℕ) (s : Machine) (u : State) (a b q r : ℕ) (fault : Bool)
      → Holding R w s u a b
      → division_at (quotient_operator signed) (bits_of w) a b ≡ (if fault then None else Some q)
      → division_at (remainder_operator signed) (bits_of w) a b ≡ (if fault then None else Some r)
      → q < limit_of w → r < limit_of w
      → IsDivided R at s (with_division w at (if fault then None else Some (q, r)) s)
      (execute (halves_dividing w signed ++ (flags_clearing ++ division_storing w)) u)
  outcome w signed at s u a b q r true hold first second small less =
      faulted w signed at s u a b (flags_clearing ++ division_storing w) hold first
  outcome w signed at s u a b q r false hold first second small less =
      divides (divided w signed s u a b q r hold first second small less)

  -- the whole
  performed : (x : Operand) (signed : Bool) (at : ℕ) (s : Machine) (t : State) (p : OperandPlace) (pair : Option (ℕ
      × ℕ))
      (q r : ℕ) (fault : Bool) → IsRead R s x p → R s t
      → pair ≡ (if fault then None else Some (q, r))
      → division_at (quotient_operator signed) (bits_of (operand_width x)) (accumulator_in (operand_width x) s)
      (operand_value s x) ≡ (if fault then None else Some q)
      → division_at (remainder_operator signed) (bits_of (operand_width x)) (accumulator_in (operand_width x) s)
      (operand_value s x) ≡ (if fault then None else Some r)
      → q < limit_of (operand_width x) → r < limit_of (operand_width x)
      → IsDivided R at s (with_division (operand_width x) at pair s)
      (execute (dividing (operand_width x) (quotient_operator signed) (remainder_operator signed) p) t)
  performed x signed at s t p pair q r fault read rel is first second small less =
      let w = operand_width x in
      let takes = operands_taking w (register_place (accumulator w)) p in
      let rest = halves_dividing w signed ++ (flags_clearing ++ division_storing w) in
      let a = accumulator_in w s in
      let b = operand_value s x in
      subst (λ o. IsDivided R at s (with_division w at o s)
      (execute (dividing w (quotient_operator signed) (remainder_operator signed) p) t)) (sym is)
      (subst (IsDivided R at s (with_division w at (if fault then None else Some (q, r)) s))
      (sym (execute-append takes rest t))
      (outcome w signed at s (execute takes t) a b q r fault (taken s t x p read rel) first second small less))

  -- a remainder is below the limit
  rest_below : (n a b : ℕ) → a < n → a % b < n
  rest_below n a b small = let h = mod-le a b in omega arith

  quotient_below : (n a b : ℕ) → a < n → a / b < n
  quotient_below n a b small = let h = div-le_self a b in omega arith

  pub divisions_performed : DivisionsArePerformed R
  divisions_performed = record {
    unsigned = λ cpu x number at s t p other read upper rel.
        let w = operand_width x in
        let a = accumulator_in w s in
        let b = operand_value s x in
        let small : a < limit_of w = accumulator_below R coupling w s t rel in
        performed x false at s t p (pair_of w (upper_in w s) a b) (a / b) (a % b) (b == 0) read rel
        (ap (λ n. pair_of w n a b) upper ∙ unsigned_is w a b small) refl refl
        (quotient_below (limit_of w) a b small) (rest_below (limit_of w) a b small);
    signed = λ cpu x number at s t p other read upper rel.
        let w = operand_width x in
        let a = accumulator_in w s in
        let b = operand_value s x in
        let small : a < limit_of w = accumulator_below R coupling w s t rel in
        let less : b < limit_of w = read.small s.flags t rel in
        let q = int_div (signed_at (bits_of w) a) (signed_at (bits_of w) b) in
        let r = int_rem (signed_at (bits_of w) a) (signed_at (bits_of w) b) in
        performed x true at s t p (signed_pair_of w (upper_in w s) a b) (pattern_at (bits_of w) q)
        (pattern_at (bits_of w) r) (faults_signed (bits_of w) a b) read rel
        (ap (λ n. signed_pair_of w n a b) upper ∙ signed_is w a b small less) refl refl (pattern_below w q)
        (pattern_below w r);
  }
