-- Operations on one or two operands in one form: what they compute, and where it goes.
use Rattle.std.proofs.Common.{◌≡◌, ℕ, ◌-◌, Bool, true, false, Option, Some, None, refl}
use Rattle.dcc_run.specs.End.{Divide}
use Rattle.dcc_num.specs.declared.Width.{Width}
use Rattle.dcc_num.specs.declared.Flags.{Flags}
use Rattle.dcc_num.specs.Numbers.{limit_of, no_flags}
use Rattle.dcc_num.specs.Sum.{sum_of, difference_of, negation_of, increment_of, decrement_of}
use Rattle.dcc_num.specs.Logic.{conjunction_of, disjunction_of, exclusive_of}
use Rattle.dcc_num.specs.Product.{product_of, signed_product_of}
use Rattle.dcc_num.specs.Quotient.{division_of, signed_division_of}
use Rattle.dcc_machine.specs.declared.instr.Alu.{Alu as AluName}
use Rattle.dcc_machine.specs.declared.instr.Alu.TheVariants.{Add, Or, Adc, Sbb, And, Sub, Xor, Cmp, Test}
use Rattle.dcc_machine.specs.declared.instr.Unary.{Unary as UnaryName}
use Rattle.dcc_machine.specs.declared.instr.Unary.TheVariants.{Inc, Dec, Neg, Not, Mul, Imul, Div, Idiv}
use Rattle.dcc_machine.specs.declared.instr.Operand.{Operand}
use Rattle.dcc_machine.specs.Machine.{State}
use Rattle.dcc_machine.specs.Operations.{with_end, with_flags, with_result, alu_step, unary_step, accumulator_in, upper_in, with_product, with_division}
use Rattle.dcc_machine.specs.Writes.{writes_operand}

-- the result and the flags, by two values and the carry
abbrev pub alu_result : AluName → Width → ℕ → ℕ → Bool → ℕ × Flags
alu_result Add w a b carry = sum_of w a b false
alu_result Or w a b carry = disjunction_of w a b
alu_result Adc w a b carry = sum_of w a b carry
alu_result Sbb w a b carry = difference_of w a b carry
alu_result And w a b carry = conjunction_of w a b
alu_result Sub w a b carry = difference_of w a b false
alu_result Xor w a b carry = exclusive_of w a b
alu_result Cmp w a b carry = difference_of w a b false
alu_result Test w a b carry = conjunction_of w a b

-- an operand takes the result, or none does
abbrev pub alu_written : Bool → Operand → ℕ × Flags → State → State
alu_written true x result s = with_result x result s
alu_written false x result s = with_flags result.1 s

pub alu-form :
    (operation : AluName) (w : Width) (x : Operand) (a b : ℕ) (s : State)
    → alu_step operation w x a b s ≡ alu_written (writes_operand operation) x (alu_result operation w a b s.flags.cf) s
alu-form Add w x a b s = refl
alu-form Or w x a b s = refl
alu-form Adc w x a b s = refl
alu-form Sbb w x a b s = refl
alu-form And w x a b s = refl
alu-form Sub w x a b s = refl
alu-form Xor w x a b s = refl
alu-form Cmp w x a b s = refl
alu-form Test w x a b s = refl

-- what an operation on one operand comes to: a result for the operand, a pair for the accumulator, or a fault
pub data Outcome : Type 0 where
  in_operand : ℕ × Flags → Outcome
  in_pair : ℕ × ℕ × Flags → Outcome
  in_fault : Outcome

abbrev pub divided : Option (ℕ × ℕ) → Outcome
divided None = in_fault
divided (Some division) = in_pair (division.0, division.1, no_flags)

-- by the accumulator, the upper half beside it, the operand's value and the flags
abbrev pub unary_outcome : UnaryName → Width → ℕ → ℕ → ℕ → Flags → Outcome
unary_outcome Inc w low high a flags = in_operand (increment_of w a flags)
unary_outcome Dec w low high a flags = in_operand (decrement_of w a flags)
unary_outcome Neg w low high a flags = in_operand (negation_of w a)
unary_outcome Not w low high a flags = in_operand (limit_of w - 1 - a, flags)
unary_outcome Mul w low high a flags = in_pair (product_of w low a)
unary_outcome Imul w low high a flags = in_pair (signed_product_of w low a)
unary_outcome Div w low high a flags = divided (division_of w high low a)
unary_outcome Idiv w low high a flags = divided (signed_division_of w high low a)

abbrev pub outcome_step : Outcome → Width → Operand → ℕ → State → State
outcome_step (in_operand result) w x at s = with_result x result s
outcome_step (in_pair pair) w x at s = with_product w pair s
outcome_step in_fault w x at s = with_end Divide at s

division-form :
    (w : Width) (x : Operand) (at : ℕ) (division : Option (ℕ × ℕ)) (s : State)
    → with_division w at division s ≡ outcome_step (divided division) w x at s
division-form w x at None s = refl
division-form w x at (Some division) s = refl

pub unary-form :
    (operation : UnaryName) (w : Width) (x : Operand) (a at : ℕ) (s : State)
    → unary_step operation w x a at s
    ≡ outcome_step (unary_outcome operation w (accumulator_in w s) (upper_in w s) a s.flags) w x at s
unary-form Inc w x a at s = refl
unary-form Dec w x a at s = refl
unary-form Neg w x a at s = refl
unary-form Not w x a at s = refl
unary-form Mul w x a at s = refl
unary-form Imul w x a at s = refl
unary-form Div w x a at s = division-form w x at (division_of w (upper_in w s) (accumulator_in w s) a) s
unary-form Idiv w x a at s = division-form w x at (signed_division_of w (upper_in w s) (accumulator_in w s) a) s
