-- Sums of sums with constants.
use Rattle.std.specs.Prelude.{◌≡◌, ℕ, ◌^◌, ◌<◌, Bool, true, false, ◌||◌, ◌↔◌, Option, Some, None}
use Rattle.dcc_ir.specs.declared.syntax.BinOp.{BinOp}
use Rattle.dcc_ir.specs.declared.syntax.BinOp.TheVariants.{Add, Sub}
use Rattle.dcc_ir.specs.Tree.{Expr, Const, Binary}
use Rattle.dcc_ir.specs.Value.{binary_value}
use Rattle.dcc_ir.specs.WellFormed.{is_width}
use Rattle.dcc_ir.specs.Forms.{same_binary, is_sum_of_sum}
use Rattle.dcc_stdrules.specs.declared.moved.Sums.{Sums}
use Rattle.dcc_stdrules.specs.declared.moved.Sums.TheVariants.{Added, Subtracted, Mixed, Returned}
use Rattle.dcc_stdrules.specs.declared.moved.Moved.{Moved}

-- the outer and the inner operator
abbrev pub outer_of : Sums → BinOp
outer_of Added = Add
outer_of Subtracted = Sub
outer_of Mixed = Sub
outer_of Returned = Add

abbrev pub inner_of : Sums → BinOp
inner_of Added = Add
inner_of Subtracted = Sub
inner_of Mixed = Add
inner_of Returned = Sub

-- the operator adds or subtracts
abbrev pub adds_or_subtracts : BinOp → Bool
adds_or_subtracts f = same_binary f Add || same_binary f Sub

-- One operator and constant that do what the inner operator with c and then the outer one with d do, at a width.
pub record IsMoved (sums : Sums) (width c d : ℕ) (moved : Moved) : Type 0 where
  pub operator : adds_or_subtracts moved.operator ≡ true
  pub fits : is_width width ≡ true → c < 2 ^ width → d < 2 ^ width → moved.number < 2 ^ width
  pub value : is_width width ≡ true → c < 2 ^ width → d < 2 ^ width → (v : ℕ) → v < 2 ^ width →
      binary_value moved.operator width v moved.number
      ≡ binary_value (outer_of sums) width (binary_value (inner_of sums) width v c) d

-- the other expression is x with one operator and constant, where the given one is x with two
pub record IsSummed (sums : Sums) (given other : Expr) : Type 0 where
  pub width : ℕ
  pub operand : Expr
  pub c : ℕ
  pub d : ℕ
  pub moved : Moved
  pub is : given
      ≡ Binary (outer_of sums) width (Binary (inner_of sums) width operand (Const width c)) (Const width d)
  pub sum : IsMoved sums width c d moved
  pub made : other ≡ Binary moved.operator width operand (Const width moved.number)

-- What a rule on sums answers: none where the expression is no sum of a sum, and else the sum with one constant.
pub record AnswersSums (sums : Sums) (given : Expr) (answer : Option Expr) : Type 0 where
  pub form : (answer ≡ None) ↔ (is_sum_of_sum (outer_of sums) (inner_of sums) given ≡ false)
  pub summed : (other : Expr) → answer ≡ Some other → IsSummed sums given other
