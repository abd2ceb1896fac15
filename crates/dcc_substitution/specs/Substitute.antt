-- Expressions in which others stand in the place of reads.
use Rattle.std.specs.Prelude.{ℕ, Bool}
use Rattle.dcc_ir.specs.declared.syntax.Loc.{Loc}
use Rattle.dcc_ir.specs.declared.syntax.UnOp.{UnOp}
use Rattle.dcc_ir.specs.declared.syntax.BinOp.{BinOp}
use Rattle.dcc_ir.specs.Tree.{Expr, Get, Load, Unary, Binary, Widen, Part, Join, Choose}

-- the second expression is the first one, in which some reads have become expressions of which the location is told to
-- hold the value
pub data IsSubstitute (Is : Loc → Expr → Type 0) : Expr → Expr → Type 0 where
  itself : {e : Expr} → IsSubstitute Is e e
  read : {location : Loc} {e : Expr} → Is location e → IsSubstitute Is (Get location) e
  load : {width : ℕ} {a a' : Expr} → IsSubstitute Is a a' → IsSubstitute Is (Load width a) (Load width a')
  unary : {operator : UnOp} {width : ℕ} {a a' : Expr} → IsSubstitute Is a a'
      → IsSubstitute Is (Unary operator width a) (Unary operator width a')
  binary : {operator : BinOp} {width : ℕ} {a a' b b' : Expr} → IsSubstitute Is a a' → IsSubstitute Is b b'
      → IsSubstitute Is (Binary operator width a b) (Binary operator width a' b')
  widen : {signed : Bool} {width : ℕ} {a a' : Expr} → IsSubstitute Is a a'
      → IsSubstitute Is (Widen signed width a) (Widen signed width a')
  part : {width first : ℕ} {a a' : Expr} → IsSubstitute Is a a'
      → IsSubstitute Is (Part width first a) (Part width first a')
  join : {high high' low low' : Expr} → IsSubstitute Is high high' → IsSubstitute Is low low'
      → IsSubstitute Is (Join high low) (Join high' low')
  choose : {test test' a a' b b' : Expr} → IsSubstitute Is test test' → IsSubstitute Is a a' → IsSubstitute Is b b'
      → IsSubstitute Is (Choose test a b) (Choose test' a' b')
