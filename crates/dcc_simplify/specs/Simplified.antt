-- Expressions that were simplified by the rules of a list.
use Rattle.std.specs.Prelude.{◌≡◌, ℕ, true, List}
use Rattle.dcc_ir.specs.Tree.{Expr}
use Rattle.dcc_rules.specs.Simpler.{IsReduced}
use Rattle.dcc_rules.specs.Forms.{is_normal_under}

-- The other expression may take the place of the given one under these widths of temporaries, and no part of it has the
-- form of one of the numbers.
pub record IsSimplified (ids bits : List ℕ) (given other : Expr) : Type 0 where
  pub reduced : IsReduced bits given other
  pub normal : is_normal_under ids bits other ≡ true
