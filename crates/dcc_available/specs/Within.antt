-- Expressions in which others stand in the place of reads, as far as they get no deeper than a bound.
use Rattle.std.specs.Prelude.{ℕ, ◌≤◌, max, List}
use Rattle.std.specs.List.{AllZip}
use Rattle.dcc_ir.specs.declared.syntax.Loc.{Loc}
use Rattle.dcc_ir.specs.Tree.{Expr, Div}
use Rattle.dcc_ir.specs.Measure.{depth_of, deepest}
use Rattle.dcc_substitution.specs.Substitute.{IsSubstitute}
use Rattle.dcc_substitution.specs.Substituted.{IsSubstituteStmt}
use Rattle.dcc_available.specs.Known.{Known, IsTold}

-- the second expressions are at most 32 deep, or no deeper than the deepest of the first
abbrev pub StayShallow : List Expr → List Expr → Type 0
StayShallow before after = deepest after ≤ max 32 (deepest before)

module _ (known : Known) where
  -- the second expression is a substitute of the first one, at most so deep or no deeper than it
  pub record IsSubstituteWithin (depth : ℕ) (e r : Expr) : Type 0 where
    pub substitute : IsSubstitute (IsTold known) e r
    pub shallow : depth_of r ≤ max depth (depth_of e)

  pub record AreSubstitutesWithin (es rs : List Expr) : Type 0 where
    pub substitutes : AllZip (IsSubstitute (IsTold known)) es rs
    pub shallow : StayShallow es rs

  -- the second division is the first one with substitutes for its operands
  pub record IsDividedAlike (e r : Expr) : Type 0 where
    pub division : (location : Loc) → IsSubstituteStmt (IsTold known) (Div location e) (Div location r)
    pub shallow : depth_of r ≤ max 32 (depth_of e)
