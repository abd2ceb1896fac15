-- Graphs in which the expressions of available assignments stand in the place of reads.
use Rattle.std.specs.Prelude.{◌≡◌, ℕ, List, [], ◌∷◌, length, slice_get, Option, Some}
use Rattle.std.specs.List.{AllZip}
use Rattle.dcc_ir.specs.declared.syntax.Loc.{Loc}
use Rattle.dcc_ir.specs.declared.syntax.BinOp.{BinOp}
use Rattle.dcc_ir.specs.Tree.{Expr, Get, Binary, Stmt, Set, Fetch, Store, Div, Call, Dos, Exit, Goto, If, Switch, Ret}
use Rattle.dcc_ir.specs.Tree.{Stop, Block, Graph}
use Rattle.dcc_substitution.specs.Substitute.{IsSubstitute}
use Rattle.dcc_substitution.specs.Available.{Availability}

-- the second statement is the first one with substitutes for its expressions; of a Div, for both operands
pub data IsSubstituteStmt (Is : Loc → Expr → Type 0) : Stmt → Stmt → Type 0 where
  set : {location : Loc} {e e' : Expr} → IsSubstitute Is e e' → IsSubstituteStmt Is (Set location e) (Set location e')
  fetch : {location : Loc} {width : ℕ} {a a' : Expr} → IsSubstitute Is a a'
      → IsSubstituteStmt Is (Fetch location width a) (Fetch location width a')
  store : {width : ℕ} {a a' e e' : Expr} → IsSubstitute Is a a' → IsSubstitute Is e e'
      → IsSubstituteStmt Is (Store width a e) (Store width a' e')
  div : {location : Loc} {operator : BinOp} {width : ℕ} {a a' b b' : Expr} → IsSubstitute Is a a'
      → IsSubstitute Is b b'
      → IsSubstituteStmt Is (Div location (Binary operator width a b)) (Div location (Binary operator width a' b'))
  call : {results : List Loc} {entry depth : ℕ} {arguments arguments' : List Expr}
      → AllZip (IsSubstitute Is) arguments arguments'
      → IsSubstituteStmt Is (Call results entry arguments depth) (Call results entry arguments' depth)
  dos : {number : ℕ} {place : Option Loc} {e e' : Expr} → IsSubstitute Is e e'
      → IsSubstituteStmt Is (Dos number place (Some e)) (Dos number place (Some e'))
  same : {stmt : Stmt} → IsSubstituteStmt Is stmt stmt

-- the second end of a block is the first one with substitutes for its expressions
pub data IsSubstituteExit (Is : Loc → Expr → Type 0) : Exit → Exit → Type 0 where
  goto : {place : ℕ} → IsSubstituteExit Is (Goto place) (Goto place)
  test : {e e' : Expr} {one other : ℕ} → IsSubstitute Is e e' → IsSubstituteExit Is (If e one other) (If e' one other)
  switch : {e e' : Expr} {places : List ℕ} → IsSubstitute Is e e'
      → IsSubstituteExit Is (Switch e places) (Switch e' places)
  ret : {values values' : List Expr} → AllZip (IsSubstitute Is) values values'
      → IsSubstituteExit Is (Ret values) (Ret values')
  stop : IsSubstituteExit Is Stop Stop

-- the second statements are the first ones with substitutes; a Set may go whose location holds the value already
pub data AreSubstitutes (available : List Stmt → Loc → Expr → Type 0) : List Stmt → List Stmt → Type 0 where
  done : AreSubstitutes available [] []
  both : {stmt stmt' : Stmt} {rest rest' : List Stmt} → IsSubstituteStmt (available (stmt ∷ rest)) stmt stmt'
      → AreSubstitutes available rest rest' → AreSubstitutes available (stmt ∷ rest) (stmt' ∷ rest')
  gone : {location : Loc} {e : Expr} {rest rest' : List Stmt}
      → IsSubstitute (available (Set location e ∷ rest)) e (Get location) → AreSubstitutes available rest rest'
      → AreSubstitutes available (Set location e ∷ rest) rest'

module _ (available : Availability) where
  pub record IsSubstitutedBlock (place : ℕ) (before after : Block) : Type 0 where
    pub at : after.at ≡ before.at
    pub stmts : AreSubstitutes (available place) before.stmts after.stmts
    pub exit : IsSubstituteExit (available place []) before.exit after.exit

  -- the second graph is the first one, with the expressions of available assignments in the place of some reads
  pub record IsSubstituted (before after : Graph) : Type 0 where
    pub frame : after ≡ record before { blocks = after.blocks }
    pub count : length after.blocks ≡ length before.blocks
    pub blocks : (place : ℕ) (block new : Block) → slice_get before.blocks place ≡ Some block
        → slice_get after.blocks place ≡ Some new → IsSubstitutedBlock place block new
