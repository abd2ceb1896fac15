-- Graphs that are the same but for their expressions: what holds between each expression of the one and the expression
-- of the other that stands in its place. A division stays one, and what is told holds between its operands.
use Rattle.std.specs.Prelude.{◌≡◌, ℕ, Bool, true, false, List, Option, Some, None}
use Rattle.std.specs.List.{AllZip}
use Rattle.dcc_ir.specs.declared.syntax.Loc.{Loc}
use Rattle.dcc_ir.specs.declared.syntax.BinOp.{BinOp}
use Rattle.dcc_ir.specs.Tree.{Expr, Binary, Stmt, Set, Fetch, Store, Div, Call, Dos, Exit, Goto, If, Switch, Ret, Stop}
use Rattle.dcc_ir.specs.Tree.{Block, Graph}

-- an operator on two operands, as each division of a well-formed graph is
abbrev pub is_operation : Expr → Bool
is_operation (Binary operator width a b) = true
is_operation _ = false

module _ (As : Expr → Expr → Type 0) where
  pub data IsDivisionAs : Expr → Expr → Type 0 where
    divides :
        {operator : BinOp} {width : ℕ} {a b a' b' : Expr} → As a a' → As b b'
        → IsDivisionAs (Binary operator width a b) (Binary operator width a' b')
    stays : {e : Expr} → is_operation e ≡ false → IsDivisionAs e e

  -- what is told holds where there are expressions
  pub data IsArgumentAs : Option Expr → Option Expr → Type 0 where
    none : IsArgumentAs None None
    some : {e e' : Expr} → As e e' → IsArgumentAs (Some e) (Some e')

  pub data IsStmtAs : Stmt → Stmt → Type 0 where
    sets : {location : Loc} {e e' : Expr} → As e e' → IsStmtAs (Set location e) (Set location e')
    fetches :
        {location : Loc} {width : ℕ} {address address' : Expr} → As address address'
        → IsStmtAs (Fetch location width address) (Fetch location width address')
    stores :
        {width : ℕ} {address address' e e' : Expr} → As address address' → As e e'
        → IsStmtAs (Store width address e) (Store width address' e')
    divides_into :
        {location : Loc} {e e' : Expr} → IsDivisionAs e e' → IsStmtAs (Div location e) (Div location e')
    calls :
        {results : List Loc} {entry depth : ℕ} {arguments arguments' : List Expr} → AllZip As arguments arguments'
        → IsStmtAs (Call results entry arguments depth) (Call results entry arguments' depth)
    asks_dos :
        {number : ℕ} {place : Option Loc} {argument argument' : Option Expr} → IsArgumentAs argument argument'
        → IsStmtAs (Dos number place argument) (Dos number place argument')

  pub data IsExitAs : Exit → Exit → Type 0 where
    goes : {place : ℕ} → IsExitAs (Goto place) (Goto place)
    tests : {test test' : Expr} {one other : ℕ} → As test test' → IsExitAs (If test one other) (If test' one other)
    switches : {e e' : Expr} {places : List ℕ} → As e e' → IsExitAs (Switch e places) (Switch e' places)
    returns : {values values' : List Expr} → AllZip As values values' → IsExitAs (Ret values) (Ret values')
    stops : IsExitAs Stop Stop

  pub record IsBlockAs (before after : Block) : Type 0 where
    pub at : after.at ≡ before.at
    pub stmts : AllZip IsStmtAs before.stmts after.stmts
    pub exit : IsExitAs before.exit after.exit

  -- The graph has the other's frame, params and temporaries; block by block and statement by statement it does the same
  -- at the same locations, with other expressions.
  pub record IsGraphAs (before after : Graph) : Type 0 where
    pub entry : after.entry ≡ before.entry
    pub params : after.params ≡ before.params
    pub local : after.local ≡ before.local
    pub pushed : after.pushed ≡ before.pushed
    pub bits : after.bits ≡ before.bits
    pub blocks : AllZip IsBlockAs before.blocks after.blocks
