-- The syntax of a program of the inner language, as trees over numbers, locations and lists.
use Rattle.std.specs.Prelude.{ℕ, Bool, List, Option}
use Rattle.dcc_ir.specs.declared.syntax.Loc.{Loc}
use Rattle.dcc_ir.specs.declared.syntax.UnOp.{UnOp}
use Rattle.dcc_ir.specs.declared.syntax.BinOp.{BinOp}
use Rattle.dcc_ir.specs.declared.syntax.Param.{Param}

-- an expression; a width is a number of bits
pub data Expr : Type 0 where
  -- a constant: its width and its number
  Const : ℕ → ℕ → Expr
  Get : Loc → Expr
  -- a load: the number of bits, and the address
  Load : ℕ → Expr → Expr
  -- a unary operator, the width of its operand, and the operand; `Binary`: with two operands
  Unary : UnOp → ℕ → Expr → Expr
  Binary : BinOp → ℕ → Expr → Expr → Expr
  -- a wider number: whether by its sign, the new width, and the operand
  Widen : Bool → ℕ → Expr → Expr
  -- a part of the bits: the new width, the first bit, and the operand
  Part : ℕ → ℕ → Expr → Expr
  -- two halves joined: the upper and the lower one
  Join : Expr → Expr → Expr
  Choose : Expr → Expr → Expr → Expr
  -- an address in the frame: the distance from its base
  Address : ℕ → Expr

-- a statement
pub data Stmt : Type 0 where
  Set : Loc → Expr → Stmt
  -- a load into a location: the location, the number of bits, and the address
  Fetch : Loc → ℕ → Expr → Stmt
  -- a store: the number of bits, the address, and the value
  Store : ℕ → Expr → Expr → Stmt
  Div : Loc → Expr → Stmt
  -- a call: the places of the results, the entry of the callee, the arguments, and the depth
  Call : List Loc → ℕ → List Expr → ℕ → Stmt
  -- a DOS call: its number, the place of its byte, and its argument
  Dos : ℕ → Option Loc → Option Expr → Stmt

-- how a block ends; a block is named by its place in the graph
pub data Exit : Type 0 where
  Goto : ℕ → Exit
  If : Expr → ℕ → ℕ → Exit
  Switch : Expr → List ℕ → Exit
  Ret : List Expr → Exit
  Stop : Exit

-- a block, at its address
pub record Block : Type 0 where
  pub at : ℕ
  pub stmts : List Stmt
  pub exit : Exit

-- the graph of a procedure
pub record Graph : Type 0 where
  pub entry : ℕ
  pub params : List Param
  pub local : ℕ
  pub pushed : ℕ
  pub blocks : List Block
  -- the width of each temporary
  pub bits : List ℕ

-- a program
pub record Program : Type 0 where
  pub graphs : List Graph
  pub image : List ℕ
  pub lo : ℕ
  pub hi : ℕ

-- what passes between a procedure and its callers
pub record Summary : Type 0 where
  pub params : List Loc
  pub results : List Loc
  pub preserved : List Loc
