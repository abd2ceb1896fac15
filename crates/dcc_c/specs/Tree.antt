-- The syntax of a text, as trees over numbers, names and lists.
use Rattle.std.specs.Prelude.{ℕ, List, Option}
use Rattle.dcc_c.specs.declared.syntax.Base.{Base}
use Rattle.dcc_c.specs.declared.syntax.CType.{CType}
use Rattle.dcc_c.specs.declared.syntax.CUn.{CUn}
use Rattle.dcc_c.specs.declared.syntax.CBin.{CBin}
use Rattle.dcc_c.specs.declared.syntax.Class.{Class}

-- a name, by its bytes
abbrev pub Word : Type 0
Word = List ℕ

-- an expression
pub data Expr : Type 0 where
  -- a number with its type
  Number : ℕ → Base → Expr
  Name : Word → Expr
  Unary : CUn → Expr → Expr
  Binary : CBin → Expr → Expr → Expr
  Conditional : Expr → Expr → Expr → Expr
  Cast : CType → Expr → Expr

mutual
  -- a statement; blocks are lists of lines
  pub data Stmt : Type 0 where
    -- a place and the value that it takes
    Assign : Expr → Expr → Stmt
    -- the place of the result, the function, its arguments, and the depth in force
    Call : Option Expr → Word → List Expr → ℕ → Stmt
    If : Expr → Lines → Lines → Stmt
    While : Expr → Lines → Stmt
    DoWhile : Lines → Expr → Stmt
    Forever : Lines → Stmt
    -- the value, the arms with cases, and the default arm
    Switch : Expr → Arms → Arms → Stmt
    Break : Stmt
    Continue : Stmt
    Goto : Word → Stmt
    Label : Word → Stmt
    Empty : Stmt
    Return : Option Expr → Stmt

  -- statements in their order, each with the line where it begins
  pub data Lines : Type 0 where
    no_lines : Lines
    line : Stmt → ℕ → Lines → Lines

  -- the arms of a `switch` in their order, each with its cases and its body
  pub data Arms : Type 0 where
    no_arms : Arms
    arm : List ℕ → Lines → Arms → Arms

-- a global variable: its name, address, type, number of elements where it is an array, and initial values
pub record Global : Type 0 where
  pub name : Word
  pub at : ℕ
  pub type : CType
  pub len : Option ℕ
  pub init : List ℕ

-- a local variable or a parameter
pub record Variable : Type 0 where
  pub name : Word
  pub type : CType
  pub len : Option ℕ
  pub class : Class

-- a function, with the line of its closing brace
pub record Function : Type 0 where
  pub name : Word
  pub result : Option CType
  pub params : List Variable
  pub locals : List Variable
  pub body : Lines
  pub last : ℕ

-- a whole text
pub record Tree : Type 0 where
  pub version : ℕ
  pub lo : ℕ
  pub hi : ℕ
  pub globals : List Global
  pub functions : List Function
