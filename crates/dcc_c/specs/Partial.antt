-- The syntax of a text as far as it has been read: trees in which parts may be missing, and which know where their
-- parts stand. A place is the number of pieces before it.
use Rattle.std.specs.Prelude.{ℕ, suc, max, Bool, true, false, List, Option}
use Rattle.dcc_c.specs.declared.syntax.Base.{Base}
use Rattle.dcc_c.specs.declared.syntax.CType.{CType}
use Rattle.dcc_c.specs.declared.syntax.CUn.{CUn}
use Rattle.dcc_c.specs.declared.syntax.CBin.{CBin}
use Rattle.dcc_c.specs.declared.syntax.Class.{Class}
use Rattle.dcc_c.specs.Tree.{Word}

-- a number or a name, and its place
pub record NumberAt : Type 0 where
  pub value : ℕ
  pub at : ℕ

pub record WordAt : Type 0 where
  pub word : Word
  pub at : ℕ

-- an expression
pub data PartialExpr : Type 0 where
  -- an expression that was not read
  Missing : PartialExpr
  NumberHere : ℕ → ℕ → Base → PartialExpr
  -- whether an opening parenthesis follows
  NameHere : ℕ → Word → Bool → PartialExpr
  UnaryHere : ℕ → CUn → PartialExpr → PartialExpr
  BinaryOf : CBin → PartialExpr → PartialExpr → PartialExpr
  ConditionalOf : PartialExpr → PartialExpr → PartialExpr → PartialExpr
  CastHere : ℕ → CType → PartialExpr → PartialExpr

-- where an expression begins, without parentheses around it
abbrev pub place_of : PartialExpr → ℕ
place_of Missing = 0
place_of (NumberHere at n base) = at
place_of (NameHere at word called) = at
place_of (UnaryHere at operator a) = at
place_of (BinaryOf operator a b) = place_of a
place_of (ConditionalOf a b c) = place_of a
place_of (CastHere at type a) = at

-- how deep an expression is; a name, a number and what is missing are 1 deep
abbrev pub depth_of : PartialExpr → ℕ
depth_of Missing = 1
depth_of (NumberHere at n base) = 1
depth_of (NameHere at word called) = 1
depth_of (UnaryHere at operator a) = suc (depth_of a)
depth_of (BinaryOf operator a b) = suc (max (depth_of a) (depth_of b))
depth_of (ConditionalOf a b c) = suc (max (depth_of a) (max (depth_of b) (depth_of c)))
depth_of (CastHere at type a) = suc (depth_of a)

abbrev pub is_missing : PartialExpr → Bool
is_missing Missing = true
is_missing e = false

abbrev pub is_name_here : PartialExpr → Bool
is_name_here (NameHere at word called) = true
is_name_here e = false

-- The arguments of a call, and whether its closing parenthesis was read.
pub record PartialCall : Type 0 where
  pub function : WordAt
  pub arguments : List PartialExpr
  pub closed : Bool
  -- the depth of the call
  pub depth : ℕ

mutual
  -- A statement. `done` says that it was read to its end; of one with a test, that the parenthesis after the test was.
  pub data PartialStmt : Type 0 where
    -- a place, and the value where the `=` was read
    AssignOf : PartialExpr → Option PartialExpr → Bool → PartialStmt
    -- the place of the result, where there is one
    CallOf : Option PartialExpr → PartialCall → PartialStmt
    IfOf : PartialExpr → Bool → PartialLines → PartialLines → PartialStmt
    WhileOf : PartialExpr → Bool → PartialLines → PartialStmt
    DoWhileOf : PartialLines → PartialExpr → Bool → PartialStmt
    ForeverOf : PartialLines → PartialStmt
    SwitchOf : PartialExpr → Bool → PartialArms → PartialStmt
    BreakOf : PartialStmt
    ContinueOf : PartialStmt
    GotoOf : Option WordAt → PartialStmt
    LabelOf : WordAt → PartialStmt
    EmptyOf : PartialStmt
    ReturnOf : Option PartialExpr → Bool → PartialStmt

  -- statements in their order, each with its place and its line
  pub data PartialLines : Type 0 where
    no_rows : PartialLines
    row : PartialStmt → ℕ → ℕ → PartialLines → PartialLines

  -- arms: the cases, the place of `default` where the arm has that, and the body
  pub data PartialArms : Type 0 where
    no_cases : PartialArms
    cases : List NumberAt → Option ℕ → PartialLines → PartialArms → PartialArms

-- A variable, with the size of an array and initial values; `done` says that its declaration was read to its end.
pub record PartialVariable : Type 0 where
  pub name : Option WordAt
  pub type : Option CType
  pub class : Class
  pub size : Option NumberAt
  pub init : List NumberAt
  -- the address of a global variable
  pub address : ℕ
  pub done : Bool

-- A function. `opened` is the place after the opening parenthesis of its head, where that was read, and
-- `without_params` says that `void` stands there; `headed` says that the head was read to its closing parenthesis.
pub record PartialFunction : Type 0 where
  pub at : ℕ
  -- whether the function's result is a type, and which
  pub has_result : Bool
  pub result : Option CType
  pub name : Option WordAt
  pub opened : Option ℕ
  pub without_params : Bool
  pub params : List PartialVariable
  pub headed : Bool
  pub locals : List PartialVariable
  pub body : PartialLines
  -- the line of the closing brace
  pub last : ℕ

-- A text: the numbers of the stack line, global variables and functions.
pub record PartialText : Type 0 where
  pub lo : Option NumberAt
  pub hi : Option NumberAt
  pub globals : List PartialVariable
  pub functions : List PartialFunction
