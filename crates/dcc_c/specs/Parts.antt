-- The statements and the expressions that a function's body holds, at every depth, in the order of the text.
use Rattle.std.specs.Prelude.{List, [], ◌∷◌, ◌++◌, Option, Some, None}
use Rattle.std.specs.List.{flat_map}
use Rattle.dcc_c.specs.Tree.{Word, Expr, Number, Name, Unary, Binary, Conditional, Cast, Stmt, Assign, Call, If, While}
use Rattle.dcc_c.specs.Tree.{DoWhile, Forever, Switch, Label, Return, Lines, no_lines, line, Arms, no_arms, arm}

abbrev mutual
  -- the statements of a block, each before those inside it
  pub stmts_in : Lines → List Stmt
  stmts_in no_lines = []
  stmts_in (line stmt at lines) = stmt ∷ (inner_stmts stmt ++ stmts_in lines)

  -- the statements inside a statement
  pub inner_stmts : Stmt → List Stmt
  inner_stmts (If e body otherwise) = stmts_in body ++ stmts_in otherwise
  inner_stmts (While e body) = stmts_in body
  inner_stmts (DoWhile body e) = stmts_in body
  inner_stmts (Forever body) = stmts_in body
  inner_stmts (Switch e arms last) = arm_stmts arms ++ arm_stmts last
  inner_stmts _ = []

  -- the statements inside the arms of a `switch`
  pub arm_stmts : Arms → List Stmt
  arm_stmts no_arms = []
  arm_stmts (arm cases body arms) = stmts_in body ++ arm_stmts arms

abbrev pub expr_if : Option Expr → List Expr
expr_if None = []
expr_if (Some e) = e ∷ []

-- the whole expressions of a statement, without those of the statements inside it
abbrev pub exprs_of : Stmt → List Expr
exprs_of (Assign place e) = place ∷ e ∷ []
exprs_of (Call place function arguments depth) = expr_if place ++ arguments
exprs_of (If e body otherwise) = e ∷ []
exprs_of (While e body) = e ∷ []
exprs_of (DoWhile body e) = e ∷ []
exprs_of (Switch e arms last) = e ∷ []
exprs_of (Return e) = expr_if e
exprs_of _ = []

-- an expression and all expressions inside it
abbrev pub parts_of : Expr → List Expr
parts_of (Number n base) = Number n base ∷ []
parts_of (Name word) = Name word ∷ []
parts_of (Unary operator a) = Unary operator a ∷ parts_of a
parts_of (Binary operator a b) = Binary operator a b ∷ (parts_of a ++ parts_of b)
parts_of (Conditional a b c) = Conditional a b c ∷ (parts_of a ++ (parts_of b ++ parts_of c))
parts_of (Cast type a) = Cast type a ∷ parts_of a

-- all expressions of a body, and those inside them
abbrev pub exprs_in : Lines → List Expr
exprs_in body = flat_map (λ stmt. flat_map parts_of (exprs_of stmt)) (stmts_in body)

abbrev pub label_of : Stmt → List Word
label_of (Label word) = word ∷ []
label_of _ = []

abbrev pub labels_in : Lines → List Word
labels_in body = flat_map label_of (stmts_in body)
