-- The trees that the declared types stand for.
use Rattle.std.specs.Prelude.{List, [], ◌∷◌, Option, Some, None, map, string_bytes}
use Rattle.std.specs.Option.{option_map}
use Rattle.dcc_c.specs.declared.syntax.CExpr.{CExpr, Num, Name as NameOf, Un', Bin', Cond', Cast'}
use Rattle.dcc_c.specs.declared.syntax.CStmt.{CStmt, Assign as AssignOf, Call as CallOf, If', While', DoWhile'}
use Rattle.dcc_c.specs.declared.syntax.CStmt.{Forever', Switch', Break as BreakOf, Continue as ContinueOf}
use Rattle.dcc_c.specs.declared.syntax.CStmt.{Goto as GotoOf, Label as LabelOf, Empty as EmptyOf, Return as ReturnOf}
use Rattle.dcc_c.specs.declared.syntax.CStmt.{Row_of-Line, end_of-Line, more_of-Line, Row_of-Arm, end_of-Arm}
use Rattle.dcc_c.specs.declared.syntax.CStmt.{more_of-Arm, Held-CStmt-Switch-2, None', Some'}
use Rattle.dcc_c.specs.declared.syntax.Line.{Line}
use Rattle.dcc_c.specs.declared.syntax.Arm.{Arm, Arm'}
use Rattle.dcc_c.specs.declared.syntax.Global_.{Global_}
use Rattle.dcc_c.specs.declared.syntax.Var.{Var}
use Rattle.dcc_c.specs.declared.syntax.Func.{Func}
use Rattle.dcc_c.specs.declared.syntax.Unit.{Unit as TextUnit}
use Rattle.dcc_c.specs.Tree.{Expr, Number, Name, Unary, Binary, Conditional, Cast, Stmt, Assign, Call, If, While}
use Rattle.dcc_c.specs.Tree.{DoWhile, Forever, Switch, Break, Continue, Goto, Label, Empty, Return, Lines, no_lines}
use Rattle.dcc_c.specs.Tree.{line, Arms, no_arms, arm, Global, Variable, Function, Tree}

-- the tree of an expression
abbrev pub expr_of : CExpr → Expr
expr_of (Num n base) = Number n base
expr_of (NameOf name) = Name (string_bytes name)
expr_of (Un' operator _ a) = Unary operator (expr_of a)
expr_of (Bin' operator _ a _ b) = Binary operator (expr_of a) (expr_of b)
expr_of (Cond' _ a _ b _ c) = Conditional (expr_of a) (expr_of b) (expr_of c)
expr_of (Cast' type _ a) = Cast type (expr_of a)

abbrev mutual
  -- the tree of a statement
  pub stmt_of : CStmt → Stmt
  stmt_of (AssignOf place e) = Assign (expr_of place) (expr_of e)
  stmt_of (CallOf place function arguments depth) =
      Call (option_map expr_of place) (string_bytes function) (map expr_of arguments.items) depth
  stmt_of (If' e _ then _ otherwise) = If (expr_of e) (lines_of_row then) (lines_of_row otherwise)
  stmt_of (While' e _ body) = While (expr_of e) (lines_of_row body)
  stmt_of (DoWhile' _ body e) = DoWhile (lines_of_row body) (expr_of e)
  stmt_of (Forever' _ body) = Forever (lines_of_row body)
  stmt_of (Switch' e _ arms last) = Switch (expr_of e) (arms_of_row arms) (arms_of_held last)
  stmt_of BreakOf = Break
  stmt_of ContinueOf = Continue
  stmt_of (GotoOf name) = Goto (string_bytes name)
  stmt_of (LabelOf name) = Label (string_bytes name)
  stmt_of EmptyOf = Empty
  stmt_of (ReturnOf e) = Return (option_map expr_of e)

  -- the tree of a block in a statement
  pub lines_of_row : {n : _} → Row_of-Line n → Lines
  lines_of_row end_of-Line = no_lines
  lines_of_row (more_of-Line stmt at rest) = line (stmt_of stmt) at (lines_of_row rest)

  -- an arm before others
  pub arm_before : Arm → Arms → Arms
  arm_before (Arm' cases _ body) arms = arm cases.items (lines_of_row body) arms

  -- the tree of the arms in a `switch`
  pub arms_of_row : {n : _} → Row_of-Arm n → Arms
  arms_of_row end_of-Arm = no_arms
  arms_of_row (more_of-Arm a rest) = arm_before a (arms_of_row rest)

  -- the tree of the default arm in a `switch`
  pub arms_of_held : Held-CStmt-Switch-2 → Arms
  arms_of_held None' = no_arms
  arms_of_held (Some' a) = arm_before a no_arms

-- the tree of a list of lines
abbrev pub lines_of : List Line → Lines
lines_of [] = no_lines
lines_of (l ∷ ls) = line (stmt_of l.stmt) l.line (lines_of ls)

-- the tree of a list of arms
abbrev pub arms_of : List Arm → Arms
arms_of [] = no_arms
arms_of (a ∷ rest) = arm_before a (arms_of rest)

-- the tree of a list of at most one arm
abbrev pub arms_if : Option Arm → Arms
arms_if None = no_arms
arms_if (Some a) = arm_before a no_arms

-- the tree of a global variable
abbrev pub global_of : Global_ → Global
global_of g = record { name = string_bytes g.name; at = g.at; type = g.ty; len = g.len; init = g.init.items }

-- the tree of a local variable or a parameter
abbrev pub variable_of : Var → Variable
variable_of v = record { name = string_bytes v.name; type = v.ty; len = v.len; class = v.class }

-- the tree of a function
abbrev pub function_of : Func → Function
function_of f = record {
  name = string_bytes f.name;
  result = f.result;
  params = map variable_of f.params.items;
  locals = map variable_of f.locals.items;
  body = lines_of f.body.items;
  last = f.last;
}

-- the tree of a text
abbrev pub tree_of : TextUnit → Tree
tree_of unit = record {
  version = unit.version;
  lo = unit.lo;
  hi = unit.hi;
  globals = map global_of unit.globals.items;
  functions = map function_of unit.funcs.items;
}
