-- Trees without places: what a partial tree that was read to its end stands for. What is missing becomes something
-- small.
use Rattle.std.specs.Prelude.{ℕ, false, List, [], map, Option, Some, None, option_map}
use Rattle.dcc_c.specs.declared.syntax.Base.TheVariants.{Int}
use Rattle.dcc_c.specs.declared.syntax.CType.{CType}
use Rattle.dcc_c.specs.Tree.{Word, Expr, Number, Name, Unary, Binary, Conditional, Cast, Stmt, Assign, Call, If, While}
use Rattle.dcc_c.specs.Tree.{DoWhile, Forever, Switch, Break, Continue, Goto, Label, Empty, Return, Lines, no_lines}
use Rattle.dcc_c.specs.Tree.{line, Arms, no_arms, arm, Global, Variable, Function, Tree}
use Rattle.dcc_c.specs.Partial.{WordAt, NumberAt, PartialExpr, Missing, NumberHere, NameHere, UnaryHere, BinaryOf}
use Rattle.dcc_c.specs.Partial.{ConditionalOf, CastHere, PartialStmt, AssignOf, CallOf, IfOf, WhileOf, DoWhileOf}
use Rattle.dcc_c.specs.Partial.{ForeverOf, SwitchOf, BreakOf, ContinueOf, GotoOf, LabelOf, EmptyOf, ReturnOf}
use Rattle.dcc_c.specs.Partial.{PartialLines, no_rows, row, PartialArms, no_cases, cases, PartialVariable}
use Rattle.dcc_c.specs.Partial.{PartialFunction, PartialText}

-- an expression
abbrev pub plain_expr : PartialExpr → Expr
plain_expr Missing = Number 0 Int
plain_expr (NumberHere at n base) = Number n base
plain_expr (NameHere at word called) = Name word
plain_expr (UnaryHere at operator a) = Unary operator (plain_expr a)
plain_expr (BinaryOf operator a b) = Binary operator (plain_expr a) (plain_expr b)
plain_expr (ConditionalOf a b c) = Conditional (plain_expr a) (plain_expr b) (plain_expr c)
plain_expr (CastHere at type a) = Cast type (plain_expr a)

-- a value, a name, a number and a type that may be missing
abbrev pub plain_value : Option PartialExpr → Expr
plain_value (Some e) = plain_expr e
plain_value None = Number 0 Int

abbrev pub plain_name : Option WordAt → Word
plain_name (Some name) = name.word
plain_name None = []

abbrev pub plain_number : Option NumberAt → ℕ
plain_number (Some n) = n.value
plain_number None = 0

abbrev pub plain_type : Option CType → CType
plain_type (Some type) = type
plain_type None = record { base = Int; pointer = false }

-- numbers without their places
abbrev pub plain_numbers : List NumberAt → List ℕ
plain_numbers numbers = map (λ n. n.value) numbers

abbrev mutual
  -- a statement
  pub plain_stmt : PartialStmt → Stmt
  plain_stmt (AssignOf place value done) = Assign (plain_expr place) (plain_value value)
  plain_stmt (CallOf place call) =
      Call (option_map plain_expr place) call.function.word (map plain_expr call.arguments) call.depth
  plain_stmt (IfOf test done body otherwise) = If (plain_expr test) (plain_lines body) (plain_lines otherwise)
  plain_stmt (WhileOf test done body) = While (plain_expr test) (plain_lines body)
  plain_stmt (DoWhileOf body test done) = DoWhile (plain_lines body) (plain_expr test)
  plain_stmt (ForeverOf body) = Forever (plain_lines body)
  plain_stmt (SwitchOf test done arms) = Switch (plain_expr test) (case_arms arms) (default_arms arms)
  plain_stmt BreakOf = Break
  plain_stmt ContinueOf = Continue
  plain_stmt (GotoOf name) = Goto (plain_name name)
  plain_stmt (LabelOf name) = Label name.word
  plain_stmt EmptyOf = Empty
  plain_stmt (ReturnOf value done) = Return (option_map plain_expr value)

  -- statements in their order
  pub plain_lines : PartialLines → Lines
  plain_lines no_rows = no_lines
  plain_lines (row stmt at number rows) = line (plain_stmt stmt) number (plain_lines rows)

  -- the arms with cases
  pub case_arms : PartialArms → Arms
  case_arms no_cases = no_arms
  case_arms (cases numbers (Some place) body arms) = case_arms arms
  case_arms (cases numbers None body arms) = arm (plain_numbers numbers) (plain_lines body) (case_arms arms)

  -- the arms with `default`
  pub default_arms : PartialArms → Arms
  default_arms no_cases = no_arms
  default_arms (cases numbers (Some place) body arms) = arm [] (plain_lines body) (default_arms arms)
  default_arms (cases numbers None body arms) = default_arms arms

-- a parameter or a local variable
abbrev pub plain_variable : PartialVariable → Variable
plain_variable v = record {
  name = plain_name v.name;
  type = plain_type v.type;
  len = option_map (λ n. n.value) v.size;
  class = v.class;
}

-- a global variable
abbrev pub plain_global : PartialVariable → Global
plain_global v = record {
  name = plain_name v.name;
  at = v.address;
  type = plain_type v.type;
  len = option_map (λ n. n.value) v.size;
  init = plain_numbers v.init;
}

-- a function
abbrev pub plain_function : PartialFunction → Function
plain_function f = record {
  name = plain_name f.name;
  result = f.result;
  params = map plain_variable f.params;
  locals = map plain_variable f.locals;
  body = plain_lines f.body;
  last = f.last;
}

-- a whole text
abbrev pub plain_text : PartialText → Tree
plain_text text = record {
  version = 1;
  lo = plain_number text.lo;
  hi = plain_number text.hi;
  globals = map plain_global text.globals;
  functions = map plain_function text.functions;
}
