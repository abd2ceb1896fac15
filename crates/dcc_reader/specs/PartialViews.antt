-- The partial trees that the declared types stand for.
use Rattle.std.specs.Prelude.{List, [], ◌∷◌, map}
use Rattle.std.specs.Option.{option_map}
use Rattle.dcc_c.specs.Partial as partial
use Rattle.dcc_reader.specs.declared.partial.NumberAt.{NumberAt}
use Rattle.dcc_reader.specs.declared.partial.CaseAt.{CaseAt}
use Rattle.dcc_reader.specs.declared.partial.WordAt.{WordAt}
use Rattle.dcc_reader.specs.declared.partial.PartialExpr.{PartialExpr, Missing, Number, Name, Unary', Binary'}
use Rattle.dcc_reader.specs.declared.partial.PartialExpr.{Conditional', Cast'}
use Rattle.dcc_reader.specs.declared.partial.PartialCall.{PartialCall}
use Rattle.dcc_reader.specs.declared.partial.PartialStmt.{PartialStmt, Assign, Call, If', While', DoWhile', Forever'}
use Rattle.dcc_reader.specs.declared.partial.PartialStmt.{Switch', Break, Continue, Goto, Label, Empty, Return}
use Rattle.dcc_reader.specs.declared.partial.PartialStmt.{Row_of-Row, end_of-Row, more_of-Row, Row_of-PartialArm}
use Rattle.dcc_reader.specs.declared.partial.PartialStmt.{end_of-PartialArm, more_of-PartialArm}
use Rattle.dcc_reader.specs.declared.partial.Row.{Row}
use Rattle.dcc_reader.specs.declared.partial.PartialArm.{PartialArm, PartialArm'}
use Rattle.dcc_reader.specs.declared.partial.PartialVariable.{PartialVariable}
use Rattle.dcc_reader.specs.declared.partial.PartialFunction.{PartialFunction}
use Rattle.dcc_reader.specs.declared.partial.PartialText.{PartialText}

abbrev pub number_of : NumberAt → partial.NumberAt
number_of n = record { value = n.value; at = n.at }

abbrev pub case_of : CaseAt → partial.NumberAt
case_of n = record { value = n.value; at = n.at }

abbrev pub word_of : WordAt → partial.WordAt
word_of w = record { word = w.word.now; at = w.at }

-- the partial tree of an expression
abbrev pub expr_of : PartialExpr → partial.PartialExpr
expr_of Missing = partial.Missing
expr_of (Number at n base) = partial.NumberHere at n base
expr_of (Name called at word) = partial.NameHere at word.now called
expr_of (Unary' at operator _ a) = partial.UnaryHere at operator (expr_of a)
expr_of (Binary' operator _ a _ b) = partial.BinaryOf operator (expr_of a) (expr_of b)
expr_of (Conditional' _ a b c) = partial.ConditionalOf (expr_of a) (expr_of b) (expr_of c)
expr_of (Cast' at type _ a) = partial.CastHere at type (expr_of a)

abbrev pub call_of : PartialCall → partial.PartialCall
call_of call = record {
  function = word_of call.function;
  arguments = map expr_of call.arguments.items;
  closed = call.closed;
  depth = call.depth;
}

abbrev mutual
  -- the partial tree of a statement
  pub stmt_of : PartialStmt → partial.PartialStmt
  stmt_of (Assign place e done) = partial.AssignOf (expr_of place) (option_map expr_of e) done
  stmt_of (Call place call) = partial.CallOf (option_map expr_of place) (call_of call)
  stmt_of (If' e done _ body _ otherwise) = partial.IfOf (expr_of e) done (lines_of_row body) (lines_of_row otherwise)
  stmt_of (While' e done _ body) = partial.WhileOf (expr_of e) done (lines_of_row body)
  stmt_of (DoWhile' _ body e done) = partial.DoWhileOf (lines_of_row body) (expr_of e) done
  stmt_of (Forever' _ body) = partial.ForeverOf (lines_of_row body)
  stmt_of (Switch' e done _ arms) = partial.SwitchOf (expr_of e) done (arms_of_row arms)
  stmt_of Break = partial.BreakOf
  stmt_of Continue = partial.ContinueOf
  stmt_of (Goto name) = partial.GotoOf (option_map word_of name)
  stmt_of (Label name) = partial.LabelOf (word_of name)
  stmt_of Empty = partial.EmptyOf
  stmt_of (Return e done) = partial.ReturnOf (option_map expr_of e) done

  -- the partial tree of a block in a statement
  pub lines_of_row : {n : _} → Row_of-Row n → partial.PartialLines
  lines_of_row end_of-Row = partial.no_rows
  lines_of_row (more_of-Row stmt at line rest) = partial.row (stmt_of stmt) at line (lines_of_row rest)

  -- an arm before others
  pub arm_before : PartialArm → partial.PartialArms → partial.PartialArms
  arm_before (PartialArm' numbers default _ body) arms =
      partial.cases (map case_of numbers.items) default (lines_of_row body) arms

  -- the partial tree of the arms in a `switch`
  pub arms_of_row : {n : _} → Row_of-PartialArm n → partial.PartialArms
  arms_of_row end_of-PartialArm = partial.no_cases
  arms_of_row (more_of-PartialArm a rest) = arm_before a (arms_of_row rest)

-- the partial tree of a list of statements
abbrev pub lines_of : List Row → partial.PartialLines
lines_of [] = partial.no_rows
lines_of (r ∷ rs) = partial.row (stmt_of r.stmt) r.at r.line (lines_of rs)

-- the partial tree of a list of arms
abbrev pub arms_of : List PartialArm → partial.PartialArms
arms_of [] = partial.no_cases
arms_of (a ∷ rest) = arm_before a (arms_of rest)

abbrev pub variable_of : PartialVariable → partial.PartialVariable
variable_of v = record {
  name = option_map word_of v.name;
  type = v.ty;
  class = v.class;
  size = option_map number_of v.size;
  init = map number_of v.init.items;
  address = v.address;
  done = v.done;
}

abbrev pub function_of : PartialFunction → partial.PartialFunction
function_of f = record {
  at = f.at;
  has_result = f.has_result;
  result = f.result;
  name = option_map word_of f.name;
  opened = f.opened;
  without_params = f.without_params;
  params = map variable_of f.params.items;
  headed = f.headed;
  locals = map variable_of f.locals.items;
  body = lines_of f.body.items;
  last = f.last;
}

abbrev pub text_of : PartialText → partial.PartialText
text_of t = record {
  lo = option_map number_of t.lo;
  hi = option_map number_of t.hi;
  globals = map variable_of t.globals.items;
  functions = map function_of t.functions.items;
}
