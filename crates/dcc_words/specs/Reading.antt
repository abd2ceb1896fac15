-- Trees in which expressions stand in the place of what is read.
use Rattle.std.specs.Prelude.{map, option_map}
use Rattle.dcc_ir.specs.declared.syntax.Loc.{Loc}
use Rattle.dcc_ir.specs.Tree.{Expr, Const, Get, Load, Unary, Binary, Widen, Part, Join, Choose, Address, Stmt, Set}
use Rattle.dcc_ir.specs.Tree.{Fetch, Store, Div, Call, Dos, Exit, Goto, If, Switch, Ret, Stop}

module _ (reading : Loc → Expr) where
  -- the expression with each read of a location replaced
  abbrev pub read_by : Expr → Expr
  read_by (Const width n) = Const width n
  read_by (Get location) = reading location
  read_by (Load width a) = Load width (read_by a)
  read_by (Unary operator width a) = Unary operator width (read_by a)
  read_by (Binary operator width a b) = Binary operator width (read_by a) (read_by b)
  read_by (Widen signed width a) = Widen signed width (read_by a)
  read_by (Part width first a) = Part width first (read_by a)
  read_by (Join high low) = Join (read_by high) (read_by low)
  read_by (Choose test a b) = Choose (read_by test) (read_by a) (read_by b)
  read_by (Address distance) = Address distance

  -- the statement with each read of a location replaced
  abbrev pub stmt_read_by : Stmt → Stmt
  stmt_read_by (Set location e) = Set location (read_by e)
  stmt_read_by (Fetch location width address) = Fetch location width (read_by address)
  stmt_read_by (Store width address e) = Store width (read_by address) (read_by e)
  stmt_read_by (Div location e) = Div location (read_by e)
  stmt_read_by (Call results entry arguments depth) = Call results entry (map read_by arguments) depth
  stmt_read_by (Dos number place argument) = Dos number place (option_map read_by argument)

  -- the end of a block with each read of a location replaced
  abbrev pub exit_read_by : Exit → Exit
  exit_read_by (Goto place) = Goto place
  exit_read_by (If test one other) = If (read_by test) one other
  exit_read_by (Switch e places) = Switch (read_by e) places
  exit_read_by (Ret values) = Ret (map read_by values)
  exit_read_by Stop = Stop
