-- What the parts of a graph read and write.
use Rattle.std.specs.Prelude.{ℕ, List, [], ◌∷◌, ◌++◌, flat_map, option_to_list}
use Rattle.dcc_ir.specs.declared.syntax.Loc.{Loc}
use Rattle.dcc_ir.specs.Tree.{Expr, Const, Get, Load, Unary, Binary, Widen, Part, Join, Choose, Address, Stmt, Set}
use Rattle.dcc_ir.specs.Tree.{Fetch, Store, Div, Call, Dos, Exit, Goto, If, Switch, Ret, Stop, Block, Graph}

-- the expression and all expressions in it
abbrev pub parts_of : Expr → List Expr
parts_of (Const width n) = Const width n ∷ []
parts_of (Get location) = Get location ∷ []
parts_of (Load width address) = Load width address ∷ parts_of address
parts_of (Unary operator width a) = Unary operator width a ∷ parts_of a
parts_of (Binary operator width a b) = Binary operator width a b ∷ (parts_of a ++ parts_of b)
parts_of (Widen signed width a) = Widen signed width a ∷ parts_of a
parts_of (Part width first a) = Part width first a ∷ parts_of a
parts_of (Join high low) = Join high low ∷ (parts_of high ++ parts_of low)
parts_of (Choose test a b) = Choose test a b ∷ (parts_of test ++ parts_of a ++ parts_of b)
parts_of (Address distance) = Address distance ∷ []

-- the location of a Get
abbrev pub got_by : Expr → List Loc
got_by (Get location) = location ∷ []
got_by _ = []

-- the distance of an Address
abbrev pub addressed_by : Expr → List ℕ
addressed_by (Address distance) = distance ∷ []
addressed_by _ = []

-- the locations that an expression reads, each as often as the expression reads it
abbrev pub reads_of : Expr → List Loc
reads_of e = flat_map got_by (parts_of e)

-- the distances of the Addresses in an expression
abbrev pub addresses_of : Expr → List ℕ
addresses_of e = flat_map addressed_by (parts_of e)

-- the expressions of a statement
abbrev pub exprs_of : Stmt → List Expr
exprs_of (Set location e) = e ∷ []
exprs_of (Fetch location width address) = address ∷ []
exprs_of (Store width address e) = address ∷ e ∷ []
exprs_of (Div location e) = e ∷ []
exprs_of (Call results entry arguments depth) = arguments
exprs_of (Dos number place argument) = option_to_list argument

-- the locations that a statement writes
abbrev pub writes_of : Stmt → List Loc
writes_of (Set location e) = location ∷ []
writes_of (Fetch location width address) = location ∷ []
writes_of (Store width address e) = []
writes_of (Div location e) = location ∷ []
writes_of (Call results entry arguments depth) = results
writes_of (Dos number place argument) = option_to_list place

-- the expressions of a block's end
abbrev pub exit_exprs : Exit → List Expr
exit_exprs (Goto place) = []
exit_exprs (If test one other) = test ∷ []
exit_exprs (Switch e places) = e ∷ []
exit_exprs (Ret values) = values
exit_exprs Stop = []

-- the expressions of a block, and of a graph
abbrev pub block_exprs : Block → List Expr
block_exprs block = flat_map exprs_of block.stmts ++ exit_exprs block.exit

abbrev pub graph_exprs : Graph → List Expr
graph_exprs graph = flat_map block_exprs graph.blocks
