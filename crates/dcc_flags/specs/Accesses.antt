-- What the addresses read by which a graph loads, fetches and stores.
use Rattle.std.specs.Prelude.{Bool, true, false, ◌&&◌, List, [], ◌∷◌}
use Rattle.std.specs.List.{list_all}
use Rattle.dcc_ir.specs.declared.syntax.Loc.{Loc}
use Rattle.dcc_ir.specs.declared.syntax.Loc.TheVariants.{Half, Cell}
use Rattle.dcc_ir.specs.Tree.{Expr, Const, Get, Load, Unary, Binary, Widen, Part, Join, Choose, Address}
use Rattle.dcc_ir.specs.Tree.{Stmt, Fetch, Store, Block}
use Rattle.dcc_ir.specs.Use.{exprs_of, exit_exprs}

-- the location is a half of a register or of a cell
abbrev pub is_half_place : Loc → Bool
is_half_place (Half r half) = true
is_half_place (Cell number half) = true
is_half_place location = false

-- the expression reads halves of registers and of cells alone: no flag and no temporary
abbrev pub reads_halves : Expr → Bool
reads_halves (Const width n) = true
reads_halves (Get location) = is_half_place location
reads_halves (Load width address) = reads_halves address
reads_halves (Unary operator width a) = reads_halves a
reads_halves (Binary operator width a b) = reads_halves a && reads_halves b
reads_halves (Widen signed width a) = reads_halves a
reads_halves (Part width first a) = reads_halves a
reads_halves (Join high low) = reads_halves high && reads_halves low
reads_halves (Choose test a b) = reads_halves test && (reads_halves a && reads_halves b)
reads_halves (Address distance) = true

-- each address from which the expression loads reads halves of registers and of cells alone
abbrev pub loads_by_halves : Expr → Bool
loads_by_halves (Const width n) = true
loads_by_halves (Get location) = true
loads_by_halves (Load width address) = reads_halves address
loads_by_halves (Unary operator width a) = loads_by_halves a
loads_by_halves (Binary operator width a b) = loads_by_halves a && loads_by_halves b
loads_by_halves (Widen signed width a) = loads_by_halves a
loads_by_halves (Part width first a) = loads_by_halves a
loads_by_halves (Join high low) = loads_by_halves high && loads_by_halves low
loads_by_halves (Choose test a b) = loads_by_halves test && (loads_by_halves a && loads_by_halves b)
loads_by_halves (Address distance) = true

-- the expressions of a statement, where a fetch and the place of a store are loads
abbrev pub accessed : Stmt → List Expr
accessed (Fetch location width address) = Load width address ∷ []
accessed (Store width address e) = Load width address ∷ e ∷ []
accessed stmt = exprs_of stmt

-- each address by which the statement loads, fetches or stores reads halves of registers and of cells alone
abbrev pub accesses_by_halves : Stmt → Bool
accesses_by_halves stmt = list_all loads_by_halves (accessed stmt)

-- each address by which a statement or the end of the block has an access reads halves alone
abbrev pub block_by_halves : Block → Bool
block_by_halves b = list_all accesses_by_halves b.stmts && list_all loads_by_halves (exit_exprs b.exit)
