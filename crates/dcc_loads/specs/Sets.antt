-- Loads as parts of assignments: where a statement loads, its location is assigned a load.
use Rattle.std.specs.Prelude.{map}
use Rattle.dcc_ir.specs.Tree.{Load, Stmt, Set, Fetch, Block, Graph}

-- the statement; where it loads, an assignment of a load
abbrev pub as_set : Stmt → Stmt
as_set (Fetch location width address) = Set location (Load width address)
as_set stmt = stmt

abbrev pub block_with_sets : Block → Block
block_with_sets block = record block { stmts = map as_set block.stmts }

-- the graph with an assignment of a load for each statement that loads
abbrev pub with_sets : Graph → Graph
with_sets graph = record graph { blocks = map block_with_sets graph.blocks }
