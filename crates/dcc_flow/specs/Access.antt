-- What statements and blocks read and write, without what they do with it.
use Rattle.std.specs.Prelude.{Bool, List, map, flat_map}
use Rattle.dcc_ir.specs.declared.syntax.Loc.{Loc}
use Rattle.dcc_ir.specs.Tree.{Stmt, Block, Graph}
use Rattle.dcc_ir.specs.Use.{reads_of, exprs_of, writes_of, exit_exprs}
use Rattle.dcc_ir.specs.Demand.{is_assignment}
use Rattle.dcc_flow.specs.declared.access.Access.{Access as AccessOf}
use Rattle.dcc_flow.specs.declared.access.BlockAccess.{BlockAccess as BlockAccessOf}

-- of a statement: what it reads and writes, and whether it is an assignment
pub record Access : Type 0 where
  pub reads : List Loc
  pub writes : List Loc
  pub assigns : Bool

-- of a block: its statements, and what its end reads
pub record BlockAccess : Type 0 where
  pub stmts : List Access
  pub last : List Loc

abbrev pub access_of : Stmt → Access
access_of stmt =
    record { reads = flat_map reads_of (exprs_of stmt); writes = writes_of stmt; assigns = is_assignment stmt }

abbrev pub block_access_of : Block → BlockAccess
block_access_of b =
    record { stmts = map access_of b.stmts; last = flat_map reads_of (exit_exprs b.exit) }

abbrev pub accesses_of : Graph → List BlockAccess
accesses_of g = map block_access_of g.blocks

-- what the declared values stand for
abbrev pub access_in : AccessOf → Access
access_in a = record { reads = a.reads.items; writes = a.writes.items; assigns = a.assigns }

abbrev pub block_access_in : BlockAccessOf → BlockAccess
block_access_in b = record { stmts = map access_in b.stmts.items; last = b.last.items }
