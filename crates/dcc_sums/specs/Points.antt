-- The points of a graph: between the statements of its blocks, and at the ends of these.
use Rattle.std.specs.Prelude.{ℕ, zero, suc, Bool, true, false, List, [], ◌∷◌, map}
use Rattle.dcc_ir.specs.Tree.{Stmt, Exit, Ret, Graph}
use Rattle.dcc_ir.specs.Flow.{targets}
use Rattle.dcc_ir.specs.Live.{block_in}

-- a point of a graph: in the block at a place, after a number of the block's statements
pub record Position : Type 0 where
  pub block : ℕ
  pub done : ℕ

-- the point at which a block begins
abbrev pub begin_of : ℕ → Position
begin_of block = record { block = block; done = 0 }

-- the point after the next statement
abbrev pub next_of : Position → Position
next_of a = record a { done = suc a.done }

-- what comes next at a point: a statement, the end of the block, or nothing, after more statements than there are
pub data Site : Type 0 where
  Executes : Stmt → Site
  Ends : Exit → Site
  Nowhere : Site

-- what comes next after a number of the statements of a block
abbrev pub site_at : ℕ → List Stmt → Exit → Site
site_at zero [] exit = Ends exit
site_at zero (stmt ∷ rest) exit = Executes stmt
site_at (suc done) [] exit = Nowhere
site_at (suc done) (stmt ∷ rest) exit = site_at done rest exit

-- what comes next at a point of a graph
abbrev pub site_of : Graph → Position → Site
site_of graph a = let block = block_in graph a.block in site_at a.done block.stmts block.exit

-- the points that may follow: the one after a statement, or where the blocks begin to which an end leads
abbrev pub nexts_of : Site → Position → List Position
nexts_of (Executes stmt) a = next_of a ∷ []
nexts_of (Ends exit) a = map begin_of (targets exit)
nexts_of Nowhere a = []

-- the procedure returns at what comes next: the end of a block by a Ret
abbrev pub is_return : Site → Bool
is_return (Ends (Ret values)) = true
is_return site = false
