-- A graph in the place of another.
use Rattle.std.specs.Prelude.{◌==◌, if◌then◌else◌, map, Contains}
use Rattle.dcc_ir.specs.Tree.{Graph, Program}
use Rattle.dcc_ir.specs.WellFormed.{IsProgram}
use Rattle.dcc_ir.specs.Keeps.{KeepsInOne}

-- the program with this graph in place of the one with its entry
abbrev pub with_graph : Graph → Program → Program
with_graph graph p = record p { graphs = map (λ g. if g.entry == graph.entry then graph else g) p.graphs }

-- with the graph in place of the one with its entry the program stays well formed, and is kept
pub record IsKeptWith (graph : Graph) (p : Program) : Type 0 where
  pub formed : IsProgram (with_graph graph p)
  pub keeps : KeepsInOne p (with_graph graph p)

-- in each well-formed program that has the first graph the second may stand in its place
abbrev pub MayReplace : Graph → Graph → Type 0
MayReplace before after = (p : Program) → IsProgram p → Contains p.graphs before → IsKeptWith after p
