-- A graph that stands for another.
use Rattle.std.specs.Prelude.{◌≡◌, ℕ, true, List, Contains}
use Rattle.dcc_ir.specs.Tree.{Graph, Program}
use Rattle.dcc_ir.specs.WellFormed.{IsProgram}
use Rattle.dcc_ir.specs.Flow.{flow_of}
use Rattle.dcc_ir.specs.Keeps.{Keeps}
use Rattle.dcc_ir.specs.Replaced.{with_graph}

-- The second graph stands for the first: it has its entry and no block at another address; and each well-formed program
-- that has the first stays well formed with the second in its place, and is kept.
pub record StandsFor (before after : Graph) : Type 0 where
  pub entry : after.entry ≡ before.entry
  pub addresses : (at : ℕ) → (flow_of after).has at ≡ true → (flow_of before).has at ≡ true
  pub formed : (p : Program) → IsProgram p → Contains p.graphs before → IsProgram (with_graph after p)
  pub keeps : (p : Program) → IsProgram p → Contains p.graphs before → Keeps p (with_graph after p)

module _ (image : List ℕ) (lo hi : ℕ) where
  -- the program of these graphs
  abbrev pub with_graphs : List Graph → Program
  with_graphs graphs = record { graphs = graphs; image = image; lo = lo; hi = hi }

  -- the program of the second graphs is well formed, and keeps that of the first ones
  pub record IsLeft (before after : List Graph) : Type 0 where
    pub formed : IsProgram (with_graphs after)
    pub keeps : Keeps (with_graphs before) (with_graphs after)
