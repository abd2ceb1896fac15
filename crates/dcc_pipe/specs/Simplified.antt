-- What passes leave of a program that is to have a text.
use Rattle.std.specs.Prelude.{◌≡◌, ℕ}
use Rattle.std.specs.List.{AllZip}
use Rattle.dcc_run.specs.ProgramPoint.{ProgramPoint}
use Rattle.dcc_ir.specs.Tree.{Graph, Program}
use Rattle.dcc_ir.specs.Keeps.{has_block, Keeps}
use Rattle.dcc_live.specs.Dead.{IsWithoutUnneeded}
use Rattle.dcc_flags.specs.Folded.{IsFolded}
use Rattle.dcc_pipe.specs.Textable.{IsTextable}

-- What the passes leave of a graph, one after another: each assignment that is left makes what is wanted after it; then
-- the only flags that are left are those that are kept; then each assignment makes what is wanted after it again.
pub record IsSimplifiedGraph (before after : Graph) : Type 0 where
  pub wanted : Graph
  pub folded : Graph
  pub first : IsWithoutUnneeded before wanted
  pub flags : IsFolded wanted folded
  pub last : IsWithoutUnneeded folded after

-- the second program has in the place of each graph one that a pass leaves of it, and the first one's memory
pub record HasEachChanged (Leaves : Graph → Graph → Type 0) (p q : Program) : Type 0 where
  pub graphs : AllZip Leaves p.graphs q.graphs
  pub image : q.image ≡ p.image
  pub lo : q.lo ≡ p.lo
  pub hi : q.hi ≡ p.hi

-- The second program keeps the first one's runs, and it has the same blocks. It has what a text needs, its expressions
-- at most so deep.
pub record IsSimplified (depth : ℕ) (p q : Program) : Type 0 where
  pub textable : IsTextable depth q
  pub keeps : Keeps p q
  pub places : (place : ProgramPoint) → has_block q place ≡ has_block p place
