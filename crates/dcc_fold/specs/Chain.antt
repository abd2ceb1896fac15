-- Chains of blocks, of which each but the first has one edge in, from a Goto at the end of the one before.
use Rattle.std.specs.Prelude.{ℕ, List, [], ◌∷◌, ◌++◌, map}
use Rattle.dcc_ir.specs.Tree.{Stmt, Block, Graph}
use Rattle.dcc_available.specs.Along.{IsOnlyEdge}

-- what a chain goes over, one after another
pub data Step : Type 0 where
  statement : Stmt → Step
  -- from the end of a block to the next one
  edge : Step

-- the statements of a block, and the edge behind them
abbrev pub steps_over : Block → List Step
steps_over block = map statement block.stmts ++ edge ∷ []

-- A chain begins with the block: no Goto is its one edge in.
abbrev pub IsFirst : Graph → ℕ → Type 0
IsFirst graph place = (from : ℕ) (block : Block) → ¬ IsOnlyEdge graph from block place

-- the steps go along the chain from its first block to the begin of the block at the place
pub data IsAlong (graph : Graph) (first : ℕ) : ℕ → List Step → Type 0 where
  begins : IsAlong graph first first []
  goes_on : {from to : ℕ} {block : Block} {steps : List Step} → IsOnlyEdge graph from block to
      → IsAlong graph first from steps → IsAlong graph first to (steps ++ steps_over block)

-- the steps go along a chain to the begin of the block at the place
pub record IsLed (graph : Graph) (place : ℕ) (steps : List Step) : Type 0 where
  pub first : ℕ
  pub is_first : IsFirst graph first
  pub along : IsAlong graph first place steps
