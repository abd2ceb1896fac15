-- Blocks that were rewritten, at the places of a graph.
use Rattle.std.specs.Prelude.{◌≡◌, ◌⊎◌, ℕ, List, length, slice_get, Option, Some}
use Rattle.dcc_ir.specs.declared.syntax.Block.{Block as BlockOf}
use Rattle.dcc_ir.specs.Tree.{Stmt, Block, Graph}
use Rattle.dcc_ir.specs.Views.{block_of}
use Rattle.dcc_available.specs.Along.{IsOnlyEdge, IsLead}
use Rattle.dcc_available.specs.Rewritten.{IsRewritten}

-- the block is the one at the place with substitutes, after statements that lead there along a chain
pub record IsRewrittenAt (graph : Graph) (place : ℕ) (new : Block) : Type 0 where
  pub lead : List Stmt
  pub leads : IsLead graph place lead
  pub block : Block
  pub placed : slice_get graph.blocks place ≡ Some block
  pub rewritten : IsRewritten lead block new

abbrev pub AreRewrittenRows : Graph → List (Option BlockOf) → Type 0
AreRewrittenRows graph rows =
    (place : ℕ) (new : BlockOf) → slice_get rows place ≡ Some (Some new) → IsRewrittenAt graph place (block_of new)

-- the block of a place has an edge to this one, and no other block has one
pub record IsNext (graph : Graph) (from to : ℕ) : Type 0 where
  pub block : Block
  pub only : IsOnlyEdge graph from block to

-- the third list has what the second one has, or else what the first one has
pub record ArePut (blocks : List BlockOf) (rows : List (Option BlockOf)) (news : List BlockOf) : Type 0 where
  pub count : length news ≡ length blocks
  pub each : (place : ℕ) (new : BlockOf) → slice_get news place ≡ Some new
      → (slice_get rows place ≡ Some (Some new)) ⊎ (slice_get blocks place ≡ Some new)
