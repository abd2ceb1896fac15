-- What a search finds. No public contract rests on it.
use Rattle.std.specs.Prelude.{◌≡◌, ◌⊎◌, ℕ, ◌≤◌, ◌<◌, Bool, true, false, List, [], ◌∷◌, ◌++◌, map, length, get_or, Contains}
use Rattle.std.specs.Prelude.{slice_get, Some, None}
use Rattle.dcc_ir.specs.declared.syntax.Loc.TheVariants.{Temp}
use Rattle.dcc_ir.specs.Joinable.{with_value_for, next_exprs}
use Rattle.dcc_ir.specs.Live.{is_among}
use Rattle.dcc_ir.specs.Measure.{depth_of}
use Rattle.dcc_ir.specs.Tree.{Expr, Stmt, Block, Graph}
use Rattle.dcc_ir.specs.Use.{reads_of}
use Rattle.dcc_fold.specs.Chain.{Step, statement, steps_over, IsFirst, IsAlong}
use Rattle.dcc_fold.specs.Joinable.{IsAlone, IsReader}
use Rattle.dcc_fold.specs.Known.{Known, told}
use Rattle.dcc_fold.specs.Carried.{carried}
use Rattle.dcc_available.specs.Along.{IsOnlyEdge}
use Rattle.dcc_available.specs.Rows.{IsNext}

module _ (graph : Graph) where
  -- a walk with this knowledge finds that the temporary, which is alone, may be joined in the expression
  pub record IsFoundIn (known : Known) (whole : Expr) (temporary : ℕ) : Type 0 where
    pub alone : IsAlone graph temporary
    pub value : Expr
    pub is_told : told known temporary ≡ Some value
    pub shallow : depth_of (with_value_for (Temp temporary) value whole) ≤ 32

  -- the same, where the read is in a part of the expression
  abbrev pub IsFoundBy : Known → Expr → Expr → ℕ → Type 0
  IsFoundBy known whole part temporary = (is_among (reads_of part) (Temp temporary) ≡ true) × IsFoundIn known whole temporary

  -- the same, in one of some expressions
  pub record IsFoundAmong (known : Known) (es : List Expr) (temporary : ℕ) : Type 0 where
    pub reader : Expr
    pub there : Contains es reader
    pub found : IsFoundBy known reader reader temporary

  -- after these steps of a chain the temporary may be joined in one of the expressions
  pub record JoinsAmong (steps : List Step) (es : List Expr) (temporary : ℕ) : Type 0 where
    pub alone : IsAlone graph temporary
    pub value : Expr
    pub carried_is : carried temporary steps None ≡ Some value
    pub reader : Expr
    pub there : Contains es reader
    pub is_reader : IsReader temporary value reader

  -- the same, at a point of the block behind the steps
  pub record JoinsIn (steps : List Step) (block : Block) (temporary : ℕ) : Type 0 where
    pub passed : List Stmt
    pub rest : List Stmt
    pub split : block.stmts ≡ passed ++ rest
    pub joins : JoinsAmong (steps ++ map statement passed) (next_exprs rest block.exit) temporary

  -- the same, in a block of the chain that begins with the first one
  pub record JoinsAlong (first : ℕ) (temporary : ℕ) : Type 0 where
    pub place : ℕ
    pub block : Block
    pub placed : slice_get graph.blocks place ≡ Some block
    pub lead : List Step
    pub along : IsAlong graph first place lead
    pub joins : JoinsIn lead block temporary

  -- the steps go along a chain from the begin of the one block, where so many were passed, to that of the other
  pub data IsOn (begun : ℕ) (past : List Step) : ℕ → List Step → Type 0 where
    here : IsOn begun past begun past
    further : {from to : ℕ} {block : Block} {steps : List Step} → IsOnlyEdge graph from block to
        → IsOn begun past from steps → IsOn begun past to (steps ++ steps_over block)

  -- the temporary may be joined in a block of the chain, from the one at the place on, behind the steps
  pub record JoinsFrom (begun : ℕ) (past : List Step) (temporary : ℕ) : Type 0 where
    pub place : ℕ
    pub block : Block
    pub placed : slice_get graph.blocks place ≡ Some block
    pub lead : List Step
    pub on : IsOn begun past place lead
    pub joins : JoinsIn lead block temporary

  -- a block was seen since its chain begins with it, before a place, or the one before it in its chain was
  abbrev pub IsSeenFrom : ℕ → (ℕ → Bool) → ℕ → Type 0
  IsSeenFrom end seen place = (IsFirst graph place × (place < end)) ⊎ ((from : ℕ) × IsNext graph from place × (seen from ≡ true))

  -- of each block of the graph whether it was seen
  pub record AreSeen (end : ℕ) (seen : List Bool) : Type 0 where
    pub count : length seen ≡ length graph.blocks
    pub each : (place : ℕ) → get_or seen place false ≡ true → IsSeenFrom end (λ n. get_or seen n false) place
