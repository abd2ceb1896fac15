-- Which points of a lifted graph stand for an instruction: those before its statements, and where it is the last one of
-- its block that at the block's end too.
use Rattle.std.specs.Prelude.{ℕ, zero, suc, ◌+◌, Bool, true, false, List, [], ◌∷◌, ◌++◌, length, get_or, if◌then◌else◌}
use Rattle.std.specs.Prelude.{Option, Some, None}
use Rattle.dcc_prog.specs.declared.procedure.Node.{Node}
use Rattle.dcc_machine.specs.declared.instr.Op.{Op}
use Rattle.dcc_machine.specs.declared.instr.Op.TheVariants.{Ret}
use Rattle.dcc_sums.specs.Points.{Position, begin_of, next_of, Site, Ends}
use Rattle.dcc_lift.specs.Blocks.{Nodes, node_in, edges_into, joins, onward, BlockSource, nodes_in, entry_in}
use Rattle.dcc_lift.specs.Blocks.{block_place}
use Rattle.dcc_lift.specs.Blocks.{stmts_at, exit_at}

-- the offset from which the first edge to an instruction leads
abbrev pub source_of : Nodes → ℕ → ℕ
source_of nodes at = get_or (edges_into nodes at) 0 0

-- the point a number of statements further on
abbrev pub advanced : Position → ℕ → Position
advanced a count = record a { done = a.done + count }

-- a number of points from one on
abbrev pub points_from : Position → ℕ → List Position
points_from a zero = []
points_from a (suc count) = a ∷ points_from (next_of a) count

-- the operation is a RET
abbrev pub is_ret : Op → Bool
is_ret (Ret count) = true
is_ret op = false

abbrev pub returns_in : Option Node → Bool
returns_in None = false
returns_in (Some node) = is_ret node.instr.op

module _ (scene : BlockSource) where
  -- how many statements stand for the instruction
  abbrev pub count_at : ℕ → ℕ
  count_at at = length (stmts_at scene at)

  -- Where an instruction's points begin: where its block does, or after the statements of the instruction before it in
  -- the block. `most` bounds how many of those before are followed.
  abbrev pub begin_within : ℕ → ℕ → Position
  begin_within zero at = begin_of (block_place scene at)
  begin_within (suc most) at =
      let source = source_of (nodes_in scene) at in
      if joins (nodes_in scene) (entry_in scene) at then advanced (begin_within most source) (count_at source)
      else begin_of (block_place scene at)

  -- where an instruction's points begin; as the source of an instruction that joins lies below it, its offset bounds
  -- how many are followed
  abbrev pub begin_at : ℕ → Position
  begin_at at = begin_within (suc at) at

  -- the point at the end of the block, if the block goes on to no other instruction
  abbrev pub end_points : Option ℕ → ℕ → List Position
  end_points None at = advanced (begin_at at) (count_at at) ∷ []
  end_points (Some next) at = []

  abbrev pub points_by : Option Node → ℕ → List Position
  points_by None at = []
  points_by (Some node) at =
      points_from (begin_at at) (count_at at) ++ end_points (onward (nodes_in scene) (entry_in scene) at) at

  -- the points of the instruction at an offset, in their order
  abbrev pub points_at : ℕ → List Position
  points_at at = points_by (node_in (nodes_in scene) at) at

  -- what comes next at the last point of the instruction: the end of its block, if the block goes on to no other
  -- instruction
  abbrev pub end_sites : Option ℕ → ℕ → List Site
  end_sites None at = Ends (exit_at scene at) ∷ []
  end_sites (Some next) at = []
