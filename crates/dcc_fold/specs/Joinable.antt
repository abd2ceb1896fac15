-- Temporaries whose value may stand in the place of their one read, further on in the same chain of blocks. `IsJoinable`
-- of dcc_ir says this of one block; here the chain that the block is in stands in the block's place. What passes an
-- edge is a value that is made of locations alone: what a pass tells of memory and of the frame ends with a block.
use Rattle.std.specs.Prelude.{◌≡◌, ℕ, ◌≤◌, Bool, true, false, List, ◌∷◌, ◌++◌, map, flat_map, Contains, slice_get, Some}
use Rattle.std.specs.List.{list_all}
use Rattle.dcc_ir.specs.declared.syntax.Loc.{Loc}
use Rattle.dcc_ir.specs.declared.syntax.Loc.TheVariants.{Temp}
use Rattle.dcc_ir.specs.Tree.{Expr, Stmt, Set, Block, Graph}
use Rattle.dcc_ir.specs.Use.{reads_of, writes_of, graph_exprs}
use Rattle.dcc_ir.specs.Live.{is_among}
use Rattle.dcc_ir.specs.Measure.{depth_of}
use Rattle.dcc_ir.specs.Joinable.{with_value_for, lets_pass, times_in, next_exprs}
use Rattle.dcc_passes.specs.Renaming.{param_places}
use Rattle.dcc_substitution.specs.Available.{is_of_locations}
use Rattle.dcc_fold.specs.Chain.{Step, statement, edge, IsLed}

-- a value may pass what the chain goes over
abbrev pub lets_by : Expr → Step → Bool
lets_by value (statement stmt) = lets_pass value stmt
lets_by value edge = is_of_locations value

-- the locations that the statements of a graph write, and those that its expressions read, each as often as they do
abbrev pub all_writes : Graph → List Loc
all_writes graph = flat_map (λ b. flat_map writes_of b.stmts) graph.blocks

abbrev pub all_reads : Graph → List Loc
all_reads graph = flat_map reads_of (graph_exprs graph)

-- the temporary is no param's place, one statement writes it, and one Get of it stands in the graph
pub record IsAlone (graph : Graph) (temporary : ℕ) : Type 0 where
  pub no_param : is_among (param_places graph.params) (Temp temporary) ≡ false
  pub written_once : times_in (all_writes graph) (Temp temporary) ≡ 1
  pub read_once : times_in (all_reads graph) (Temp temporary) ≡ 1

-- the last of these steps that sets the temporary sets it to the value, which may pass those behind it
pub record IsCarried (temporary : ℕ) (value : Expr) (steps : List Step) : Type 0 where
  pub before : List Step
  pub between : List Step
  pub steps_are : steps ≡ before ++ statement (Set (Temp temporary) value) ∷ between
  pub passes : list_all (lets_by value) between ≡ true

-- with the value in the place of the temporary's Get, which it holds, the expression is at most 32 deep
pub record IsReader (temporary : ℕ) (value reader : Expr) : Type 0 where
  pub reads : is_among (reads_of reader) (Temp temporary) ≡ true
  pub shallow : depth_of (with_value_for (Temp temporary) value reader) ≤ 32

-- Before the last statements of the block at the place, along a chain there, the value of the temporary's Set has
-- passed, and the next statement, or the block's end, reads it.
pub record IsJoinable (graph : Graph) (temporary : ℕ) : Type 0 where
  pub alone : IsAlone graph temporary
  pub place : ℕ
  pub block : Block
  pub placed : slice_get graph.blocks place ≡ Some block
  pub lead : List Step
  pub led : IsLed graph place lead
  pub passed : List Stmt
  pub rest : List Stmt
  pub split : block.stmts ≡ passed ++ rest
  pub value : Expr
  pub carried : IsCarried temporary value (lead ++ map statement passed)
  pub reader : Expr
  pub read_next : Contains (next_exprs rest block.exit) reader
  pub is_reader : IsReader temporary value reader
