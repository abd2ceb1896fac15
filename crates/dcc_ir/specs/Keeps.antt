-- What a pass keeps of a program.
use Rattle.std.specs.Prelude.{◌≡◌, ◌≢◌, ℕ, ◌<◌, ◌==◌, Bool, true, List, [], ◌∷◌, map, filter, find, flat_map, All}
use Rattle.std.specs.Prelude.{Option, Some, None}
use Rattle.dcc_run.specs.ProgramPoint.{ProgramPoint}
use Rattle.dcc_run.specs.Visits.{VisitsKept}
use Rattle.dcc_ir.specs.Tree.{Stmt, Call, Block, Graph, Program}
use Rattle.dcc_ir.specs.WellFormed.{is_memory}
use Rattle.dcc_ir.specs.Run.{graph_at, no_block, inner_system, first_state, block_mark}
use Rattle.dcc_ir.specs.Flow.{graph_or_none, flow_at, Reached, IsContraction, HaveOneEdge}

-- the program has the block
abbrev pub has_block : Program → ProgramPoint → Bool
has_block p place = (flow_at p place.entry).has place.at

-- a call by the entry of its graph and its depth
abbrev pub calls_of : Stmt → List (ℕ × ℕ)
calls_of (Call results entry arguments depth) = (entry, depth) ∷ []
calls_of _ = []

abbrev pub block_or_none : Option Block → Block
block_or_none (Some block) = block
block_or_none None = no_block

-- the block at an address of the graph with that entry
abbrev pub block_at : Program → ℕ → ℕ → Block
block_at p entry at = block_or_none (find (λ block. block.at == at) (graph_or_none (graph_at p.graphs entry)).blocks)

-- the calls of the block at an address, in their order
abbrev pub calls_at : Program → ℕ → ℕ → List (ℕ × ℕ)
calls_at p entry at = flat_map calls_of (block_at p entry at).stmts

-- The calls stay in their blocks, and the second program has each block that holds a call and each to which such a
-- block goes.
pub record KeepsCalls (p q : Program) (entry : ℕ) : Type 0 where
  pub same : (a : ℕ) → Reached (flow_at p entry) a → (flow_at q entry).has a ≡ true
      → calls_at q entry a ≡ calls_at p entry a
  pub kept : (a : ℕ) → Reached (flow_at p entry) a → calls_at p entry a ≢ [] → (flow_at q entry).has a ≡ true
  pub after : (a b : ℕ) → Reached (flow_at p entry) a → calls_at p entry a ≢ [] → (flow_at p entry).goes a b ≡ true
      → (flow_at q entry).has b ≡ true

-- For every fill and input the second program's run visits its blocks as the first one's run does, with the same
-- events, and the two end alike.
abbrev pub KeepsRuns : Program → Program → Type 0
KeepsRuns p q = (fill : ℕ) (input : List ℕ) → fill < 65536 → All (λ byte. byte < 256) input →
    VisitsKept (has_block q) (inner_system p fill) block_mark (first_state p fill input)
    (inner_system q fill) block_mark (first_state q fill input)

-- The second program has the first one's graphs, each with a part of its blocks, and keeps its runs.
pub record Keeps (p q : Program) : Type 0 where
  pub entries : map (λ g. g.entry) q.graphs ≡ map (λ g. g.entry) p.graphs
  pub runs : KeepsRuns p q
  pub flow : (entry : ℕ) → IsContraction (flow_at p entry) (flow_at q entry)
  pub calls : (entry : ℕ) → KeepsCalls p q entry

-- a pass that is made once keeps the program, and each reached block that goes has one edge in
pub record KeepsInOne (p q : Program) : Type 0 where
  pub keeps : Keeps p q
  pub edges : (entry : ℕ) → HaveOneEdge (flow_at p entry) (flow_at q entry)

-- for each stack param of the graph, in their order, whether it is in memory
abbrev pub stack_params : Graph → List Bool
stack_params graph = map (λ q. is_memory q.put) (filter (λ q. q.stack) graph.params)

-- what a pass leaves of a graph beside its run: the entry, the bytes that the frame keeps in memory, the stack params
pub record KeepsFrame (before after : Graph) : Type 0 where
  pub entry : after.entry ≡ before.entry
  pub local : after.local ≡ before.local
  pub stack : stack_params after ≡ stack_params before
