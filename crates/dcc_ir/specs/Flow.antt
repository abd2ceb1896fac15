-- The flow graph of a program (F. E. Allen, Control flow analysis, 1970): blocks by their addresses, edges, paths; and
-- one flow graph that has a part of another's blocks.
use Rattle.std.specs.Prelude.{◌≡◌, ℕ, ◌==◌, Bool, true, false, ◌&&◌, ◌↔◌, ◌⊎◌, List, [], ◌∷◌, slice_get, Option, Some}
use Rattle.std.specs.Prelude.{None}
use Rattle.std.specs.List.{list_any}
use Rattle.dcc_ir.specs.Tree.{Exit, Goto, If, Switch, Ret, Stop, Block, Graph, Program}
use Rattle.dcc_ir.specs.Run.{graph_at, no_graph}

-- a flow graph: the address of the first block, the addresses of all, and the edges between them
pub record Flow : Type 0 where
  pub start : ℕ
  pub has : ℕ → Bool
  pub goes : ℕ → ℕ → Bool

-- the blocks that may follow a block, by their places in the graph
abbrev pub targets : Exit → List ℕ
targets (Goto place) = place ∷ []
targets (If test one other) = one ∷ other ∷ []
targets (Switch e places) = places
targets (Ret values) = []
targets Stop = []

-- the block, where there is one, has that address
abbrev pub stands_at : Option Block → ℕ → Bool
stands_at (Some block) at = block.at == at
stands_at None at = false

-- the block has an edge to the block at that address
abbrev pub has_edge : List Block → Block → ℕ → Bool
has_edge blocks block at = list_any (λ place. stands_at (slice_get blocks place) at) (targets block.exit)

abbrev pub first_address : List Block → ℕ
first_address (block ∷ blocks) = block.at
first_address [] = 0

-- the flow graph of a graph
abbrev pub flow_of : Graph → Flow
flow_of graph = record {
  start = first_address graph.blocks;
  has = λ a. list_any (λ block. block.at == a) graph.blocks;
  goes = λ a b. list_any (λ block. (block.at == a) && has_edge graph.blocks block b) graph.blocks;
}

-- the graph, or one without blocks
abbrev pub graph_or_none : Option Graph → Graph
graph_or_none (Some graph) = graph
graph_or_none None = no_graph

-- the flow graph of the graph with that entry
abbrev pub flow_at : Program → ℕ → Flow
flow_at p entry = flow_of (graph_or_none (graph_at p.graphs entry))

-- Paths.

-- along the blocks of the list, each of the kind, edges lead from the one block to the other
abbrev pub IsPath : (ℕ → ℕ → Bool) → (ℕ → Type 0) → ℕ → List ℕ → ℕ → Type 0
IsPath goes Between a [] c = goes a c ≡ true
IsPath goes Between a (b ∷ bs) c = (goes a b ≡ true) × Between b × IsPath goes Between b bs c

-- the kind of all blocks
abbrev pub Any : ℕ → Type 0
Any a = Unit {0}

-- the block is the first one, or a path leads there from it
abbrev pub Reached : Flow → ℕ → Type 0
Reached flow a = ((a ≡ flow.start) × (flow.has a ≡ true))
    ⊎ ((between : List ℕ) × IsPath flow.goes Any flow.start between a)

-- Contraction.

-- a path of the first graph leads from the one block to the other through blocks that the second has not
abbrev pub Leads : Flow → Flow → ℕ → ℕ → Type 0
Leads p q a b = (between : List ℕ) × IsPath p.goes (λ c. q.has c ≡ false) a between b

-- The second flow graph has a part of the first one's blocks, the first block among them. Every closed path of reached
-- blocks holds one of the second's. The edges between the second's blocks are those of the first graph, with each
-- other block taken into the block before it: each other reached block lies after one of them alone.
pub record IsContraction (p q : Flow) : Type 0 where
  pub start : q.start ≡ p.start
  pub blocks : (a : ℕ) → q.has a ≡ true → p.has a ≡ true
  pub first : p.has p.start ≡ true → q.has p.start ≡ true
  pub cycles : (a : ℕ) (between : List ℕ) → Reached p a → IsPath p.goes Any a between a
      → list_any q.has (a ∷ between) ≡ true
  pub edges : (a b : ℕ) → Reached q a → q.has b ≡ true → (q.goes a b ≡ true) ↔ Leads p q a b
  pub following_one : (a b c : ℕ) → Reached p a → Reached p b → q.has a ≡ true → q.has b ≡ true → q.has c ≡ false
      → Leads p q a c → Leads p q b c → a ≡ b

-- each reached block that the second graph has not has one edge in
abbrev pub HaveOneEdge : Flow → Flow → Type 0
HaveOneEdge p q = (a b c : ℕ) → Reached p a → Reached p b → q.has c ≡ false → p.goes a c ≡ true → p.goes b c ≡ true
    → a ≡ b
