-- What the code keeps of the edges to an offset.
use Rattle.std.specs.Prelude.{◌≡◌, ℕ, List, [], ◌∷◌, length, get_or}
use Rattle.dcc_lift.specs.Blocks.{Nodes, edges_into}
use Rattle.dcc_lift.specs.declared.edges.Incoming.{Incoming}
use Rattle.dcc_lift.specs.declared.edges.Incoming.TheVariants.{Nowhere, From, Several}

-- the code's summary of a list of edges: none, one, or more
abbrev pub incoming_of : List ℕ → Incoming
incoming_of [] = Nowhere
incoming_of (from ∷ []) = From from
incoming_of (from ∷ next ∷ edges) = Several

-- the table tells the edges to each offset
pub record AreIncoming (nodes : Nodes) (table : List Incoming) : Type 0 where
  pub length_is : length table ≡ 65536
  pub told : (to : ℕ) → get_or table to Nowhere ≡ incoming_of (edges_into nodes to)
