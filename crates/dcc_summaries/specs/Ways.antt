-- How control comes to the points of a program: the blocks before each block, the calls and the returns.
use Rattle.std.specs.Prelude.{◌≡◌, ℕ, ◌<◌, ◌==◌, List, [], ◌∷◌, length, map, flat_map, filter, get_or, if◌then◌else◌}
use Rattle.std.specs.Prelude.{Option, Some, None}
use Rattle.std.specs.Global.{Vec}
use Rattle.dcc_ir.specs.Tree.{Program}
use Rattle.dcc_flow.specs.Edges.{rows, successors_of, ArePredecessors}
use Rattle.dcc_sums.specs.Points.{Site, is_return}
use Rattle.dcc_summaries.specs.declared.points.Point.{Point}
use Rattle.dcc_summaries.specs.declared.ways.Port.{Port}
use Rattle.dcc_summaries.specs.Points.{graph_in, site_in, callee_at}

-- for each graph the lists of blocks that code keeps
abbrev pub lists_in : List (Vec (Vec ℕ)) → List (List (List ℕ))
lists_in lists = map (λ v. rows v.items) lists

-- for each graph and each of its blocks the blocks that lead there
pub record ArePreds (p : Program) (preds : List (List (List ℕ))) : Type 0 where
  pub count : length preds ≡ length p.graphs
  pub exact : (place : ℕ) → place < length p.graphs
      → ArePredecessors (successors_of (graph_in p place)) (get_or preds place [])

abbrev pub port_at : Point → ℕ → Port
port_at at entry = record { at = at; entry = entry }

abbrev pub ports_at : Point → Option ℕ → List Port
ports_at at (Some entry) = port_at at entry ∷ []
ports_at at None = []

-- the call at a point
abbrev pub calls_at : Point → Site → List Port
calls_at at site = ports_at at (callee_at site)

-- the return of the procedure of that entry at a point
abbrev pub returns_at : Point → ℕ → Site → List Port
returns_at at entry site = if is_return site then port_at at entry ∷ [] else []

-- the calls at the points of the list; `all_returns`: the returns
module _ (p : Program) where
  abbrev pub all_calls : List Point → List Port
  all_calls points = flat_map (λ at. calls_at at (site_in p at)) points

  abbrev pub all_returns : List Point → List Port
  all_returns points = flat_map (λ at. returns_at at (graph_in p at.graph).entry (site_in p at)) points

-- the calls, or the returns, of one procedure
abbrev pub ports_of : ℕ → List Port → List Port
ports_of entry ports = filter (λ port. port.entry == entry) ports
