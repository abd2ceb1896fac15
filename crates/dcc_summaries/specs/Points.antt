-- The points of the graphs of a program, by the places of the graphs.
use Rattle.std.specs.Prelude.{ℕ, suc, ◌<◌, ◌≤◌, List, length, [], map, flat_map, get_or, Option, None}
use Rattle.std.specs.List.{range_with_len}
use Rattle.dcc_ir.specs.Tree.{Block, Graph, Program}
use Rattle.dcc_ir.specs.Views.{stmt_of, exit_of}
use Rattle.dcc_ir.specs.Live.{block_in}
use Rattle.dcc_ir.specs.Run.{no_graph}
use Rattle.dcc_sums.specs.Points.{Position, Site, Executes, Ends, Nowhere, site_of}
use Rattle.dcc_sums.specs.Instance.{used_by, used_at_end, callee_of}
use Rattle.dcc_ir.specs.declared.syntax.Loc.{Loc}
use Rattle.dcc_summaries.specs.declared.points.Point.{Point}
use Rattle.dcc_summaries.specs.declared.points.Site.{Site as SiteOf}
use Rattle.dcc_summaries.specs.declared.points.Site.TheVariants.{Executes as ExecutesOf, Ends as EndsOf}

abbrev pub point_at : ℕ → ℕ → ℕ → Point
point_at graph block done = record { graph = graph; block = block; done = done }

-- the point after the statement at a point
abbrev pub next_point : Point → Point
next_point at = record at { done = suc at.done }

-- where a point stands in its graph
abbrev pub position_of : Point → Position
position_of at = record { block = at.block; done = at.done }

-- the graph at a place of a program
abbrev pub graph_in : Program → ℕ → Graph
graph_in p place = get_or p.graphs place no_graph

-- what comes next at a point of a program
abbrev pub site_in : Program → Point → Site
site_in p at = site_of (graph_in p at.graph) (position_of at)

-- what comes next at a point, as code sees it
abbrev pub site_seen : SiteOf → Site
site_seen (ExecutesOf stmt) = Executes (stmt_of stmt.now)
site_seen (EndsOf end) = Ends (exit_of end.now)

-- the procedure that is called at a point, by what comes next there
abbrev pub callee_at : Site → Option ℕ
callee_at (Executes stmt) = callee_of stmt
callee_at site = None

-- what is used at a point, by what comes next there
abbrev pub used_at : Site → List Loc
used_at (Executes stmt) = used_by stmt
used_at (Ends exit) = used_at_end exit
used_at Nowhere = []

-- a point of the program
pub record IsPoint (p : Program) (at : Point) : Type 0 where
  pub graph : at.graph < length p.graphs
  pub block : at.block < length (graph_in p at.graph).blocks
  pub done : at.done ≤ length (block_in (graph_in p at.graph) at.block).stmts

-- All points.

abbrev pub block_points : ℕ → ℕ → Block → List Point
block_points graph place block = map (point_at graph place) (range_with_len 0 (suc (length block.stmts)))

abbrev pub graph_points : ℕ → Graph → List Point
graph_points place graph =
    flat_map (λ block. block_points place block (block_in graph block)) (range_with_len 0 (length graph.blocks))

abbrev pub all_points : Program → List Point
all_points p = flat_map (λ place. graph_points place (graph_in p place)) (range_with_len 0 (length p.graphs))
