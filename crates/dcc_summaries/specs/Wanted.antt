-- What is wanted before the points of the graphs of a program, as a table tells it.
use Rattle.std.specs.Prelude.{◌≡◌, ◌<◌, ◌↔◌, true, length}
use Rattle.dcc_ir.specs.declared.syntax.Loc.{Loc}
use Rattle.dcc_ir.specs.Tree.{Program}
use Rattle.dcc_ir.specs.Live.{is_among}
use Rattle.dcc_demand.specs.Wanted.{Wanted}
use Rattle.dcc_sums.specs.Instance.{procedures_of}
use Rattle.dcc_summaries.specs.declared.points.Point.{Point}
use Rattle.dcc_summaries.specs.declared.table.Wants.{Wants}
use Rattle.dcc_summaries.specs.Points.{position_of, graph_in}
use Rattle.dcc_summaries.specs.Table.{row_at}

-- the location is in the table just where it is wanted
pub record AreWanted (p : Program) (wants : Wants) : Type 0 where
  pub exact : (at : Point) (location : Loc) → at.graph < length p.graphs
      → (is_among (row_at wants.rows.items at) location ≡ true)
      ↔ Wanted (procedures_of p) (graph_in p at.graph).entry (position_of at) location
