use Rattle.std.proofs.Common.{map, take, Contains}
use Rattle.std.specs.Prelude.{All}
use Rattle.dcc_live.specs.First.{Row, row_in}
use Rattle.dcc_live.proofs.rows.places.Given as goal

abbrev pub invariant-loop-row : goal.invariant-loop-row
invariant-loop-row l = All (λ (row : Row). All (Contains l.places) row.first) (take l.row-index (map row_in l.rows.items))
