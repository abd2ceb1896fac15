use Rattle.std.proofs.Common.{map, take}
use Rattle.dcc_live.specs.First.{row_in, AreTold}
use Rattle.dcc_live.proofs.living.table_of.Given as goal

abbrev pub invariant-loop-row : goal.invariant-loop-row
invariant-loop-row g l = AreTold l.places (take l.row-index (map row_in l.rows.items)) l.used.items l.written.items
