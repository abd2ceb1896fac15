use Rattle.std.proofs.Common.{◌≡◌, ◌++◌, map, drop}
use Rattle.dcc_ir.specs.Live.{is_among}
use Rattle.dcc_c.specs.Views.{stmt_of}
use Rattle.dcc_variables.specs.Functions.{openings_from}
use Rattle.dcc_variables.specs.Views.{spelling_in}
use Rattle.dcc_variables.proofs.beginning.openings.Given as goal

-- the assignments so far, with those of the params that are left, are all
abbrev pub invariant-loop-place : goal.invariant-loop-place
invariant-loop-place l =
    let s = spelling_in l.head in
    map stmt_of l.list.items ++ openings_from s (is_among l.wanted) l.place (drop l.place l.head.params.items)
    ≡ openings_from s (is_among l.wanted) 0 l.head.params.items
