-- the variables so far are listed
use Rattle.std.proofs.Common.{◌≡◌, map}
use Rattle.dcc_c.specs.Views.{global_of}
use Rattle.dcc_globals.specs.Gaps.{begins}
use Rattle.dcc_globals.specs.Globals.{global_at}
use Rattle.dcc_globals.specs.Marks.{data_of}
use Rattle.dcc_globals.proofs.ListLaws.{listed}
use Rattle.dcc_globals.proofs.variables.all_globals.Given as goal

abbrev pub invariant-loop-at : goal.invariant-loop-at
invariant-loop-at l =
    map global_of l.globals.items ≡ listed (global_at (data_of l.borders.runs.source)) (begins (data_of l.borders.runs.source)) l.at
