use Rattle.std.proofs.Common.{◌≡◌, ◌++◌, drop}
use Rattle.dcc_flow.specs.Marks.{members}
use Rattle.dcc_live.specs.First.{others}
use Rattle.dcc_live.proofs.rows.Row.read.Given as goal

abbrev pub invariant-loop-location : goal.invariant-loop-location
invariant-loop-location l = record { first : l.self.first.items ++ others (members l.written) (drop l.location-index l.reads) ≡ l.initial.self.first.items ++ others (members l.written) l.reads; writes : l.self.writes ≡ l.initial.self.writes }
